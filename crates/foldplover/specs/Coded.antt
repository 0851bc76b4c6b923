-- The one number that C gets for an answer. Assumes nothing.
use Rattle.std.specs.Prelude.{◌≡◌, ℕ, ◌+◌, ◌<◌}
use Rattle.policy.specs.Refusals.{Answer, refusal_base, Outcome, accepted, refused, said}

-- A value as it stands; a refusal as 65,536 and its number.
abbrev pub coded : Outcome ℕ → ℕ
coded (accepted n) = n
coded (refused k) = refusal_base + k

-- A value that no refusal's number can be taken for.
abbrev pub Plain : Outcome ℕ → Type 0
Plain (accepted n) = n < refusal_base
Plain (refused k) = Unit {0}

-- A call for C: some answer of which the call below promises what it does, that answer's number, and that a value in it is
-- below every refusal.
pub record Coded (promise : Answer → Type 0) (n : ℕ) : Type 0 where
  pub answer : Answer
  pub below : promise answer
  pub number : n ≡ coded (said answer)
  pub plain : Plain (said answer)
