-- An answer and its number: what each case of the code says, and that the number tells the answer. Assumes nothing.
use Rattle.std.specs.Prelude.{Ok, Err}
use mathlib.Core.Path.{◌≡◌, ap, sym, subst, ◌∙◌}
use Prim.Native.Nat.{ℕ, ◌+◌, ◌<◌}
use native.Mathlib.Omega.{arith}
use Rattle.policy.specs.Refusals.{Answer, refusal_base, Outcome, accepted, refused, number_of, said}
use Rattle.policy.specs.declared.Refusal.{Refusal}
use Rattle.policy.proofs.Answers.{said_once}
use Rattle.foldplover.specs.Coded.{coded, Plain, Coded}

module _ (a : Answer) where
  pub length_small : Plain (said a) → (n : ℕ) → a ≡ Ok n → n < refusal_base
  length_small h n e = subst (λ (q : Answer). Plain (said q)) e h

  pub refused_number : (f : Refusal) → a ≡ Err f → refusal_base + number_of f ≡ coded (said a)
  refused_number f e = sym (ap (λ (q : Answer). coded (said q)) e)

-- The number tells the outcome: no two have the same.
tells : (x y : Outcome ℕ) → Plain x → Plain y → coded x ≡ coded y → x ≡ y
tells (accepted n) (accepted m) p q e = ap accepted e
tells (accepted n) (refused k) p q e = absurd (omega arith)
tells (refused j) (accepted m) p q e = absurd (omega arith)
tells (refused j) (refused k) p q e = ap refused (omega arith)

-- Two calls for C gave the same number exactly if the calls below gave the same answer.
module _ {P Q : Answer → Type 0} {n m : ℕ} (x : Coded P n) (y : Coded Q m) where
  pub number_tells : n ≡ m → x.answer ≡ y.answer
  number_tells e = said_once x.answer y.answer (tells (said x.answer) (said y.answer) x.plain y.plain (sym x.number ∙ (e ∙ y.number)))

  pub same_number : x.answer ≡ y.answer → n ≡ m
  same_number e = x.number ∙ (ap (λ (q : Answer). coded (said q)) e ∙ sym y.number)
