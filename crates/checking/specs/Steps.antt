-- What the inner parts of check answer. Assumes nothing.
use Rattle.std.specs.Prelude.{◌≡◌, List, Bool, true, false, ℕ, take, drop}
use Rattle.policy.specs.Fields.{limits}
use Rattle.policy.specs.Refusals.{Answered, Gives}
use Rattle.sheet.specs.Steps.{pair_at, PairLaid}
use Rattle.sheet.specs.declared.PairLayout.{PairLayout}
use Rattle.draft.specs.declared.Drafted.{Drafted}
use Rattle.promises.specs.Calls.{check_of}

-- Whether a draft has as many boxes as the sheet has, and is all that stands where the sheet's groups begin.
pub record SameGroups (s : List ℕ) (l : PairLayout) (draft : List ℕ) (d : Drafted) (r : Bool) : Type 0 where
  pub yes : r ≡ true → (d.boxes ≡ l.boxes) × (take d.end draft ≡ drop l.from s)
  pub no : r ≡ false → d.boxes ≡ l.boxes → take d.end draft ≡ drop l.from s → ⊥

-- Check: the pair of a sheet that passes it, and where its parts lie; or the refusal.
abbrev pub CheckRead : List ℕ → Answered PairLayout → Type 0
CheckRead s r = Gives (λ l. pair_at l s) (check_of limits s) (PairLaid s) r
