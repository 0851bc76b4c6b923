-- An answer is known from its number or value, and a call that is accepted has passed its tests. Assumes nothing.
use mathlib.Core.Path.{◌≡◌, refl, ap, sym, ◌∙◌}
use mathlib.Core.Bool.{Bool, true, false, cond}
use Prim.Native.Nat.{ℕ, zero, suc}
use native.Mathlib.Omega.{arith}
use lib.Dec.{eqb}
use Rattle.std.specs.Prelude.{Ok, Err}
use Rattle.policy.specs.Refusals.{number_of, Outcome, accepted, refused, test, unless, Answered, Answer, heard, Gives, said}
use Rattle.policy.specs.declared.Refusal.{Refusal}
use Rattle.policy.specs.declared.Refusal.TheVariants.{
  BufferShort,
  CountOutside,
  LengthWrong,
  RuleBad,
  NotComplete,
  TooManyPieces,
  TooManyBoxes,
  GroupsDiffer,
  NoPlace,
}

-- The refusal that has a number.
refusal_of : ℕ → Refusal
refusal_of n =
    cond (eqb n 1) BufferShort (cond (eqb n 2) CountOutside (cond (eqb n 3) LengthWrong (cond (eqb n 4) RuleBad (cond (eqb n 5) NotComplete (
    cond (eqb n 6) TooManyPieces (cond (eqb n 7) TooManyBoxes (cond (eqb n 8) GroupsDiffer NoPlace)))))))

back : (f : Refusal) → refusal_of (number_of f) ≡ f
unfolding refusal_of
back BufferShort = refl
back CountOutside = refl
back LengthWrong = refl
back RuleBad = refl
back NotComplete = refl
back TooManyPieces = refl
back TooManyBoxes = refl
back GroupsDiffer = refl
back NoPlace = refl

pub number_once : (f g : Refusal) → number_of f ≡ number_of g → f ≡ g
number_once f g e = sym (back f) ∙ (ap refusal_of e ∙ back g)

pub said_once : (r q : Answer) → said r ≡ said q → r ≡ q
said_once (Ok n) (Ok m) e = ap Ok (cc)
said_once (Ok n) (Err f) e = let z : ◌≡◌ {A = ℕ} 0 1 = cc in absurd (omega arith)
said_once (Err f) (Ok m) e = let z : ◌≡◌ {A = ℕ} 0 1 = cc in absurd (omega arith)
said_once (Err f) (Err g) e = ap Err (number_once f g (cc))

-- What is given where a call answers a refusal, and what is known of the outcome from either answer.
module _ {A B : Type 0} {meaning : A → B} {x : Outcome B} {Laid : A → Type 0} where
  pub gives_refusal : (f : Refusal) → x ≡ refused (number_of f) → Gives meaning x Laid (Err f)
  gives_refusal f e = record { says = sym e; laid = tt }

  module _ {r : Answered A} (g : Gives meaning x Laid r) where
    pub given_refusal : (f : Refusal) → r ≡ Err f → x ≡ refused (number_of f)
    given_refusal f e = sym g.says ∙ ap (heard meaning) e

    pub given_value : (a : A) → r ≡ Ok a → x ≡ accepted (meaning a)
    given_value a e = sym g.says ∙ ap (heard meaning) e

    pub given_laid : (a : A) → r ≡ Ok a → Laid a
    given_laid a e = rw e at g.laid

pub test_accepted : {A : Type 0} (t : Bool) (n : ℕ) (x : Outcome A) {a : A} → test t n x ≡ accepted a → (t ≡ true) × (x ≡ accepted a)
test_accepted true n x e = (refl, e)
test_accepted false n x e = let z : ◌≡◌ {A = ℕ} 0 1 = cc in absurd (omega arith)

pub unless_accepted : {A : Type 0} (n : ℕ) {x a : A} → unless n x ≡ accepted a → (n ≡ 0) × (x ≡ a)
unless_accepted zero e = (refl, cc)
unless_accepted (suc n) e = let z : ◌≡◌ {A = ℕ} 0 1 = cc in absurd (omega arith)
