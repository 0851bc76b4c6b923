-- The numbers given back, and the answers of the code read as numbers and values (01, Numbers given back).
-- Assumes nothing.
use Rattle.std.specs.Prelude.{◌≡◌, List, [], ◌∷◌, Bool, true, false, not, ℕ, zero, suc, Result, Ok, Err, IfOk}
use Rattle.policy.specs.Rules.{Rule, sound}
use Rattle.policy.specs.declared.Refusal.{Refusal}
use Rattle.policy.specs.declared.Refusal.TheVariants.{
  BufferShort,
  CountOutside,
  LengthWrong,
  RuleBad,
  NotComplete,
  TooManyPieces,
  TooManyBoxes,
  GroupsDiffer,
  NoPlace,
}

-- The table's number of each refusal.
abbrev pub number_of : Refusal → ℕ
number_of BufferShort = 1
number_of CountOutside = 2
number_of LengthWrong = 3
number_of RuleBad = 4
number_of NotComplete = 5
number_of TooManyPieces = 6
number_of TooManyBoxes = 7
number_of GroupsDiffer = 8
number_of NoPlace = 9

-- For C an answer is one number: a refusal is this and its own, above every value.
abbrev pub refusal_base : ℕ
refusal_base = 65536

-- What a call comes to: a value, or the number that it is refused with.
pub data Outcome (A : Type 0) : Type 0 where
  accepted : A → Outcome A
  refused : ℕ → Outcome A

-- A cause of refusal at its place in the order: where its test fails its number is given, and nothing after it counts.
abbrev pub test : {A : Type 0} → Bool → ℕ → Outcome A → Outcome A
test true n x = x
test false n x = refused n

-- Going on with what was accepted so far.
abbrev pub and_then : {A B : Type 0} → Outcome A → (A → Outcome B) → Outcome B
and_then (accepted a) f = f a
and_then (refused n) f = refused n

-- A number that is given if its test holds, and 0 if it is not; the first of two numbers that is given; the outcome that
-- such a number stands for.
abbrev pub given : Bool → ℕ → ℕ
given true n = n
given false n = 0

abbrev pub or_else : ℕ → ℕ → ℕ
or_else zero n = n
or_else (suc m) n = suc m

abbrev pub unless : {A : Type 0} → ℕ → A → Outcome A
unless zero a = accepted a
unless (suc n) a = refused (suc n)

-- Number 4 over the rules of a list, in their order.
unfoldable pub rules_refusal : List Rule → ℕ
rules_refusal [] = 0
rules_refusal (r ∷ l) = or_else (given (not (sound r)) 4) (rules_refusal l)

-- What the code answers with: a value, or its refusal. The value is read as what it stands for, and the refusal as its number.
abbrev pub Answered : Type 0 → Type 0
Answered A = Result A Refusal

abbrev pub heard : {A B : Type 0} → (A → B) → Answered A → Outcome B
heard meaning (Ok a) = accepted (meaning a)
heard meaning (Err f) = refused (number_of f)

-- A call gives an outcome: its answer is heard as that, and of a value answered this is said besides.
pub record Gives {A B : Type 0} (meaning : A → B) (x : Outcome B) (Laid : A → Type 0) (r : Answered A) : Type 0 where
  pub says : heard meaning r ≡ x
  pub laid : IfOk r Laid

-- The value answered, mostly a length, or the refusal's number.
abbrev pub Answer : Type 0
Answer = Answered ℕ

abbrev pub said : Answer → Outcome ℕ
said r = heard (λ n. n) r
