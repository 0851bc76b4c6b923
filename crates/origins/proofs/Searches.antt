-- Boxes tried one after another, and those of records. Assumes nothing.
use mathlib.Core.Path.{◌≡◌, refl, ap, sym, subst, ◌∙◌}
use mathlib.Core.List.{List, [], ◌∷◌}
use mathlib.Core.Bool.{Bool, true, false, cond}
use Prim.Native.Nat.{ℕ, zero, suc, ◌+◌, ◌*◌, ◌-◌, ◌<◌, ◌≤◌}
use native.Mathlib.Omega.{arith}
use lib.ListN.{length, drop}
use Rattle.lists.specs.Lists.{Each}
use Rattle.policy.specs.Fields.{record_size}
use Rattle.policy.specs.Ranges.{Region, Packet, inside}
use Rattle.policy.specs.Rules.{Rule, Proper}
use Rattle.policy.specs.Refusals.{rules_refusal}
use Rattle.policy.specs.Steps.{box_number, regions}
use Rattle.policy.proofs.Moves.{rules_refusal-cons, rule_proper}
use Rattle.wire.specs.Records.{box_in, rule_in, rules_in, each_in}
use Rattle.origins.specs.Steps.{run_boxes, Holds}
use Rattle.origins.specs.declared.Run.{Run}
use Rattle.wire.proofs.Items.{items_turn, size_turn, items_none}

-- Boxes in numbers, of which some are passed: what is left from a number of them on.
module _ (step : ℕ) (read : List ℕ → Region) (s : List ℕ) (at count passed : ℕ) where
  abbrev pub left_in : List Region
  left_in = each_in step read (count - passed) (drop at s)

  pub none_left : count ≤ passed → left_in ≡ []
  none_left h = items_none step read (drop at s) (count - passed) (omega arith)

  module _ (some : passed < count) where
    abbrev pub this : Region
    this = read (drop at s)

    abbrev pub later : List Region
    later = each_in step read (count - (passed + 1)) (drop (at + step) s)

    pub left_turn : left_in ≡ this ∷ later
    left_turn =
        let e : count - passed - 1 ≡ count - (passed + 1) = omega arith in
        items_turn step read s at (count - passed) (omega arith) ∙ ap (λ (n : ℕ). this ∷ each_in step read n (drop (at + step) s)) e

    pub left_inside : at + step * (count - passed) ≤ length s → at + step + step * (count - (passed + 1)) ≤ length s
    left_inside h =
        let e : count - passed - 1 ≡ count - (passed + 1) = omega arith in
        let f = size_turn step read s at (count - passed) (omega arith) in
        let g : step * (count - passed - 1) ≡ step * (count - (passed + 1)) = ap (λ (n : ℕ). step * n) e in
        omega arith

    pub left_proper : Each Proper left_in → Proper this × Each Proper later
    unfolding Each
    left_proper h = subst (Each Proper) left_turn h

    -- the search for the first that has a packet
    module _ (p : Packet) {all : ℕ} (is : all ≡ passed + box_number p left_in) where
      number : all ≡ passed + box_number p (this ∷ later)
      number = is ∙ ap (λ (l : List Region). passed + box_number p l) left_turn

      pub this_has : inside p this ≡ true → passed ≡ all
      unfolding box_number
      this_has h = let e : box_number p (this ∷ later) ≡ 0 = rw h in omega (arith, number)

      pub this_misses : inside p this ≡ false → all ≡ passed + 1 + box_number p later
      unfolding box_number
      this_misses h = let e : box_number p (this ∷ later) ≡ suc (box_number p later) = rw h in omega (arith, number)

-- A run that holds boxes holds those that are read.
pub holds_read : {size : ℕ} {read : List ℕ → Region} {s : List ℕ} {run : Run} {boxes : List Region} → Holds size read s run boxes → Holds size read s run (run_boxes read s run)
holds_read h = record { apart = h.apart; inside = h.inside; fits = h.fits; are = refl; proper = subst (Each Proper) (sym h.are) h.proper }

-- What is found in a run is found in the boxes that it holds.
pub number_held : {size : ℕ} {read : List ℕ → Region} {s : List ℕ} {run : Run} {boxes : List Region} → Holds size read s run boxes → (p : Packet) {i : ℕ}
    → i ≡ box_number p (run_boxes read s run) → i ≡ box_number p boxes
number_held h p is = is ∙ ap (box_number p) h.are

-- A number is at most how many there are.
pub number_within : (p : Packet) (bs : List Region) → box_number p bs ≤ length bs
unfolding box_number
number_within p [] = omega arith
number_within p (b ∷ bs) = go (inside p b) (number_within p bs)
  where
    go : (t : Bool) → box_number p bs ≤ length bs → cond t 0 (suc (box_number p bs)) ≤ suc (length bs)
    go true h = omega arith
    go false h = omega arith

pub regions-length : (rs : List Rule) → length (regions rs) ≡ length rs
regions-length [] = refl
regions-length (r ∷ rs) = ap suc (regions-length rs)

-- The boxes of records are those of the rules.
pub record_regions : (n : ℕ) (s : List ℕ) → each_in record_size box_in n s ≡ regions (rules_in n s)
unfolding each_in rule_in
record_regions zero s = refl
record_regions (suc n) s = ap (λ (l : List Region). box_in s ∷ l) (record_regions n (drop record_size s))

-- Where no rule is bad, every box is proper.
pub rules_proper : (rs : List Rule) → rules_refusal rs ≡ 0 → Each Proper (regions rs)
unfolding Each
rules_proper [] h = tt
rules_proper (r ∷ rs) h = let f = rules_refusal-cons r rs h in (rule_proper r f.0, rules_proper rs f.1)
