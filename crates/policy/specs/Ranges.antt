-- Ranges, regions and packets over any number of fields (01, The five fields). Assumes nothing.
use Rattle.std.specs.Prelude.{List, [], ◌∷◌, Bool, true, false, ◌&&◌, ℕ, ◌≤◌, leb, eqb}
use Rattle.lists.specs.Lists.{every_both}

-- Both ends belong to a range.
pub record Range : Type 0 where
  pub low : ℕ
  pub high : ℕ

abbrev pub range : ℕ → ℕ → Range
range l h = record { low = l; high = h }

-- A box as mathematics has it: a range for each field. A packet is a number for each field.
abbrev pub Region : Type 0
Region = List Range

abbrev pub Packet : Type 0
Packet = List ℕ

abbrev pub within : ℕ → Range → Bool
within x r = leb r.low x && leb x r.high

-- A packet is in a box if each of its values lies in that field's range.
unfoldable pub inside : Packet → Region → Bool
inside [] [] = true
inside [] (r ∷ b) = false
inside (x ∷ p) [] = false
inside (x ∷ p) (r ∷ b) = within x r && inside p b

-- A box is never empty: no low is above its high.
unfoldable pub Whole : Region → Type 0
Whole [] = Unit {0}
Whole (r ∷ b) = (r.low ≤ r.high) × Whole b

-- b lies in d: as many fields, and each range inside that of d.
unfoldable pub Within : Region → Region → Type 0
Within [] [] = Unit {0}
Within [] (s ∷ d) = ⊥
Within (r ∷ b) [] = ⊥
Within (r ∷ b) (s ∷ d) = (s.low ≤ r.low) × (r.high ≤ s.high) × Within b d

-- A range is proper by its field's highest value if its low is not above its high, and its high not above the highest; a box, if it
-- has one such range for each highest value.
abbrev pub proper_range : ℕ → Range → Bool
proper_range h r = leb r.low r.high && leb r.high h

abbrev pub proper : List ℕ → Region → Bool
proper hs b = every_both proper_range hs b

-- A range is full if it has every value of its field; a box, if it has one such range for each highest value.
abbrev pub full_range : ℕ → Range → Bool
full_range h r = eqb r.low 0 && eqb r.high h

abbrev pub is_full : List ℕ → Region → Bool
is_full hs b = every_both full_range hs b

unfoldable pub full_over : List ℕ → Region
full_over [] = []
full_over (h ∷ hs) = range 0 h ∷ full_over hs
