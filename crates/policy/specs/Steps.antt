-- The words in which functions on boxes say what they give. Assumes nothing.
use Rattle.std.specs.Prelude.{List, [], ◌∷◌, map, cond, ℕ, suc, ◌+◌, ◌-◌, ltb, get_or, set}
use Rattle.policy.specs.Ranges.{Range, range, Region, Packet, inside}
use Rattle.policy.specs.Rules.{Rule}

-- The range of field k, from 0.
abbrev pub range_at : Region → ℕ → Range
range_at b k = get_or b k (range 0 0)

-- The part of a box whose field k is below x, if any, and the part above x, if any.
abbrev pub part_below : Region → ℕ → ℕ → List Region
part_below b k x = cond (ltb (range_at b k).low x) (set b k (range (range_at b k).low (x - 1)) ∷ []) []

abbrev pub part_above : Region → ℕ → ℕ → List Region
part_above b k x = cond (ltb x (range_at b k).high) (set b k (range (x + 1) (range_at b k).high) ∷ []) []

-- The boxes of rules.
abbrev pub regions : List Rule → List Region
regions l = map (λ (r : Rule). r.region) l

-- The number of the first box that has the packet; where none has it, how many there are.
unfoldable pub box_number : Packet → List Region → ℕ
box_number p [] = 0
box_number p (b ∷ bs) = cond (inside p b) 0 (suc (box_number p bs))
