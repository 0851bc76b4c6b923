-- Cutting one box from another, and the group of a deny rule (01, Cutting one box from another; 02, W2). Assumes nothing.
use Rattle.std.specs.Prelude.{List, [], ◌∷◌, ◌++◌, map, Bool, false, cond, ◌&&◌, ◌||◌, ◌+◌, ◌-◌, min, max, leb, ltb}
use Rattle.lists.specs.Lists.{every_both}
use Rattle.policy.specs.Ranges.{Range, range, Region, Packet, inside}

-- The ranges, neither of them empty, have a value in common.
abbrev pub meets : Range → Range → Bool
meets r s = leb r.low s.high && leb s.low r.high

-- The boxes, neither of them empty, have a packet in common: they have as many fields, and in each a value that is in both.
abbrev pub share : Region → Region → Bool
share d a = every_both meets d a

-- The part of r below s, if any; the part above s, if any; the range that both share.
abbrev pub low_part : Range → Range → List Range
low_part r s = cond (ltb r.low s.low) (range r.low (s.low - 1) ∷ []) []

abbrev pub high_part : Range → Range → List Range
high_part r s = cond (ltb s.high r.high) (range (s.high + 1) r.high ∷ []) []

abbrev pub shared : Range → Range → Range
shared r s = range (max r.low s.low) (min r.high s.high)

-- A range in front of the later fields.
abbrev pub before : Region → Range → Region
before d r = r ∷ d

-- The printed algorithm for boxes that share a packet, field by field: the low part and the high part with d's later fields,
-- then what the later fields leave behind the shared range. The pieces stand in the order in which they are made. (Of boxes that
-- share none it says nothing of use, and `cut` does not ask it.)
unfoldable pub pieces : Region → Region → List Region
pieces [] a = []
pieces (r ∷ d) [] = []
pieces (r ∷ d) (s ∷ a) =
    map (before d) (low_part r s) ++ (map (before d) (high_part r s) ++ map (◌∷◌ (shared r s)) (pieces d a))

-- What allow box a leaves of deny box d: where they share no packet, d itself, whole.
unfoldable pub cut : Region → Region → List Region
cut d a = cond (share d a) (pieces d a) (d ∷ [])

-- Every piece, in order, replaced by what one allow leaves of it.
unfoldable pub cut_each : List Region → Region → List Region
cut_each [] a = []
cut_each (d ∷ ds) a = cut d a ++ cut_each ds a

-- The pieces after all of these allows, taken in order.
unfoldable pub group : List Region → List Region → List Region
group ds [] = ds
group ds (a ∷ allows) = group (cut_each ds a) allows

-- Some box of the list has the packet.
unfoldable pub any_has : Packet → List Region → Bool
any_has p [] = false
any_has p (b ∷ bs) = inside p b || any_has p bs
