-- The pair sheet (01, Sheets and Numbers given back). Assumes nothing.
use Rattle.std.specs.Prelude.{List, [], ◌∷◌, ◌++◌, Bool, ℕ, zero, suc, ◌+◌, ◌*◌, ◌-◌, leb, eqb, length, drop}
use Rattle.lists.specs.Lists.{every}
use Rattle.policy.specs.Fields.{highest, box_size, count_size, Limits, limits}
use Rattle.policy.specs.Ranges.{Region, proper}
use Rattle.policy.specs.Rules.{denies}
use Rattle.policy.specs.Refusals.{Outcome, accepted, test, and_then}
use Rattle.policy.specs.Move.{Order, Pair}
use Rattle.wire.specs.Numbers.{number_bytes}
use Rattle.wire.specs.Records.{boxes_bytes, boxes_in, each_bytes}
use Rattle.sheet.specs.Sections.{Reading, reading}
use Rattle.sheet.specs.Orders.{ended, lists_in, order_bytes, order_size}
use Rattle.wire.specs.Lists.{count_in}

-- The bytes that a group of n boxes takes, and the boxes of the group at the front of the bytes.
abbrev pub group_size : ℕ → ℕ
group_size n = count_size + box_size * n

abbrev pub group_boxes : List ℕ → List Region
group_boxes s = boxes_in (count_in s) (drop count_size s)

abbrev proper_box : Region → Bool
proper_box b = proper highest b

abbrev pub behind : List Region → Reading (List (List Region)) → Reading (List (List Region))
behind g r = reading (g ∷ r.value) r.rest

-- So many groups, with what boxes and own rules came to before them. For each: its count is there (3), the running total is
-- within the limit (7), its boxes are there (3), each of them is a box (4).
unfoldable pub groups_in : Limits → ℕ → ℕ → List ℕ → Outcome (Reading (List (List Region)))
groups_in lim zero total s = accepted (reading [] s)
groups_in lim (suc n) total s =
    test (leb count_size (length s)) 3
    (test (leb (total + count_in s) lim.total) 7
    (test (leb (group_size (count_in s)) (length s)) 3
    (test (every proper_box (group_boxes s)) 4
    (and_then (groups_in lim n (total + count_in s) (drop (group_size (count_in s)) s)) (λ r. accepted (behind (group_boxes s) r))))))

-- Section C behind A and B: the count of groups is there (3) and is that of A's deny rules (8), then the groups, then nothing.
unfoldable pub group_section : Limits → Order → List ℕ → Outcome Pair
group_section lim o s =
    test (leb count_size (length s)) 3
    (test (eqb (count_in s) (denies o.gate)) 8
    (and_then (groups_in lim (denies o.gate) (length o.own) (drop count_size s)) (λ r. ended r (record { order = o; groups = r.value }))))

unfoldable pub pair_in : Limits → List ℕ → Outcome Pair
pair_in lim s = and_then (lists_in lim s) (λ r. group_section lim r.value r.rest)

-- Written: A, B, the count of groups, and each group as its count and its boxes.
unfoldable pub group_bytes : List Region → List ℕ
group_bytes g = number_bytes count_size (length g) ++ boxes_bytes g

abbrev pub groups_bytes : List (List Region) → List ℕ
groups_bytes gs = each_bytes group_bytes gs

unfoldable pub pair_bytes : Pair → List ℕ
pair_bytes s = order_bytes s.order ++ (number_bytes count_size (length s.groups) ++ groups_bytes s.groups)

-- The largest pair sheet: A and B full, a group for each gate rule, and boxes up to the total.
abbrev pub pair_size : ℕ
pair_size = order_size + (count_size + count_size * limits.gate + box_size * (limits.total - limits.own))
