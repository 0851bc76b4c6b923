-- Check: is section C what A gives? (01, Calls and Numbers given back). Assumes nothing.
use Rattle.std.specs.Prelude.{List, Bool, not, ◌&&◌, ℕ, eqb}
use Rattle.lists.specs.Lists.{every_both}
use Rattle.policy.specs.Fields.{Limits}
use Rattle.policy.specs.Ranges.{Range, Region}
use Rattle.policy.specs.Refusals.{given, or_else}
use Rattle.policy.specs.Move.{slots_of, Pair, moved, work}

abbrev pub same_range : Range → Range → Bool
same_range r s = eqb r.low s.low && eqb r.high s.high

-- As many groups, in each as many boxes, and the same ranges.
unfoldable pub same_groups : List (List Region) → List (List Region) → Bool
same_groups gs hs = every_both (every_both (every_both same_range)) gs hs

-- After reading: 6 over all groups of A, then 8 unless the groups are those that A gives.
unfoldable pub check_refusal : Limits → Pair → ℕ
check_refusal lim s =
    or_else (work lim (slots_of s.order)) (given (not (same_groups s.groups (moved s.order).groups)) 8)
