-- Groups of proper boxes lie one behind another in their bytes. Assumes nothing.
use mathlib.Core.Path.{◌≡◌, refl}
use mathlib.Core.List.{List, [], ◌∷◌}
use Prim.Native.Nat.{◌+◌, ◌<◌}
use native.Mathlib.Omega.{arith}
use lib.ListN.{length, length-append}
use Rattle.lists.specs.Lists.{Each}
use Rattle.policy.specs.Fields.{highest, widths, box_size}
use Rattle.policy.specs.Ranges.{Region, proper}
use Rattle.policy.specs.Move.{together}
use Rattle.wire.specs.Records.{Fits, boxes_bytes, each_bytes}
use Rattle.wire.proofs.Records.{proper_fits, boxes_bytes-length}
use Rattle.sheet.specs.Pairs.{group_bytes, groups_bytes}
use Rattle.wire.proofs.Counts.{counted}
use Rattle.sheet.proofs.Pairs.{ProperGroup}
use Rattle.draft.specs.Steps.{Laid}
use Rattle.lists.proofs.Lists.{each_every}

-- Groups of proper boxes, within the total, lie one behind another in their bytes.
pub groups_laid : (gs : List (List Region)) → Each ProperGroup gs → length (together gs) < 65536 → Laid (length gs) (groups_bytes gs)
unfolding Laid each_bytes group_bytes Each together
groups_laid [] h l = refl
groups_laid (g ∷ gs) h l =
    let n : length (together (g ∷ gs)) ≡ length g + length (together gs) = length-append g (together gs) in
    let b = boxes_bytes-length g (each_every (proper highest) (Fits widths) proper_fits g h.0) in
    let c = counted box_size (length g) (boxes_bytes g) (groups_bytes gs) (omega arith) b in
    (omega (arith, c.long), rw (c.count, c.long) (omega arith), rw (c.count, c.rest) (groups_laid gs h.1 (omega arith)))
