-- `box_at` meets its contract: the loop's invariant says that what is read and what is left of the bytes give the whole box. Assumes nothing.
use mathlib.Core.Path.{◌≡◌}
use mathlib.Core.List.{◌++◌}
use Prim.Native.Nat.{◌+◌, ◌≤◌}
use lib.ListN.{length, take, drop}
use Rattle.policy.specs.Fields.{fields, widths, size_of}
use Rattle.policy.specs.Values.{ranges}
use Rattle.wire.specs.Records.{ranges_in}
use Rattle.wire.proofs.box_at.Given as goal

abbrev pub invariant-loop-k : goal.invariant-loop-k
invariant-loop-k l =
    (length l.low ≡ fields) × (length l.high ≡ fields) × (l.p + size_of (drop l.k widths) ≤ length l.s)
    × (ranges (take l.k l.low) (take l.k l.high) ++ ranges_in (drop l.k widths) (drop l.p l.s) ≡ ranges_in widths (drop l.at l.s))
