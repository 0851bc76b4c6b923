-- `put_fields` meets its contract: the loop's invariant says that what is left to store gives the first n fields. Assumes nothing.
use mathlib.Core.Path.{◌≡◌}
use Prim.Native.Nat.{◌+◌, ◌≤◌}
use lib.ListN.{length, take, drop}
use lib.Seq.{sets}
use Rattle.policy.specs.Fields.{widths, size_of}
use Rattle.policy.specs.Values.{ranges}
use Rattle.wire.specs.Records.{ranges_bytes}
use Rattle.wire.proofs.put_fields.Given as goal

abbrev pub invariant-loop-k : goal.invariant-loop-k
invariant-loop-k l =
    (l.p + size_of (drop l.k widths) ≤ length l.out)
    × (sets l.out l.p (ranges_bytes (drop l.k (take l.n widths)) (drop l.k (ranges l.low l.high))) ≡ sets l.initial.out l.at (ranges_bytes (take l.n widths) (ranges l.low l.high)))
