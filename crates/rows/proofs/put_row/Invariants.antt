-- `put_row` meets its contract: the loop's invariant says what is left to store. Assumes nothing.
use mathlib.Core.Path.{◌≡◌}
use Prim.Native.Nat.{◌+◌, ◌*◌}
use lib.ListN.{length, drop}
use lib.Seq.{sets}
use Rattle.policy.specs.Values.{region_of}
use Rattle.rows.specs.Steps.{row_numbers}
use Rattle.rows.proofs.put_row.Given as goal

abbrev pub invariant-loop-k : goal.invariant-loop-k
invariant-loop-k l =
    (length l.table ≡ length l.initial.table)
    × (sets l.table (l.at + 2 * l.k) (row_numbers (drop l.k (region_of l.b))) ≡ sets l.initial.table l.at (row_numbers (region_of l.b)))
