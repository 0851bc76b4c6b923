-- `put_rows` meets its contract: the loop's invariant says what is left to store. Assumes nothing.
use mathlib.Core.Path.{◌≡◌}
use Prim.Native.Nat.{◌+◌, ◌*◌, ◌-◌, ◌≤◌}
use lib.ListN.{length}
use lib.Seq.{sets}
use Rattle.lists.specs.Lists.{Each}
use Rattle.policy.specs.Rules.{Proper}
use Rattle.wire.specs.Records.{box_in}
use Rattle.origins.specs.Steps.{run_boxes}
use Rattle.origins.proofs.Searches.{left_in}
use Rattle.rows.specs.Steps.{row_size, rows_numbers}
use Rattle.rows.proofs.put_rows.Given as goal

abbrev pub invariant-loop : goal.invariant-loop
invariant-loop l =
    let left = left_in l.run.step box_in l.sheet l.start l.run.count l.counter in
    (l.start + l.run.step * (l.run.count - l.counter) ≤ length l.sheet) × (length l.table ≡ length l.initial.table)
    × (l.p + row_size * (l.run.count - l.counter) ≤ length l.table) × Each Proper left
    × (sets l.table l.p (rows_numbers left) ≡ sets l.initial.table l.at (rows_numbers (run_boxes box_in l.sheet l.run)))
