-- `put_groups` meets its contract: the loop's invariant says what is left to store. Assumes nothing.
use mathlib.Core.Path.{◌≡◌}
use Prim.Native.Nat.{◌+◌, ◌*◌, ◌-◌, ◌≤◌}
use lib.ListN.{length, drop}
use lib.Seq.{sets}
use Rattle.lists.specs.Lists.{Each}
use Rattle.policy.specs.Rules.{Proper}
use Rattle.policy.specs.Move.{together}
use Rattle.sheet.specs.Steps.{groups_from, box_count}
use Rattle.kept.specs.Steps.{run_size}
use Rattle.rows.specs.Steps.{row_size, rows_numbers}
use Rattle.rows.proofs.put_groups.Given as goal

abbrev pub invariant-loop : goal.invariant-loop
invariant-loop l =
    let left = groups_from (l.n - l.counter) (drop l.start l.sheet) in
    (l.start + run_size (l.n - l.counter) (drop l.start l.sheet) ≤ length l.sheet) × (length l.table ≡ length l.initial.table)
    × (l.p + row_size * box_count (l.n - l.counter) (drop l.start l.sheet) ≤ length l.table) × Each (Each Proper) left
    × (sets l.table l.p (rows_numbers (together left)) ≡ sets l.initial.table l.at (rows_numbers (together (groups_from l.n (drop l.from l.sheet)))))
