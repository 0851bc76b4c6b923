-- `count_boxes` meets its contract: the boxes so far and those of the groups that are left are all. Assumes nothing.
use mathlib.Core.Path.{◌≡◌}
use Prim.Native.Nat.{◌+◌, ◌-◌}
use lib.ListN.{drop}
use Rattle.kept.specs.Steps.{run_size}
use Rattle.sheet.specs.Steps.{box_count}
use Rattle.kept.proofs.count_boxes.Given as goal

abbrev pub invariant-loop : goal.invariant-loop
invariant-loop l =
    (l.at + run_size (l.n - l.counter) (drop l.at l.s) ≡ run_size l.n l.s) × (l.boxes + box_count (l.n - l.counter) (drop l.at l.s) ≡ box_count l.n l.s)
