-- `first_of` meets its contract: the loop's invariant says what is left of the search. Assumes nothing.
use mathlib.Core.Path.{◌≡◌}
use Prim.Native.Nat.{◌+◌, ◌*◌, ◌-◌, ◌≤◌}
use lib.ListN.{length}
use Rattle.lists.specs.Lists.{Each}
use Rattle.policy.specs.Rules.{Proper}
use Rattle.policy.specs.Steps.{box_number}
use Rattle.policy.specs.Values.{packet_of}
use Rattle.origins.specs.Steps.{run_boxes}
use Rattle.origins.proofs.Searches.{left_in}
use Rattle.origins.proofs.first_of.Given as goal

abbrev pub invariant-loop-number : goal.invariant-loop-number
invariant-loop-number g l =
    let packet = packet_of l.p in
    let read = g.B.Boxes.region_in in
    let numbers = g.B.Boxes.numbers l.boxes in
    let left = left_in l.run.step read numbers l.at l.run.count l.number in
    (l.at + l.run.step * (l.run.count - l.number) ≤ length numbers) × Each Proper left × (box_number packet (run_boxes read numbers l.run) ≡ l.number + box_number packet left)
