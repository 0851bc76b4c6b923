-- `deny_boxes` meets its contract: what is left of the boxes leads to all of them. Assumes nothing.
use Prim.Native.Nat.{◌+◌, ◌*◌, ◌-◌}
use lib.ListN.{drop}
use Rattle.policy.specs.Fields.{box_size, record_size}
use Rattle.listing.specs.Steps.{box_records}
use Rattle.listing.proofs.Listing.{Leads}
use Rattle.listing.proofs.deny_boxes.Given as goal

abbrev pub invariant-loop-i : goal.invariant-loop-i
invariant-loop-i l =
    Leads l.initial.out l.at (box_records l.n (drop l.from l.sheet)) l.out (l.at + record_size * l.i) (box_records (l.n - l.i) (drop (l.from + box_size * l.i) l.sheet))
