-- `deny_groups` meets its contract: what is left of the groups leads to all of them. Assumes nothing.
use Prim.Native.Nat.{ℕ, ◌+◌, ◌*◌, ◌-◌, ◌≤◌}
use lib.ListN.{length, drop}
use Rattle.policy.specs.Fields.{box_size, count_size, record_size}
use Rattle.listing.specs.Steps.{group_records}
use Rattle.sheet.specs.Steps.{box_count}
use Rattle.listing.proofs.Listing.{Leads}
use Rattle.listing.proofs.deny_groups.Given as goal

abbrev pub invariant-loop : goal.invariant-loop
invariant-loop l =
    let left : ℕ = l.groups - l.counter in
    (l.start + (count_size * left + box_size * box_count left (drop l.start l.sheet)) ≤ length l.sheet) × (l.to + record_size * box_count left (drop l.start l.sheet) ≤ length l.initial.out)
    × Leads l.initial.out l.at (group_records l.groups (drop l.from l.sheet)) l.out l.to (group_records left (drop l.start l.sheet))
