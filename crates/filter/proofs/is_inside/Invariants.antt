-- `is_inside` meets its contract: the loop's invariant says what the count of misses tells of the fields passed. Assumes nothing.
use Rattle.std.proofs.Common.{◌≡◌, length}
use Rattle.policy.specs.Fields.{fields}
use Rattle.policy.specs.Values.{region_of}
use Rattle.filter.proofs.Misses.{Passed}
use Rattle.filter.proofs.is_inside.Given as goal

abbrev pub invariant-loop-k : goal.invariant-loop-k
invariant-loop-k l =
    (length l.values ≡ fields) × (length (region_of l.bounds) ≡ fields) × Passed l.values (region_of l.bounds) l.k l.missed
