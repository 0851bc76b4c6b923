-- `scan` meets its contract: the outer invariant says what is left of the search, the inner one that every field passed is in
-- its range, whatever the order. Assumes nothing.
use Rattle.std.proofs.Common.{◌≡◌, ℕ, ◌<◌, ◌≤◌}
use Rattle.policy.specs.Fields.{fields}
use Rattle.policy.specs.Values.{region_of}
use Rattle.filter.proofs.Insides.{InRange}
use Rattle.filter.proofs.Lookups.{Left}
use Rattle.filter.proofs.scan.Given as goal

abbrev pub invariant-fields : goal.invariant-fields
invariant-fields l = (l.i ≡ l.initial.i) × ((j : ℕ) → l.k ≤ j → j < fields → InRange l.values (region_of l.r.bounds) j)

abbrev pub invariant-rules : goal.invariant-rules
invariant-rules l = Left l.values l.list l.count l.i
