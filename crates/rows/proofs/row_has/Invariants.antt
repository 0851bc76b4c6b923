-- `row_has` meets its contract: the loop's invariant says that the fields that are left tell the whole. Assumes nothing.
use mathlib.Core.Path.{◌≡◌}
use mathlib.Core.Bool.{true}
use Prim.Native.Nat.{◌+◌, ◌*◌}
use lib.ListN.{length, drop}
use Rattle.policy.specs.Fields.{fields, highest}
use Rattle.policy.specs.Ranges.{inside, proper}
use Rattle.rows.specs.Steps.{spans_in}
use Rattle.rows.proofs.row_has.Given as goal

abbrev pub invariant-loop-k : goal.invariant-loop-k
invariant-loop-k l =
    (length l.values ≡ fields) × (proper (drop l.k highest) (spans_in (drop l.k highest) (drop (l.at + 2 * l.k) l.table)) ≡ true)
    × (inside (drop l.k l.values) (spans_in (drop l.k highest) (drop (l.at + 2 * l.k) l.table)) ≡ inside l.values (spans_in highest (drop l.at l.table)))
