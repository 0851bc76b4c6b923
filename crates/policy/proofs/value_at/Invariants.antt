-- `value_at` meets its contract: the loop's invariant says whether field k has been passed. Assumes nothing.
use mathlib.Core.Path.{◌≡◌}
use mathlib.Core.Bool.{cond}
use Prim.Native.Nat.{◌≤◌}
use lib.Dec.{ltb}
use lib.ListN.{get_or}
use Rattle.policy.specs.Fields.{fields}
use Rattle.policy.proofs.value_at.Given as goal

abbrev pub invariant-loop-j : goal.invariant-loop-j
invariant-loop-j l = (l.j ≤ fields) × (l.x ≡ cond (ltb l.k l.j) (get_or l.values l.k 0) 0)
