-- `Box::narrow` meets its contract: the loop's invariant says whether field k has been passed. Assumes nothing.
use mathlib.Core.Path.{◌≡◌}
use mathlib.Core.Bool.{cond}
use Prim.Native.Nat.{◌≤◌}
use lib.Dec.{ltb}
use lib.ListN.{set}
use Rattle.policy.specs.Fields.{fields}
use Rattle.policy.specs.Values.{range_of, region_of}
use Rattle.policy.proofs.Box.narrow.Given as goal

abbrev pub invariant-loop-j : goal.invariant-loop-j
invariant-loop-j l =
    (l.j ≤ fields) × (region_of l.b ≡ cond (ltb l.k l.j) (set (region_of l.initial.b) l.k (range_of l.r)) (region_of l.initial.b))
