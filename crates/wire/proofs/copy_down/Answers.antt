-- `copy_down` meets its contract. Assumes nothing.
use native.Mathlib.Omega.{arith}
use mathlib.Core.Path.{◌≡◌, ◌∙◌}
use mathlib.Core.List.{append_assoc}
use Prim.Native.Nat.{◌+◌, ◌-◌}
use lib.ListN.{take, drop}
use Rattle.wire.specs.Steps.{copied_down}
use Rattle.wire.proofs.copy_down.Goals as goal

pub returns : goal.returns
unfolding copied_down
returns c =
    let a = c.args in
    let n : a.by + a.to - (a.by + a.from) ≡ a.to - a.from = omega arith in
    let e : a.from + (a.to - a.from) ≡ a.to = omega arith in
    (rw (n, e) at c.copy_within.ensures.after) ∙ append_assoc (take a.from a.out.now) (take (a.to - a.from) (drop (a.by + a.from) a.out.now)) (drop a.to a.out.now)
