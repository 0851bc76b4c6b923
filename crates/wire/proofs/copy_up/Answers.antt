-- `copy_up` meets its contract. Assumes nothing.
use native.Mathlib.Omega.{arith}
use mathlib.Core.Path.{◌≡◌, ◌∙◌}
use mathlib.Core.List.{append_assoc}
use Prim.Native.Nat.{◌+◌, ◌-◌}
use lib.ListN.{take, drop}
use Rattle.wire.specs.Steps.{copied_up}
use Rattle.wire.proofs.copy_up.Goals as goal

pub returns : goal.returns
unfolding copied_up
returns c =
    let a = c.args in
    let n : a.n - 0 ≡ a.n = omega arith in
    (rw n at c.copy_within.ensures.after) ∙ append_assoc (take a.by a.out.now) (take a.n a.out.now) (drop (a.by + a.n) a.out.now)
