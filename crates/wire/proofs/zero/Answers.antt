-- `zero` meets its contract. Assumes nothing.
use native.Mathlib.Omega.{arith}
use mathlib.Core.Path.{◌≡◌}
use mathlib.Core.List.{List}
use Prim.Native.Nat.{ℕ, ◌+◌, ◌-◌}
use lib.ListN.{length, take, drop, length-drop}
use lib.Seq.{drop-drop, length-take-le}
use Rattle.wire.specs.Buffers.{zeroed}
use Rattle.wire.proofs.zero.Goals as goal

pub returns : goal.returns
unfolding zeroed
returns c =
    let a = c.args in
    let s : List ℕ = drop a.from a.out.now in
    let n : length (take (a.to - a.from) s) ≡ a.to - a.from = length-take-le (a.to - a.from) s (rw length-drop (omega arith)) in
    let e : a.from + (a.to - a.from) ≡ a.to = omega arith in
    rw (c.fill.ensures.after (λ y h. h), n, drop-drop (a.to - a.from) a.from a.out.now, e)
