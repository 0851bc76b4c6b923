-- `range_at` meets its contract: two numbers, or the halves of one. Assumes nothing.
use native.Mathlib.Omega.{arith}
use mathlib.Core.Path.{◌≡◌}
use lib.ListN.{drop, length-drop}
use lib.Seq.{drop-drop}
use Rattle.wire.proofs.Numbers.{bytes_all, bytes_drop, halves}
use Rattle.wire.proofs.range_at.Goals as goal

pub returns-then-w-eq2 : goal.returns-then-w-eq2
returns-then-w-eq2 c =
    let a = c.args in
    let s = drop a.at a.s.now in
    let h = halves s (rw length-drop (omega arith)) (bytes_drop a.at a.s.now (bytes_all a.s.now (λ i. omega (arith, c.type_inv.s i)))) in
    let e : a.w ≡ 2 = c.if-w-eq2.true in
    rw (e, c.four_at-both.ensures, ← drop-drop 2 a.at a.s.now) h
