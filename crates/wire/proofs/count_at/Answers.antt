-- `count_at` meets its contract: a number of two bytes is below 65536. Assumes nothing.
use native.Mathlib.Omega.{arith}
use lib.ListN.{take, drop, length-drop}
use lib.Seq.{length-take-le}
use Rattle.policy.specs.Fields.{count_size}
use Rattle.wire.proofs.Numbers.{bytes_all, bytes_drop, bytes_take, number_bound}
use Rattle.wire.proofs.count_at.Goals as goal

pub returns : goal.returns
returns c =
    let a = c.args in
    let s = drop a.at a.s.now in
    let b = bytes_take count_size s (bytes_drop a.at a.s.now (bytes_all a.s.now (λ i. omega (arith, c.type_inv.s i)))) in
    let small = number_bound count_size (take count_size s) (length-take-le count_size s (rw length-drop (omega arith))) b in
    (c.number_at.ensures, omega arith)
