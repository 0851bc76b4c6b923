-- `put_fields` meets its contract: the loop's invariant says that what is left to store gives the first n fields. Assumes nothing.
use borrow.Author.Rules.{rules}
use native.Mathlib.Omega.{arith}
use mathlib.Core.Path.{◌≡◌, ap}
use Prim.Native.Nat.{◌<◌}
use lib.ListN.{length}
use Rattle.policy.specs.Fields.{fields, widths}
use Rattle.wire.proofs.Steps.{size_step, width_at, fields_next, fields_past, fields_last}
use Rattle.wire.proofs.put_fields.Goals as goal
use Rattle.wire.proofs.put_fields.Goals.{then-k-n, else-k-n}

pub put_number-requires : goal.put_number-requires
put_number-requires c =
    let z = size_step widths c.loop-k.k (omega arith) in
    (omega arith, width_at c.loop-k.k (omega arith))

pub put_number-requires-then-k-n : goal.put_number-requires-then-k-n
put_number-requires-then-k-n c =
    let z = size_step widths c.loop-k.k (omega arith) in
    (omega arith, width_at c.loop-k.k (omega arith))

pub loop-k-preserved : goal.loop-k-preserved
loop-k-preserved c =
    let s = c.loop-k in
    let a = c.args in
    let t : s.k < fields = omega arith in
    let z = size_step widths s.k t in
    let l : length a.b.low ≡ fields = search rules in
    let r : length a.b.high ≡ fields = search rules in
    elim c.if-k-n.branch [
      | then-k-n w ↦ (
        omega (arith, ap length w.out-is),
        rw (w.out-is, w.put_number-then-k-n.ensures, w.put_number.ensures) (fields_next a.n s.k s.out a.b.low a.b.high s.p _ s.invariant.1 w.if-k-n.true t (cc) (omega arith)),
      )
      | else-k-n w ↦ (
        omega (arith, ap length w.out-is),
        rw w.out-is (fields_past a.n s.k s.out a.b.low a.b.high s.p _ s.invariant.1 w.if-k-n.false _),
      )
    ]

pub returns : goal.returns
returns c =
    let s = c.loop-k in
    let a = c.args in
    fields_last a.n s.k s.out a.b.low a.b.high s.p _ s.invariant.1 c.loop-k-test.false
