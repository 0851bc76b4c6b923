-- `box_at` meets its contract: the loop's invariant says that what is read and what is left of the bytes give the whole box. Assumes nothing.
use borrow.Author.Rules.{rules}
use native.Mathlib.Omega.{arith}
use mathlib.Core.Path.{refl}
use Prim.Native.Nat.{◌<◌}
use Rattle.policy.specs.Fields.{fields, widths}
use Rattle.policy.specs.Values.{ranges}
use Rattle.wire.proofs.Steps.{size_step, width_at, read_next, read_last}
use Rattle.wire.proofs.box_at.Goals as goal

pub loop-k-init : goal.loop-k-init
unfolding ranges
loop-k-init c = (search rules, search rules, omega arith, refl)

pub range_at-r-requires : goal.range_at-r-requires
range_at-r-requires c =
    let z = size_step widths c.loop-k.k (omega arith) in
    (omega arith, width_at c.loop-k.k (omega arith))

pub loop-k-preserved : goal.loop-k-preserved
loop-k-preserved c =
    let h = c.loop-k in
    let s = c.args.s.now in
    let t : h.k < fields = omega arith in
    let z = size_step widths h.k t in (
      search rules,
      search rules,
      omega arith,
      read_next widths h.k t s h.low h.high h.p c.range_at-r.result.low c.range_at-r.result.high _ (cc) (omega arith) c.range_at-r.ensures.0 c.range_at-r.ensures.1 h.invariant.3,
    )

pub returns : goal.returns
returns c =
    let h = c.loop-k in
    read_last widths c.args.s.now h.low h.high h.p h.k _ (omega arith) (omega arith) (omega arith) h.invariant.3
