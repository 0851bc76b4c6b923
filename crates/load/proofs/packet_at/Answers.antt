-- `packet_at` meets its contract. Assumes nothing.
use Rattle.std.proofs.Common.{◌<◌, refl, arith, rules}
use Rattle.policy.specs.Fields.{fields, widths}
use Rattle.wire.proofs.Steps.{width_at}
use Rattle.load.proofs.Packets.{widths_step, value_next, values_last}
use Rattle.load.proofs.packet_at.Goals as goal

pub loop-k-init : goal.loop-k-init
loop-k-init c = (search rules, omega arith, refl)

pub number_at-requires : goal.number_at-requires
number_at-requires c = let z = widths_step widths c.loop-k.k (omega arith) in (omega arith, width_at c.loop-k.k (omega arith))

pub overflow_add-at : goal.overflow_add-at
overflow_add-at c = let z = widths_step widths c.loop-k.k (omega arith) in omega arith

pub loop-k-preserved : goal.loop-k-preserved
loop-k-preserved c =
    let h = c.loop-k in
    let s = c.args.s.now in
    let t : h.k < fields = omega arith in
    let z = widths_step widths h.k t in (
      search rules,
      omega arith,
      value_next widths h.k t s h.values h.at c.number_at.result _ (omega arith) c.number_at.ensures h.invariant.2,
    )

pub returns : goal.returns
returns c = let h = c.loop-k in values_last widths _ h.values h.at h.k _ (omega arith) (omega arith) h.invariant.2
