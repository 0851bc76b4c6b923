-- `load_one` meets its contract. Assumes nothing.
use Rattle.std.proofs.Common.{sym, ◌∙◌, subst}
use Rattle.load.specs.Steps.{Bounded}
use Rattle.load.proofs.Traces.{traced_load, trace_bounded}
use Rattle.load.proofs.load_one.Goals as goal

pub returns : goal.returns
returns c =
    let e = c.load_traced.ensures in
    let x = c.trace_packet.ensures in
    (e ∙ traced_load c.args.sheet.sheet.checked _ _ x.traced, subst Bounded (sym e) (trace_bounded _ x.small))
