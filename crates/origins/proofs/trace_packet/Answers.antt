-- `trace_packet` meets its contract. Assumes nothing.
use native.Mathlib.Omega.{arith}
use mathlib.Core.Path.{ap, sym, ◌∙◌}
use Rattle.policy.specs.Move.{Pair}
use Rattle.policy.specs.Values.{packet_of}
use Rattle.origins.specs.Steps.{place_in, TraceSmall}
use Rattle.origins.proofs.Searches.{number_held}
use Rattle.origins.proofs.Traces.{run_count, gate_count_lem, nowhere, gate_there, gate_allows, gate_drops}
use Rattle.origins.proofs.trace_packet.Goals as goal

pub returns-then-rule-gate-clause-traced : goal.returns-then-rule-gate-clause-traced
returns-then-rule-gate-clause-traced g c =
    let k = g.met.B.Boxes.checks c.args.boxes in
    let h = c.gate-gate.ensures in
    nowhere k.0 _ k.1 _ _ (number_held h (packet_of c.args.p) c.first_of-rule.ensures) (c.if-rule-gate.true ∙ run_count _ h)

pub returns-then-rule-gate-clause-small : goal.returns-then-rule-gate-clause-small
unfolding TraceSmall
returns-then-rule-gate-clause-small g c = tt

pub gate_rule-record-requires : goal.gate_rule-record-requires
gate_rule-record-requires g c =
    let k = g.met.B.Boxes.checks c.args.boxes in
    let h = c.gate-gate.ensures in
    let there =
    gate_there k.0 _ k.1 _ _ (number_held h (packet_of c.args.p) c.first_of-rule.ensures) (λ e. c.if-rule-gate.false (e ∙ sym (run_count _ h))) in
    omega (arith, there, gate_count_lem c.sheet.result.checked c.sheet.ensures)

pub trace_own-requires : goal.trace_own-requires
trace_own-requires g c =
    let k = g.met.B.Boxes.checks c.args.boxes in
    let h = c.gate-gate.ensures in
    let rule = c.first_of-rule.result in
    gate_allows k.0 _ k.1 _ _ (number_held h (packet_of c.args.p) c.first_of-rule.ensures) (λ e. c.if-rule-gate.false (e ∙ sym (run_count _ h)))
    (c.gate_rule-record.ensures ∙ ap (λ (q : Pair). place_in q.order.gate rule) c.sheet.ensures) c.is_allow.ensures c.if-is_allow.true

pub trace_gate-requires : goal.trace_gate-requires
trace_gate-requires g c =
    let k = g.met.B.Boxes.checks c.args.boxes in
    let h = c.gate-gate.ensures in
    let rule = c.first_of-rule.result in
    gate_drops k.0 _ k.1 _ _ (number_held h (packet_of c.args.p) c.first_of-rule.ensures) (λ e. c.if-rule-gate.false (e ∙ sym (run_count _ h)))
    (c.gate_rule-record.ensures ∙ ap (λ (q : Pair). place_in q.order.gate rule) c.sheet.ensures) c.is_allow.ensures c.if-is_allow.false
