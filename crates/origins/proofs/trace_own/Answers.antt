-- `trace_own` meets its contract. Assumes nothing.
use native.Mathlib.Omega.{arith}
use mathlib.Core.Path.{ap, ◌∙◌}
use Rattle.policy.specs.Move.{Pair}
use Rattle.policy.specs.Values.{packet_of, rule_of}
use Rattle.origins.specs.Steps.{place_in}
use Rattle.origins.proofs.Searches.{number_held}
use Rattle.origins.proofs.Traces.{own_count_lem, boxes_count_lem, own_there, own_traced, traced_small}
use Rattle.origins.proofs.trace_own.Goals as goal

pub own_rule-record-requires : goal.own_rule-record-requires
own_rule-record-requires g c =
    let k = g.met.B.Boxes.checks c.args.boxes in
    let there = own_there k.0 _ k.1 _ c.requires _ (number_held c.own.ensures (packet_of c.args.p) c.first_of-rule.ensures) in
    omega (arith, there, own_count_lem c.sheet-sheet.result.checked c.sheet-sheet.ensures)

pub overflow_add-place : goal.overflow_add-place
overflow_add-place g c =
    let k = g.met.B.Boxes.checks c.args.boxes in
    let there = own_there k.0 _ k.1 _ c.requires _ (number_held c.own.ensures (packet_of c.args.p) c.first_of-rule.ensures) in
    let checked = c.sheet-sheet.result.checked in
    omega (arith, there, own_count_lem checked c.sheet-sheet.ensures, checked.laid.total_limit)

pub returns-clause-traced : goal.returns-clause-traced
returns-clause-traced g c =
    let k = g.met.B.Boxes.checks c.args.boxes in
    let rule = c.first_of-rule.result in
    own_traced k.0 _ k.1 _ c.requires rule (number_held c.own.ensures (packet_of c.args.p) c.first_of-rule.ensures)
    (rule_of c.own_rule-record.result) (c.own_rule-record.ensures ∙ ap (λ (q : Pair). place_in q.order.own rule) c.sheet-sheet.ensures)
    _ (boxes_count_lem c.sheet-sheet.result.checked c.sheet-sheet.ensures)

pub returns-clause-small : goal.returns-clause-small
returns-clause-small g c =
    let k = g.met.B.Boxes.checks c.args.boxes in
    let rule = c.first_of-rule.result in
    traced_small k.0 _ k.1 _ _
    (own_traced k.0 _ k.1 _ c.requires rule (number_held c.own.ensures (packet_of c.args.p) c.first_of-rule.ensures)
    (rule_of c.own_rule-record.result) (c.own_rule-record.ensures ∙ ap (λ (q : Pair). place_in q.order.own rule) c.sheet-sheet.ensures)
    _ (boxes_count_lem c.sheet-sheet.result.checked c.sheet-sheet.ensures))
