-- `trace_gate` meets its contract. Assumes nothing.
use native.Mathlib.Omega.{arith}
use Rattle.policy.specs.Values.{packet_of}
use Rattle.origins.proofs.Searches.{number_held}
use Rattle.origins.proofs.Traces.{dropped_denies, gate_traced, gate_small, gate_few}
use Rattle.origins.proofs.trace_gate.Goals as goal

-- The rule that drops a packet is a deny rule.
-- So it has a group.
pub group-group-requires : goal.group-group-requires
group-group-requires g c = let k = g.met.B.Boxes.checks c.args.boxes in dropped_denies k.0 _ k.1 _ c.requires

pub overflow_add-place : goal.overflow_add-place
overflow_add-place g c =
    let k = g.met.B.Boxes.checks c.args.boxes in
    let h = c.group-group.ensures in
    omega (arith, gate_few k.0 _ k.1 _ c.requires _ _ h.front (number_held h.run (packet_of c.args.p) c.first_of-number.ensures))

pub returns-clause-traced : goal.returns-clause-traced
returns-clause-traced g c =
    let k = g.met.B.Boxes.checks c.args.boxes in
    let h = c.group-group.ensures in
    gate_traced k.0 _ k.1 _ c.requires _ _ h.front (number_held h.run (packet_of c.args.p) c.first_of-number.ensures)

pub returns-clause-small : goal.returns-clause-small
returns-clause-small g c =
    let k = g.met.B.Boxes.checks c.args.boxes in
    let h = c.group-group.ensures in
    gate_small k.0 _ k.1 _ c.requires _ _ h.front (number_held h.run (packet_of c.args.p) c.first_of-number.ensures)
