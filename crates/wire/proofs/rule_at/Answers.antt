-- `rule_at` meets its contract. Assumes nothing.
use Rattle.policy.specs.Values.{region_of}
use Rattle.wire.proofs.Steps.{rule_read}
use Rattle.wire.proofs.rule_at.Goals as goal

pub returns : goal.returns
returns c =
    let a = c.args in
    rule_read a.s.now a.at (region_of c.box_at-bounds.result) c.number_at.result c.box_at-bounds.ensures c.number_at.ensures
