-- `add_block` meets its contract, by its two tests. Assumes nothing.
use Rattle.std.proofs.Common.{ap, ◌∙◌, arith}
use Rattle.policy.specs.Refusals.{accepted}
use Rattle.load.proofs.Blocks.{added_many, added_broken, added_sum}
use Rattle.load.proofs.add_block.Goals as goal

pub returns-then-t-whole-clause-sum : goal.returns-then-t-whole-clause-sum
returns-then-t-whole-clause-sum c = let b = c.requires.packets in added_many _ _ _ (omega arith)

pub returns-then-block-ne0-clause-sum : goal.returns-then-block-ne0-clause-sum
returns-then-block-ne0-clause-sum c = let b = c.requires.packets in added_broken _ _ _ (omega arith) c.if-block-ne0.true

pub returns-clause-sum : goal.returns-clause-sum
returns-clause-sum c =
    let b = c.requires.packets in
    ap accepted c.add_packets.ensures.0 ∙ added_sum _ _ _ (omega arith) c.if-block-ne0.false
