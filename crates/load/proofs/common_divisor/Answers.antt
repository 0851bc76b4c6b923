-- `common_divisor` meets its contract. Assumes nothing.
use Rattle.std.proofs.Common.{sym, ◌∙◌, mod-lt, arith}
use Rattle.load.proofs.Gains.{common_next, common_last}
use Rattle.load.proofs.common_divisor.Goals as goal

pub loop-y-smaller : goal.loop-y-smaller
loop-y-smaller c = mod-lt _ c.loop-y-test.true

pub loop-y-preserved : goal.loop-y-preserved
loop-y-preserved c = c.loop-y.invariant ∙ common_next _ _ c.loop-y-test.true

pub returns : goal.returns
returns c = sym (c.loop-y.invariant ∙ common_last _ _ (omega (arith, c.loop-y-test.false)))
