-- `full` meets its contract. Assumes nothing.
use mathlib.Core.Path.{refl}
use Rattle.policy.specs.Fields.{highest}
use Rattle.policy.specs.Ranges.{full_over}
use Rattle.policy.specs.Values.{ranges}
use Rattle.test_draws.proofs.order.full.Goals as goal

pub returns : goal.returns
unfolding ranges highest full_over
returns c = refl
