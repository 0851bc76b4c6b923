-- `rule_of` meets its contract. Assumes nothing.
use mathlib.Core.Path.{refl}
use Rattle.records.specs.Calls.{numbers_rule}
use Rattle.records.proofs.rule_of.Goals as goal

pub returns : goal.returns
unfolding numbers_rule
returns c = rw (c.values_at-low.ensures, c.values_at-high.ensures) refl
