-- `own_rule` meets its contract. Assumes nothing.
use mathlib.Core.Path.{◌∙◌}
use Rattle.origins.proofs.Tracing.{own_place}
use Rattle.origins.proofs.CheckedSheet.own_rule.Goals as goal

pub returns : goal.returns
returns c = c.rule_at.ensures ∙ own_place c.args.self.checked c.requires
