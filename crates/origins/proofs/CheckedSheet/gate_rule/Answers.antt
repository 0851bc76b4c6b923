-- `gate_rule` meets its contract. Assumes nothing.
use mathlib.Core.Path.{◌∙◌}
use Rattle.origins.proofs.Tracing.{gate_place}
use Rattle.origins.proofs.CheckedSheet.gate_rule.Goals as goal

pub returns : goal.returns
returns c = c.rule_at.ensures ∙ gate_place c.args.self.checked c.requires
