-- `any_allow` meets its contract. Assumes nothing.
use native.Mathlib.Omega.{arith}
use mathlib.Core.Path.{◌≡◌, refl, ◌∙◌}
use Rattle.edit_groups.proofs.Touched.{no_rule, one_rule}
use Rattle.edit_groups.proofs.any_allow.Goals as goal

pub returns-then-n-ne0 : goal.returns-then-n-ne0
returns-then-n-ne0 c = c.is_allow.ensures ∙ one_rule _ _ _ (omega arith) c.rule_at.ensures

pub returns-else-n-ne0 : goal.returns-else-n-ne0
returns-else-n-ne0 c = let e : c.args.n ≡ 0 = omega arith in rw e (no_rule c.args.list.now c.args.place 0 refl)
