-- `none_denies` meets its contract. Assumes nothing.
use borrow.Author.Rules.{rules}
use native.Mathlib.Omega.{arith}
use mathlib.Core.Path.{◌≡◌}
use mathlib.Core.Bool.{true}
use lib.Dec.{eqb}
use Rattle.edit_groups.proofs.Joins.{no_rule, one_rule}
use Rattle.edit_groups.proofs.none_denies.Goals as goal

pub returns-then-to-place : goal.returns-then-to-place
returns-then-to-place c = let e : eqb c.args.to c.args.place ≡ true = search rules in rw e (no_rule _ _ _ (omega arith))

pub returns-else-to-place : goal.returns-else-to-place
returns-else-to-place c = one_rule _ _ _ (omega (arith, c.if-to-place.false, c.requires)) _ c.any_allow.ensures
