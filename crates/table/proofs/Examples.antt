-- One lookup in a table, computed: behind the rule that fits, a bad one is not looked at. Assumes nothing.
use mathlib.Core.Path.{◌≡◌, refl}
use mathlib.Core.List.{[], ◌∷◌}
use Rattle.policy.specs.Fields.{highest}
use Rattle.lists.specs.Lists.{every_both}
use Rattle.policy.specs.Ranges.{inside, full_over}
use Rattle.policy.specs.Rules.{full, rule, sound}
use Rattle.policy.specs.Refusals.{accepted}
use Rattle.filter.specs.Lookup.{hit, look_from}
use Rattle.filter.proofs.Examples.{zeros, bad}
use Rattle.table.specs.Table.{lookup_table}

pub table_bad_behind : lookup_table 2 zeros (rule full 1 ∷ bad ∷ []) ≡ accepted (hit 0 1)
unfolding lookup_table look_from sound inside highest full_over every_both
table_bad_behind = refl
