-- The printed example, computed. Assumes nothing.
use mathlib.Core.Path.{refl}
use Rattle.lists.specs.Lists.{every_both}
use Rattle.policy.specs.Fields.{highest}
use Rattle.policy.specs.Ranges.{inside, full_over}
use Rattle.policy.specs.Cut.{pieces, cut, cut_each, group}
use Rattle.policy.specs.Rules.{first_from, denies, allows_in, any_allow}
use Rattle.policy.specs.Move.{slots, boxes_of, together, denials}
use Rattle.policy.specs.Edit.{around}
use Rattle.policy.specs.Example.{ExampleTheorem}

pub example_holds : ExampleTheorem
unfolding around slots boxes_of group cut every_both pieces cut_each together denials highest full_over denies allows_in any_allow first_from inside
example_holds = record { cell = refl; uncut = refl; denied = refl; gate_first_opens = refl }
