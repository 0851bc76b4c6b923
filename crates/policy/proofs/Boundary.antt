-- The boundary table's first twelve lines hold, and check refuses what was made of the second before W2. Assumes nothing.
use mathlib.Core.Path.{refl}
use Rattle.lists.specs.Lists.{every_both}
use Rattle.policy.specs.Fields.{highest}
use Rattle.policy.specs.Ranges.{inside, full_over}
use Rattle.policy.specs.Cut.{pieces, cut, cut_each, group}
use Rattle.policy.specs.Rules.{first_from, allows_in}
use Rattle.policy.specs.Move.{slots, boxes_of, over, over_slot, any_over, work}
use Rattle.policy.specs.Check.{same_groups, check_refusal}
use Rattle.policy.specs.Boundary.{Holds, Decides, Right, BoundaryTheorem, OldCutTheorem}
use Rattle.policy.proofs.Cuts.{cut_itself}

pub boundary_table_right : BoundaryTheorem
unfolding Right Holds Decides group cut every_both pieces cut_each highest full_over first_from inside slots boxes_of allows_in
boundary_table_right =
    (refl, (refl, (refl, (cut_itself, (refl, (refl, (refl, (refl, (refl, (((λ p h. rw h), ((λ p h. rw h), ((λ p h. rw h), tt))), (refl, (refl, tt))))))))))))

pub old_cut_stale : OldCutTheorem
unfolding check_refusal same_groups every_both work any_over over_slot over slots boxes_of group cut pieces cut_each highest full_over allows_in
old_cut_stale = refl
