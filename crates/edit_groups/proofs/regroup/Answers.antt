-- `regroup` meets its contract. Assumes nothing.
use native.Mathlib.Omega.{arith}
use mathlib.Core.Path.{sym}
use Rattle.kept.proofs.Runs.{boxes_none, held_front}
use Rattle.edit_groups.proofs.regroup.Goals as goal

pub regroup_all-requires : goal.regroup_all-requires
regroup_all-requires c = let p = c.requires in (p, p.wide c.if-around.false, sym (boxes_none _ _ (omega (arith, c.if-around-eq0.true))))

pub count_boxes-front-requires : goal.count_boxes-front-requires
count_boxes-front-requires c = let p = c.requires in (held_front _ _ _ p.placed.earlier p.held).there

pub regroup_all-requires-2 : goal.regroup_all-requires-2
regroup_all-requires-2 c = let p = c.requires in (p, p.wide c.if-around.false, c.count_boxes-front.ensures)
