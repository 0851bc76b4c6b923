-- The theorems on first match, on the pieces of a cut and on a group. Assumes nothing.
use Rattle.policy.specs.Demands.{AboveTheorem, CutTheorem, GroupTheorem}
use Rattle.policy.proofs.Cuts.{cut_inside, cut_few}
use Rattle.policy.proofs.Moves.{above_from}
use Rattle.policy.proofs.Groups.{cut_apart, cut_covers, group_inside, group_apart, group_covers}

pub above_meets_none : AboveTheorem
above_meets_none p l h k = above_from p l 0 h k

pub cut_holds : CutTheorem
cut_holds d a u v h = record { parts = cut_inside d a u v; few = cut_few d a h; apart = cut_apart d a v; exact = cut_covers d a v }

pub group_holds : GroupTheorem
group_holds d allows u v = record { parts = group_inside d allows u v; apart = group_apart d allows v; exact = group_covers d allows v }
