-- `has` meets its contract. Assumes nothing.
use Rattle.policy.specs.Fields.{highest}
use Rattle.policy.proofs.Moves.{proper_whole}
use Rattle.origins.proofs.CheckedSheetBoxes.has.Goals as goal

pub is_inside-requires : goal.is_inside-requires
is_inside-requires c = rw c.box_at.ensures (proper_whole highest _ c.requires.1)
