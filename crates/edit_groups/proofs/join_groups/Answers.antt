-- `join_groups` meets its contract. Assumes nothing.
use Rattle.edit_groups.proofs.Joins.{joined_in}
use Rattle.edit_groups.proofs.join_groups.Goals as goal

pub returns : goal.returns
returns c = joined_in c.requires _ _ _ _ c.copy_up.ensures c.put_count.ensures c.put_bytes.ensures
