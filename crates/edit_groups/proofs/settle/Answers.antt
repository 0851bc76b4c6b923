-- `settle` meets its contract. Assumes nothing.
use borrow.Author.Rules.{rules}
use Rattle.edit_groups.proofs.settle.Goals as goal

pub put_gate-requires : goal.put_gate-requires
put_gate-requires c = (c.requires (search rules)).1
