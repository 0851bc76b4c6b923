-- A delete's call is lent no record, and an edit that deletes looks at none. Assumes nothing.
use Rattle.promises.specs.Edits.{edited_of, change_of}
use Rattle.test_draws.proofs.edit_by_call.Goals as goal

pub returns-in-Delete : goal.returns-in-Delete
unfolding edited_of change_of
returns-in-Delete c = rw c.in-Delete.is c.foldplover_delete.ensures
