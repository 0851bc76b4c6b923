-- `work_out` meets its contract: what is worked out of the pieces put at the front is worked out of the start. Assumes nothing.
use native.Mathlib.Omega.{arith}
use Rattle.groups.proofs.Starts.{worked_from}
use Rattle.groups.proofs.work_out.Goals as goal

pub returns : goal.returns
returns c = worked_from c.put_start-n.ensures c.take_allows.ensures (omega arith) c.split_at_mut-pieces.ensures.back
