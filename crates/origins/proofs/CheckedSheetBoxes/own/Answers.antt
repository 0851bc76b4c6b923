-- `own` meets its contract. Assumes nothing.
use native.Mathlib.Omega.{arith}
use Rattle.origins.proofs.Tracing.{own_run}
use Rattle.origins.proofs.CheckedSheetBoxes.own.Goals as goal

pub returns : goal.returns
returns c = own_run c.args.self.checked (omega arith)
