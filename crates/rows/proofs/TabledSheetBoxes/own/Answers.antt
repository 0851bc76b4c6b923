-- `own` meets its contract. Assumes nothing.
use native.Mathlib.Omega.{arith}
use Rattle.rows.proofs.Tables.{own_run}
use Rattle.rows.proofs.TabledSheetBoxes.own.Goals as goal

pub returns : goal.returns
returns c = own_run c.args.self.sheet.checked c.args.self.tabled (omega arith)
