-- `gate` meets its contract. Assumes nothing.
use native.Mathlib.Omega.{arith}
use Rattle.rows.proofs.Tables.{gate_run}
use Rattle.rows.proofs.TabledSheetBoxes.gate.Goals as goal

pub returns : goal.returns
returns c = gate_run c.args.self.sheet.checked c.args.self.tabled (omega arith)
