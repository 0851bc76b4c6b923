-- `gate` meets its contract. Assumes nothing.
use native.Mathlib.Omega.{arith}
use Rattle.origins.proofs.Tracing.{gate_run}
use Rattle.origins.proofs.CheckedSheetBoxes.gate.Goals as goal

pub returns : goal.returns
returns c = gate_run c.args.self.checked (omega arith)
