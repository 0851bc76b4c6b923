-- `refused_number` meets its contract. Assumes nothing.
use native.Mathlib.Omega.{arith}
use Rattle.policy.proofs.refused_number.Goals as goal

pub returns : goal.returns
returns c = omega (arith, c.number_of.ensures.0)
