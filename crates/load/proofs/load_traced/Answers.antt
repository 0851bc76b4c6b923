-- `load_traced` meets its contract. Assumes nothing.
use Rattle.std.proofs.Common.{arith}
use Rattle.origins.proofs.Told.{small_gate, small_own}
use Rattle.load.proofs.Traces.{gate_load, own_load, nowhere_load}
use Rattle.load.proofs.load_traced.Goals as goal

pub overflow_add-result : goal.overflow_add-result
overflow_add-result c = let f = small_gate _ _ _ c.in-Gate.is c.requires in omega (arith, f.0)

pub tries_to-requires : goal.tries_to-requires
tries_to-requires c = (small_gate _ _ _ c.in-Gate.is c.requires).2

pub overflow_add-result-in-Own : goal.overflow_add-result-in-Own
overflow_add-result-in-Own c = let f = small_own _ _ _ _ c.in-Own.is c.requires in omega (arith, f.0, f.1)

pub overflow_add-result-in-Own-2 : goal.overflow_add-result-in-Own-2
overflow_add-result-in-Own-2 c = let f = small_own _ _ _ _ c.in-Own.is c.requires in omega (arith, f.0, f.1)

pub tries_to-requires-in-Own : goal.tries_to-requires-in-Own
tries_to-requires-in-Own c = (small_own _ _ _ _ c.in-Own.is c.requires).2

pub returns-in-Gate : goal.returns-in-Gate
returns-in-Gate c = rw (c.in-Gate.is, c.tries_to.ensures) (gate_load _ _ _)

pub returns-in-Own : goal.returns-in-Own
returns-in-Own c = rw (c.in-Own.is, c.tries_to-in-Own.ensures) (own_load _ _ _ _)

pub returns-in-Nowhere : goal.returns-in-Nowhere
returns-in-Nowhere c = rw c.in-Nowhere.is nowhere_load
