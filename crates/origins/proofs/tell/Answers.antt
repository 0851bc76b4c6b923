-- `tell` meets its contract, arm by arm. (The numbers written are asked for by all that is known of a trace, so that a must-fail edit
-- that writes another one of them fails for what is written.) Assumes nothing.
use borrow.Author.Rules.{rules}
use native.Mathlib.Omega.{arith}
use Rattle.origins.proofs.Told.{small_gate, small_own, told_gate, told_own, told_nowhere}
use Rattle.origins.proofs.tell.Goals as goal

pub put_origin-requires : goal.put_origin-requires
put_origin-requires c =
    let f = small_gate _ _ _ c.in-Gate.is c.requires.1 in
    (c.requires.0, omega (arith, f.0, f.2), omega (arith, f.1, f.2))

pub overflow_mul-value : goal.overflow_mul-value
overflow_mul-value c =
    let f = small_gate _ _ _ c.in-Gate.is c.requires.1 in
    search rules

pub put_origin-requires-in-Own : goal.put_origin-requires-in-Own
put_origin-requires-in-Own c =
    let f = small_own _ _ _ _ c.in-Own.is c.requires.1 in
    (c.requires.0, omega (arith, f.1, f.2), omega arith)

pub overflow_mul-value-in-Own : goal.overflow_mul-value-in-Own
overflow_mul-value-in-Own c =
    let f = small_own _ _ _ _ c.in-Own.is c.requires.1 in
    search rules

pub overflow_add-value : goal.overflow_add-value
overflow_add-value c =
    let f = small_own _ _ _ _ c.in-Own.is c.requires.1 in
    search rules

pub returns-in-Gate : goal.returns-in-Gate
returns-in-Gate c =
    rw c.in-Gate.is
    (told_gate _ _ c.requires.0 _ _ _ c.put_origin.ensures)

pub returns-in-Own : goal.returns-in-Own
returns-in-Own c =
    rw c.in-Own.is
    (told_own _ _ c.requires.0 _ _ _ _ c.put_origin-in-Own.ensures)

pub returns-in-Nowhere : goal.returns-in-Nowhere
returns-in-Nowhere c = rw c.in-Nowhere.is (told_nowhere _)
