-- `draft_groups` meets its contract. Assumes nothing.
use borrow.Author.Rules.{rules}
use native.Mathlib.Omega.{arith}
use Rattle.std.proofs.lemmas.Result.{err_from_is_err_and}
use Rattle.draft.proofs.Turns.{going_ready, going_count, going_next, going_over, going_done}
use Rattle.draft.proofs.draft_groups.Goals as goal

pub draft_one-requires : goal.draft_one-requires
draft_one-requires c = going_ready c.requires c.loop-i.invariant (omega arith)

pub returns-in_err-one : goal.returns-in_err-one
returns-in_err-one c =
    let refused = err_from_is_err_and c.from_residual.result c.from_residual.ensures.1 in
    rw (refused.1, refused.2) (going_over c.requires c.loop-i.invariant (omega arith) c.in_err-one.ensures)

pub overflow_add-done : goal.overflow_add-done
overflow_add-done c =
    let k = going_count c.requires c.loop-i.invariant (omega arith) c.in_ok-one.ensures in
    omega (arith, k, c.loop-i.invariant.few, c.loop-i.invariant.up_to, c.requires.gate)

pub loop-i-preserved : goal.loop-i-preserved
loop-i-preserved c = going_next c.requires c.loop-i.invariant (omega arith) c.in_ok-one.ensures (search rules) (search rules)

pub returns : goal.returns
returns c = going_done c.requires c.loop-i.invariant (omega arith)
