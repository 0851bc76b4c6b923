-- `plan` meets its contract. Assumes nothing.
use native.Mathlib.Omega.{arith}
use Rattle.std.proofs.lemmas.Result.{err_from_is_err_and}
use Rattle.moving.proofs.Planning.{plan_refused, plan_ready, plan_six, plan_seven, plan_put, plan_accepted}
use Rattle.moving.proofs.plan.Goals as goal

pub returns-in_err-layout : goal.returns-in_err-layout
returns-in_err-layout c =
    let refused = err_from_is_err_and c.from_residual.result c.from_residual.ensures.1 in
    rw (refused.1, refused.2) (plan_refused c.in_err-layout.ensures)

pub draft_all-requires : goal.draft_all-requires
draft_all-requires c = plan_ready c.in_ok-layout.ensures c.type_inv.order (omega arith) c.requires.1

pub returns-in_err-drafted : goal.returns-in_err-drafted
returns-in_err-drafted c =
    let refused = err_from_is_err_and c.from_residual-in_err-drafted.result c.from_residual-in_err-drafted.ensures.1 in
    rw (refused.1, refused.2) (plan_six c.in_ok-layout.ensures c.type_inv.order c.in_err-drafted.ensures)

pub returns-then-not-has_room : goal.returns-then-not-has_room
returns-then-not-has_room c = plan_seven c.in_ok-layout.ensures c.type_inv.order c.in_ok-drafted.ensures (omega arith) (omega arith)

pub put_pair-requires : goal.put_pair-requires
put_pair-requires c = plan_put c.in_ok-layout.ensures c.type_inv.order c.in_ok-drafted.ensures (omega arith) (omega arith) c.requires.0

pub returns : goal.returns
returns c = plan_accepted c.in_ok-layout.ensures c.type_inv.order c.in_ok-drafted.ensures (omega arith) (omega arith) _ c.put_pair.ensures
