-- `draft_one` meets its contract, arm by arm. Assumes nothing.
use native.Mathlib.Omega.{arith}
use lib.ListN.{length-take}
use Rattle.std.proofs.lemmas.Result.{err_from_is_err_and}
use Rattle.policy.specs.Move.{alone}
use Rattle.draft.proofs.Turns.{allow_told, worked_few, drafted_allow, drafted_over, drafted_boxes}
use Rattle.draft.proofs.draft_one.Goals as goal

pub returns-then-is_allow : goal.returns-then-is_allow
returns-then-is_allow c =
    drafted_allow alone c.requires (allow_told c.args.rules.now c.args.i c.rule_at-rule.ensures c.is_allow.ensures c.if-is_allow.true)

pub returns-in_err-n : goal.returns-in_err-n
returns-in_err-n c =
    let refused = err_from_is_err_and c.from_residual.result c.from_residual.ensures.1 in
    rw (refused.1, refused.2) (drafted_over alone c.requires (allow_told c.args.rules.now c.args.i c.rule_at-rule.ensures c.is_allow.ensures c.if-is_allow.false) c.in_err-n.ensures)

pub overflow_mul-size : goal.overflow_mul-size
overflow_mul-size c =
    let few = worked_few (omega arith) c.in_ok-n.ensures in
    omega arith

pub overflow_add-boxes : goal.overflow_add-boxes
overflow_add-boxes c =
    omega (arith, worked_few (omega arith) c.in_ok-n.ensures, c.requires.start.few, c.requires.gate)

pub slice_bounds-append-end : goal.slice_bounds-append-end
slice_bounds-append-end c =
    omega (arith, worked_few (omega arith) c.in_ok-n.ensures, c.requires.work_room)

pub slice_bounds-append-end-2 : goal.slice_bounds-append-end-2
slice_bounds-append-end-2 c =
    let few = worked_few (omega arith) c.in_ok-n.ensures in
    simp length-take (omega (arith, few, c.requires.work_room))

pub append-end-requires : goal.append-end-requires
append-end-requires c =
    let few = worked_few (omega arith) c.in_ok-n.ensures in
    (omega arith, simp length-take (omega (arith, few, c.requires.work_room)), λ t. omega (arith, c.requires.start.short, c.requires.room, c.requires.gate))

pub returns : goal.returns
returns c =
    let few = worked_few (omega arith) c.in_ok-n.ensures in
    drafted_boxes alone c.requires (allow_told c.args.rules.now c.args.i c.rule_at-rule.ensures c.is_allow.ensures c.if-is_allow.false) (omega arith) c.in_ok-n.ensures (omega (arith, few, c.requires.work_room)) c.append-end.ensures
