-- `gather` meets its contract, answer by answer. Assumes nothing.
use borrow.Author.Rules.{rules}
use native.Mathlib.Omega.{arith}
use Rattle.std.proofs.lemmas.Result.{err_from_is_err_and}
use Rattle.policy.specs.Move.{alone}
use Rattle.edit_groups.proofs.Joins.{gathered_kept, gathered_workable, gathered_over, gathered_few, gathered_past, join_ready, gathered_join}
use Rattle.edit_groups.proofs.gather.Goals as goal

pub returns-then-none_denies : goal.returns-then-none_denies
returns-then-none_denies c = gathered_kept alone c.requires (rw c.if-none_denies.true at c.none_denies.ensures) c.put_bytes-end.ensures

pub work_out-requires : goal.work_out-requires
work_out-requires c = gathered_workable alone c.requires (rw c.if-none_denies.false at c.none_denies.ensures)

pub returns-in_err-n : goal.returns-in_err-n
returns-in_err-n c =
    let refused = err_from_is_err_and c.from_residual.result c.from_residual.ensures.1 in
    rw (refused.1, refused.2) (gathered_over alone c.requires (rw c.if-none_denies.false at c.none_denies.ensures) c.in_err-n.ensures)

pub overflow_add-sum : goal.overflow_add-sum
overflow_add-sum c = omega (arith, gathered_few alone c.requires (rw c.if-none_denies.false at c.none_denies.ensures) (omega arith) c.in_ok-n.ensures, c.requires.few)

pub join_groups-end-requires : goal.join_groups-end-requires
join_groups-end-requires c = join_ready alone c.requires (rw c.if-none_denies.false at c.none_denies.ensures) (omega arith) c.in_ok-n.ensures c.if-sum-le-TOTAL_MOST.true (search rules)

pub returns-then-sum-le-TOTAL_MOST : goal.returns-then-sum-le-TOTAL_MOST
returns-then-sum-le-TOTAL_MOST c = gathered_join alone c.requires (rw c.if-none_denies.false at c.none_denies.ensures) (omega arith) c.in_ok-n.ensures c.if-sum-le-TOTAL_MOST.true (search rules) c.join_groups-end.ensures

pub returns-else-sum-le-TOTAL_MOST : goal.returns-else-sum-le-TOTAL_MOST
returns-else-sum-le-TOTAL_MOST c = gathered_past alone c.requires (rw c.if-none_denies.false at c.none_denies.ensures) (omega arith) c.in_ok-n.ensures c.if-sum-le-TOTAL_MOST.false
