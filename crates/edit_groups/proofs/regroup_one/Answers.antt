-- `regroup_one` meets its contract. Assumes nothing.
use native.Mathlib.Omega.{arith}
use Rattle.std.proofs.lemmas.Result.{err_from_is_err_and}
use Rattle.edit_groups.proofs.Settled.{alone_keeps}
use Rattle.edit_groups.proofs.Gaps.{gap_there, gap_boxes, gap_inside, gathering, one_over, one_ready, one_done}
use Rattle.edit_groups.proofs.regroup_one.Goals as goal

pub find_gap-gap-requires : goal.find_gap-gap-requires
find_gap-gap-requires c = gap_there c.requires.0

pub overflow_add-next : goal.overflow_add-next
overflow_add-next c = omega (arith, c.requires.0.end, gap_inside c.requires.0 _ c.find_gap-gap.ensures)

pub overflow_sub-left : goal.overflow_sub-left
overflow_sub-left c = gap_boxes c.requires.0 _ c.find_gap-gap.ensures

pub slice_bounds-gather-count : goal.slice_bounds-gather-count
slice_bounds-gather-count c = gap_inside c.requires.0 _ c.find_gap-gap.ensures

pub slice_bounds-gather-start : goal.slice_bounds-gather-start
slice_bounds-gather-start c = omega (arith, c.requires.0.end, gap_inside c.requires.0 _ c.find_gap-gap.ensures)

pub gather-requires : goal.gather-requires
gather-requires c = gathering c.requires.0 _ c.find_gap-gap.ensures alone_keeps c.type_inv.list (assumption) c.requires.1

pub returns-in_err-drafted : goal.returns-in_err-drafted
returns-in_err-drafted c =
    let refused = err_from_is_err_and c.from_residual.result c.from_residual.ensures.1 in
    rw (refused.1, refused.2) (one_over c.requires.0 _ c.find_gap-gap.ensures alone_keeps c.type_inv.list (assumption) c.in_err-drafted.ensures)

pub settle-requires : goal.settle-requires
settle-requires c = one_ready c.requires.0 _ c.find_gap-gap.ensures alone_keeps c.type_inv.list (assumption) c.in_ok-drafted.ensures

pub returns : goal.returns
returns c = one_done c.requires.0 _ c.find_gap-gap.ensures alone_keeps c.type_inv.list (assumption) c.in_ok-drafted.ensures c.settle.ensures
