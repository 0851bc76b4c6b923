-- `regroup_all` meets its contract. Assumes nothing.
use native.Mathlib.Omega.{arith}
use Rattle.kept.proofs.Runs.{held_front}
use Rattle.std.proofs.lemmas.Result.{err_from_is_err_and}
use Rattle.edit_groups.proofs.Settled.{alone_keeps, draft_ready, all_over, all_ready, all_done}
use Rattle.edit_groups.proofs.regroup_all.Goals as goal

pub draft_groups-requires : goal.draft_groups-requires
draft_groups-requires c = draft_ready alone_keeps c.requires.0 c.type_inv.list c.type_inv.sheet c.requires.2 (omega arith)

pub overflow_mul-stay-2 : goal.overflow_mul-stay-2
overflow_mul-stay-2 c =
    let p = c.requires.0 in
    omega (arith, c.requires.2, (held_front _ _ _ p.placed.earlier p.held).few)

pub overflow_add-stay : goal.overflow_add-stay
overflow_add-stay c =
    let p = c.requires.0 in
    let held = held_front _ _ _ p.placed.earlier p.held in
    omega (arith, c.requires.2, held.few, held.there)

pub returns-in_err-drafted : goal.returns-in_err-drafted
returns-in_err-drafted c =
    let refused = err_from_is_err_and c.from_residual.result c.from_residual.ensures.1 in
    rw (refused.1, refused.2) (all_over alone_keeps c.requires.0 c.type_inv.list (assumption) c.requires.2 c.requires.1 (omega arith) (assumption) c.in_err-drafted.ensures)

pub settle-requires : goal.settle-requires
settle-requires c = all_ready alone_keeps c.requires.0 c.type_inv.list (assumption) c.requires.2 c.requires.1 (omega arith) (assumption) c.in_ok-drafted.ensures

pub returns : goal.returns
returns c = all_done alone_keeps c.requires.0 c.type_inv.list (assumption) c.requires.2 c.requires.1 (omega arith) (assumption) c.in_ok-drafted.ensures c.settle.ensures
