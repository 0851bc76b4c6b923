-- `revise_own` meets its contract. Assumes nothing.
use borrow.Author.Rules.{rules}
use native.Mathlib.Omega.{arith}
use mathlib.Core.Path.{refl, sym, subst}
use Prim.Native.Nat.{ℕ, ◌≤◌}
use lib.Seq.{length-take-le}
use Rattle.policy.specs.declared.Refusal.TheVariants.{TooManyBoxes}
use Rattle.std.proofs.lemmas.Result.{err_from_is_err_and}
use Rattle.policy.proofs.Answers.{given_refusal}
use Rattle.sheet.specs.Pairs.{pair_bytes, pair_size}
use Rattle.promises.proofs.Calls.{refuses}
use Rattle.edit_list.specs.Steps.{most_in}
use Rattle.editing.proofs.Parts.{own_there, own_bytes-length}
use Rattle.editing.proofs.Revised.{at_which}
use Rattle.editing.proofs.Made.{sheet_read, own_made, made_accepted}
use Rattle.editing.proofs.Edited.{own_refused, own_end, own_beyond, own_refuses, own_seven, own_put, own_done}
use Rattle.editing.proofs.revise_own.Goals as goal

pub slice_bounds-change_list-end : goal.slice_bounds-change_list-end
slice_bounds-change_list-end c = (own_there _ (sheet_read c.requires.0 (assumption)) c.requires.0.inside).3

pub change_list-requires : goal.change_list-requires
change_list-requires c =
    let read = sheet_read c.requires.0 (assumption) in
    let h = own_there _ read c.requires.0.inside in
    let l = own_bytes-length _ read c.requires.0.inside in
    (h.0, subst (λ (i : ℕ). c.args.old.order.own ≤ most_in i) (sym c.requires.1) h.1, omega (arith, l), omega (arith, l, h.1, c.requires.0.work_room))

pub returns-in_err-end : goal.returns-in_err-end
returns-in_err-end c =
    let h = own_refused _ _ _ _ _ (own_made c.requires.0 (assumption) c.type_inv.new c.in_err-end.ensures) in
    let refused = err_from_is_err_and c.from_residual.result c.from_residual.ensures.1 in
    rw (refused.1, refused.2)
    (at_which _ _ c.args.request _ 1 c.requires.1 (refuses pair_bytes pair_size _ _ _ _ _ h.0 h.1))

pub slice_bounds-list-end : goal.slice_bounds-list-end
slice_bounds-list-end c = omega (arith, own_end _ _ _ _ _ (own_made c.requires.0 (assumption) c.type_inv.new c.in_ok-end.ensures) c.requires.0.work_room)

pub slice_bounds-list-end-2 : goal.slice_bounds-list-end-2
slice_bounds-list-end-2 c = sym (length-take-le _ _ (omega (arith, own_end _ _ _ _ _ (own_made c.requires.0 (assumption) c.type_inv.new c.in_ok-end.ensures) c.requires.0.work_room)))

pub returns-in_err-section : goal.returns-in_err-section
returns-in_err-section c =
    let m = own_made c.requires.0 (assumption) c.type_inv.new c.in_ok-end.ensures in
    let refused = err_from_is_err_and c.from_residual-in_err-section.result c.from_residual-in_err-section.ensures.1 in
    rw (refused.1, refused.2)
    (at_which _ _ c.args.request _ 1 c.requires.1
    (refuses pair_bytes pair_size _ _ _ _ _
    (own_refuses _ _ _ _ _ m c.requires.0.work_room _ (given_refusal c.in_err-section.ensures _ refl)) (own_beyond _ _ _ _ _ m c.requires.0.work_room)))

pub returns-then-not-has_room : goal.returns-then-not-has_room
returns-then-not-has_room c =
    let m = own_made c.requires.0 (assumption) c.type_inv.new c.in_ok-end.ensures in
    at_which _ _ c.args.request _ 1 c.requires.1
    (refuses pair_bytes pair_size _ _ _ _ TooManyBoxes
    (own_seven _ _ _ _ _ m c.requires.0.work_room (made_accepted m (assumption) c.in_ok-section.ensures) (search rules))
    (own_beyond _ _ _ _ _ m c.requires.0.work_room))

pub put_own-requires : goal.put_own-requires
put_own-requires c =
    let m = own_made c.requires.0 (assumption) c.type_inv.new c.in_ok-end.ensures in
    own_put _ _ _ _ _ m c.requires.0.work_room (made_accepted m (assumption) c.in_ok-section.ensures) (search rules) c.requires.0.sheet_room

pub returns : goal.returns
returns c =
    let m = own_made c.requires.0 (assumption) c.type_inv.new c.in_ok-end.ensures in
    at_which _ _ c.args.request _ 1 c.requires.1
    (own_done _ _ _ _ _ m c.requires.0.work_room (made_accepted m (assumption) c.in_ok-section.ensures) (search rules) c.requires.0.sheet_room c.put_own.ensures)
