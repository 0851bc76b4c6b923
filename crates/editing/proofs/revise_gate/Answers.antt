-- `revise_gate` meets its contract. Assumes nothing.
use native.Mathlib.Omega.{arith}
use mathlib.Core.Path.{refl, sym, subst}
use Prim.Native.Nat.{ℕ, ◌≤◌}
use lib.Seq.{length-take-le}
use Rattle.std.proofs.lemmas.Result.{err_from_is_err_and}
use Rattle.policy.proofs.Answers.{given_refusal}
use Rattle.sheet.specs.Pairs.{pair_bytes, pair_size}
use Rattle.promises.proofs.Calls.{refuses}
use Rattle.edit_list.specs.Steps.{most_in}
use Rattle.editing.proofs.Parts.{gate_there, gate_bytes-length}
use Rattle.editing.proofs.Revised.{at_which}
use Rattle.editing.proofs.Made.{sheet_read, gate_made}
use Rattle.editing.proofs.Edited.{gate_refused, gate_end, gate_accepted, gate_refuses, gate_around, gate_regrouping, gate_done}
use Rattle.editing.proofs.revise_gate.Goals as goal

pub slice_bounds-change_list-end : goal.slice_bounds-change_list-end
slice_bounds-change_list-end c = (gate_there _ (sheet_read c.requires.0 (assumption)) c.requires.0.inside).2

pub change_list-requires : goal.change_list-requires
change_list-requires c =
    let read = sheet_read c.requires.0 (assumption) in
    let h = gate_there _ read c.requires.0.inside in
    let l = gate_bytes-length _ read c.requires.0.inside in
    (h.0, subst (λ (i : ℕ). c.args.old.order.gate ≤ most_in i) (sym c.requires.1) h.1, omega (arith, l), omega (arith, l, h.1))

pub returns-in_err-end : goal.returns-in_err-end
returns-in_err-end c =
    let refused = err_from_is_err_and c.from_residual.result c.from_residual.ensures.1 in
    rw (refused.1, refused.2)
    (at_which _ _ c.args.request _ 0 c.requires.1
    (refuses pair_bytes pair_size _ _ _ _ _ (gate_refused _ _ _ _ _ (gate_made c.requires.0 (assumption) c.type_inv.new c.in_err-end.ensures)) refl))

pub slice_bounds-out-end : goal.slice_bounds-out-end
slice_bounds-out-end c = omega (arith, gate_end _ _ _ _ _ (gate_made c.requires.0 (assumption) c.type_inv.new c.in_ok-end.ensures) (omega arith))

pub slice_bounds-list-end : goal.slice_bounds-list-end
slice_bounds-list-end c =
    let inside = gate_end _ _ _ _ _ (gate_made c.requires.0 (assumption) c.type_inv.new c.in_ok-end.ensures) (omega arith) in
    sym (length-take-le _ _ (omega arith))

pub returns-in_err-section : goal.returns-in_err-section
returns-in_err-section c =
    let refused = err_from_is_err_and c.from_residual-in_err-section.result c.from_residual-in_err-section.ensures.1 in
    rw (refused.1, refused.2)
    (at_which _ _ c.args.request _ 0 c.requires.1
    (refuses pair_bytes pair_size _ _ _ _ _
    (gate_refuses _ _ _ _ _ (gate_made c.requires.0 (assumption) c.type_inv.new c.in_ok-end.ensures) (omega arith) _ (given_refusal c.in_err-section.ensures _ refl)) refl))

pub find_around-around-requires : goal.find_around-around-requires
find_around-around-requires c =
    let m = gate_made c.requires.0 (assumption) c.type_inv.new c.in_ok-end.ensures in
    gate_around _ _ _ _ _ m (omega arith) (gate_accepted _ _ _ _ _ m (omega arith) (assumption) c.in_ok-section.ensures)

pub regroup-requires : goal.regroup-requires
regroup-requires c =
    let m = gate_made c.requires.0 (assumption) c.type_inv.new c.in_ok-end.ensures in
    gate_regrouping _ _ _ _ _ m (omega arith) (gate_accepted _ _ _ _ _ m (omega arith) (assumption) c.in_ok-section.ensures) c.find_around-around.ensures c.requires.0.sheet_room c.requires.0.work_room

pub returns : goal.returns
returns c =
    let m = gate_made c.requires.0 (assumption) c.type_inv.new c.in_ok-end.ensures in
    at_which _ _ c.args.request _ 0 c.requires.1
    (gate_done _ _ _ _ _ m (omega arith) (gate_accepted _ _ _ _ _ m (omega arith) (assumption) c.in_ok-section.ensures) c.find_around-around.ensures c.regroup.ensures)
