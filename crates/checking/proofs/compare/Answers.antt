-- `compare` meets its contract. Assumes nothing.
use native.Mathlib.Omega.{arith}
use mathlib.Core.Path.{refl}
use Rattle.std.proofs.lemmas.Result.{err_from_is_err_and}
use Rattle.checking.proofs.Drafting.{draft_ready}
use Rattle.checking.proofs.Checking.{pair_read, check_refused, check_six, check_differs, check_passes}
use Rattle.checking.proofs.compare.Goals as goal

pub returns-in_err-layout : goal.returns-in_err-layout
returns-in_err-layout c =
    let refused = err_from_is_err_and c.from_residual.result c.from_residual.ensures.1 in
    rw (refused.1, refused.2) (check_refused c.in_err-layout.ensures, refl)

pub draft_all-requires : goal.draft_all-requires
draft_all-requires c = draft_ready (pair_read c.in_ok-layout.ensures c.type_inv.sheet) _ _ (omega arith) c.requires

pub returns-in_err-drafted : goal.returns-in_err-drafted
returns-in_err-drafted c =
    let refused = err_from_is_err_and c.from_residual-in_err-drafted.result c.from_residual-in_err-drafted.ensures.1 in
    let x = c.in_err-drafted.ensures in
    rw (refused.1, refused.2) (check_six (pair_read c.in_ok-layout.ensures c.type_inv.sheet) x, x.beyond)

pub returns-then-not-is_same : goal.returns-then-not-is_same
returns-then-not-is_same c =
    let read = pair_read c.in_ok-layout.ensures c.type_inv.sheet in
    let x = c.in_ok-drafted.ensures in
    (check_differs read x (omega arith) c.is_same.ensures c.if-not-is_same.true, x.beyond)

pub returns : goal.returns
returns c =
    let read = pair_read c.in_ok-layout.ensures c.type_inv.sheet in
    let x = c.in_ok-drafted.ensures in
    (check_passes read x (omega arith) c.is_same.ensures c.if-not-is_same.false, x.beyond)
