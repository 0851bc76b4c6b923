-- `join` meets its statement, return by return. Assumes nothing.
use borrow.Author.Rules.{rules}
use mathlib.Core.Path.{◌≡◌}
use Prim.Native.Nat.{◌+◌, ◌≤◌}
use Rattle.std.specs.Prelude.{Err}
use native.Mathlib.Omega.{arith}
use lib.ListN.{length}
use Rattle.sheet.specs.Orders.{order_size}
use Rattle.orders.proofs.Joins.{both_fit, sheet_short, join_gate_refusal, join_own_refusal, join_done}
use Rattle.orders.proofs.join.Goals as goal

pub returns-then-sheet-lt-ORDER_BYTES : goal.returns-then-sheet-lt-ORDER_BYTES
returns-then-sheet-lt-ORDER_BYTES c = search (rules, sheet_short)

pub fill_both-requires : goal.fill_both-requires
fill_both-requires c =
    let a = c.args in
    let h : length a.a.now + length a.b.now ≤ order_size = search (rules, both_fit) in
    (omega arith, omega arith)

pub returns-in_err-read_list : goal.returns-in_err-read_list
returns-in_err-read_list c =
    let a = c.args in
    let e : c.from_residual.result ≡ Err c.in_err-read_list.field-0.0 = search rules in
    rw e (join_gate_refusal a.a.now a.b.now a.sheet.now c.if-sheet-lt-ORDER_BYTES.false c.read_list.ensures _ c.in_err-read_list.was)

pub returns-in_err-read_list-2 : goal.returns-in_err-read_list-2
returns-in_err-read_list-2 c =
    let a = c.args in
    let e : c.from_residual-in_err-read_list-2.result ≡ Err c.in_err-read_list-2.field-0.0 = search rules in
    rw e (join_own_refusal a.a.now a.b.now a.sheet.now c.if-sheet-lt-ORDER_BYTES.false c.read_list.ensures c.type_inv.a _ c.in_ok-read_list.was c.read_list-2.ensures _ c.in_err-read_list-2.was)

pub returns : goal.returns
returns c =
    let a = c.args in
    join_done a.a.now a.b.now a.sheet.now c.if-sheet-lt-ORDER_BYTES.false c.read_list.ensures c.type_inv.a _ c.in_ok-read_list.was c.read_list-2.ensures c.type_inv.b _ c.in_ok-read_list-2.was c.fill_both.ensures
