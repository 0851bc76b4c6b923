-- `split` meets its statement, return by return. Assumes nothing.
use borrow.Author.Rules.{rules}
use native.Mathlib.Omega.{arith}
use mathlib.Core.Path.{◌≡◌}
use Rattle.std.specs.Prelude.{Err}
use Rattle.orders.proofs.Splits.{middle_within, gate_long, gate_fits, gate_short, own_short, split_refusal, split_done}
use Rattle.orders.proofs.split.Goals as goal
use Rattle.orders.proofs.split.Goals.{then-a-lt-GATE_BYTES-via-then-a-lt-GATE_BYTES, then-a-lt-GATE_BYTES-via-else-a-lt-GATE_BYTES+then-b-lt-OWN_BYTES}

pub returns-then-a-lt-GATE_BYTES : goal.returns-then-a-lt-GATE_BYTES
returns-then-a-lt-GATE_BYTES c =
    let a = c.args in
    elim c.then-a-lt-GATE_BYTES.branch [ then-a-lt-GATE_BYTES-via-then-a-lt-GATE_BYTES w ↦ gate_short a.sheet.now a.a.now a.b.now (omega arith) | then-a-lt-GATE_BYTES-via-else-a-lt-GATE_BYTES+then-b-lt-OWN_BYTES w ↦ own_short a.sheet.now a.a.now a.b.now (omega arith) (omega arith) ]

pub slice_bounds-fill-end : goal.slice_bounds-fill-end
slice_bounds-fill-end c = search (rules, gate_long)

pub fill-requires : goal.fill-requires
fill-requires c = search (rules, gate_fits)

pub slice_bounds-fill-count : goal.slice_bounds-fill-count
slice_bounds-fill-count c = search (rules, middle_within)

pub slice_bounds-fill-start : goal.slice_bounds-fill-start
slice_bounds-fill-start c = search (rules, middle_within)

pub returns-in_err-middle : goal.returns-in_err-middle
returns-in_err-middle c =
    let a = c.args in
    let e : c.from_residual.result ≡ Err c.in_err-middle.field-0.0 = search rules in
    rw e (split_refusal a.sheet.now a.a.now a.b.now (omega arith) (omega arith) c.read_order.ensures _ c.in_err-middle.was)

pub returns : goal.returns
returns c =
    let a = c.args in
    split_done a.sheet.now a.a.now a.b.now (omega arith) (omega arith) c.read_order.ensures c.type_inv.sheet _ c.in_ok-middle.was c.fill.ensures c.fill-2.ensures
