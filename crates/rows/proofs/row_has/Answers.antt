-- `row_has` meets its contract: the loop's invariant says that the fields that are left tell the whole. Assumes nothing.
use borrow.Author.Rules.{rules}
use native.Mathlib.Omega.{arith}
use mathlib.Core.Path.{◌≡◌, refl, sym, ◌∙◌}
use Prim.Native.Nat.{◌+◌, ◌*◌}
use lib.ListN.{drop}
use Rattle.rows.proofs.Rows.{field_small, field_has, field_misses, row_tried}
use Rattle.rows.proofs.row_has.Goals as goal

pub loop-k-init : goal.loop-k-init
loop-k-init c = let e : c.args.at + 2 * 0 ≡ c.args.at = omega arith in (search rules, rw e c.requires.1, rw e refl)

pub overflow_add-range-in-loop-k-2 : goal.overflow_add-range-in-loop-k-2
overflow_add-range-in-loop-k-2 c =
    let h = c.loop-k in
    let f = field_small h.k c.args.table.now (c.args.at + 2 * h.k) (omega arith) (omega arith) h.invariant.1 in
    omega (arith, f.0)

pub returns-then-not-is_within : goal.returns-then-not-is_within
returns-then-not-is_within c =
    let h = c.loop-k in
    let a = c.args in
    field_misses h.k a.table.now (a.at + 2 * h.k) (omega arith) (omega arith) a.p.values (omega arith) _ h.invariant.2
    (sym c.is_within.ensures ∙ c.if-not-is_within.true)

pub loop-k-preserved : goal.loop-k-preserved
loop-k-preserved c =
    let h = c.loop-k in
    let a = c.args in
    let t = a.table.now in
    let e : a.at + 2 * (h.k + 1) ≡ a.at + 2 * h.k + 2 = omega arith in
    let f = field_small h.k t (a.at + 2 * h.k) (omega arith) (omega arith) h.invariant.1 in (
      search rules,
      rw e f.1,
      rw e (field_has h.k t (a.at + 2 * h.k) (omega arith) (omega arith) a.p.values (omega arith) _ h.invariant.2 (sym c.is_within.ensures ∙ c.if-not-is_within.false)),
    )

pub returns : goal.returns
returns c =
    let h = c.loop-k in
    let a = c.args in
    row_tried h.k a.p.values (drop (a.at + 2 * h.k) a.table.now) _ (omega arith) (omega arith) h.invariant.2
