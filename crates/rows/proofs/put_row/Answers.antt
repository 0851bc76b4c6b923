-- `put_row` meets its contract: the loop's invariant says what is left to store. Assumes nothing.
use native.Mathlib.Omega.{arith}
use mathlib.Core.Path.{◌≡◌, refl, sym, subst}
use Prim.Native.Nat.{◌+◌, ◌*◌, ◌≤◌}
use lib.ListN.{length-set}
use Rattle.policy.specs.Ranges.{Range}
use Rattle.policy.specs.Values.{region_of}
use Rattle.rows.proofs.Rows.{field_whole, field_put, row_put}
use Rattle.rows.proofs.put_row.Goals as goal

pub loop-k-init : goal.loop-k-init
loop-k-init c = let e : c.args.at + 2 * 0 ≡ c.args.at = omega arith in (refl, rw e refl)

pub overflow_sub-table : goal.overflow_sub-table
overflow_sub-table c =
    let h = field_whole (region_of c.args.b) c.requires.1 c.loop-k.k (omega arith) in
    subst (λ (r : Range). r.low ≤ r.high) (sym c.range-range.ensures) h

pub loop-k-preserved : goal.loop-k-preserved
loop-k-preserved c =
    let h = c.loop-k in
    let at = c.args.at in
    let e : at + 2 * (h.k + 1) ≡ at + 2 * h.k + 2 = omega arith in
    (simp length-set (omega (arith, h.invariant.0)), rw e (field_put (region_of c.args.b) c.requires.1 h.k h.table (at + 2 * h.k) _ h.invariant.1 (omega arith) c.range-range.ensures))

pub returns : goal.returns
returns c =
    let h = c.loop-k in
    row_put (region_of c.args.b) c.requires.1 h.k h.table (c.args.at + 2 * h.k) _ h.invariant.1 (omega arith)
