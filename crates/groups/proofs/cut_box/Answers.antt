-- `cut_box` meets its contract: the loop's invariant says what is left of the cut from field k on. Assumes nothing.
use borrow.Author.Rules.{rules}
use native.Mathlib.Omega.{arith}
use mathlib.Core.Path.{◌≡◌, ◌∙◌}
use lib.ListN.{length}
use Rattle.policy.specs.Fields.{fields}
use Rattle.policy.specs.Values.{region_of}
use Rattle.policy.proofs.Values.{ranges-length}
use Rattle.groups.proofs.Cutting.{cutting_first, cutting_at, cutting_next, cutting_past, cutting_last}
use Rattle.groups.proofs.cut_box.Goals as goal
use Rattle.groups.proofs.cut_box.Goals.{then-range-allow, else-range-allow+then-allow-range, else-range-allow+else-allow-range}

pub loop-k-init : goal.loop-k-init
loop-k-init c =
    let a = c.args in
    let l : length a.d.low ≡ fields = search rules in
    let h : length a.d.high ≡ fields = search rules in
    let f : length a.a.low ≡ fields = search rules in
    let u : length a.a.high ≡ fields = search rules in
    cutting_first a.out.now a.n (region_of a.d) (region_of a.a) (ranges-length a.d.low a.d.high (cc) ∙ l) (ranges-length a.a.low a.a.high (cc) ∙ f) c.requires.room.2

pub cut_field-done-requires : goal.cut_field-done-requires
cut_field-done-requires c =
    cutting_at c.loop-k.invariant c.loop-k-test.true c.args.piece.now c.range-range.ensures c.requires.room.0 c.requires.room.1 c.requires.written.0 c.requires.written.1

pub cut_field-done-requires-then-allow-range : goal.cut_field-done-requires-then-allow-range
cut_field-done-requires-then-allow-range c =
    cutting_at c.loop-k.invariant c.loop-k-test.true c.args.piece.now c.range-range.ensures c.requires.room.0 c.requires.room.1 c.requires.written.0 c.requires.written.1

pub loop-k-preserved : goal.loop-k-preserved
loop-k-preserved c =
    let g = c.loop-k.invariant in
    let t = c.loop-k-test.true in
    let allow = c.range-allow.ensures in
    elim c.if-range-allow.branch [
      | then-range-allow w ↦ rw (w.done-is, w.out-is) (cutting_next g t allow w.cut_field-done.ensures)
      | else-range-allow+then-allow-range w ↦ rw (w.done-is, w.out-is) (cutting_next g t allow w.cut_field-done-then-allow-range.ensures)
      | else-range-allow+else-allow-range w ↦ rw (w.done-is, w.out-is) (cutting_past c.loop-k.done g t c.range-range.ensures allow w.if-range-allow.false w.if-allow-range.false)
    ]

pub returns : goal.returns
returns c = cutting_last c.loop-k.invariant (omega arith)
