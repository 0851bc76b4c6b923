-- `cut_field` meets its contract: the low part, the high part behind it, and the rest narrowed. Assumes nothing.
use native.Mathlib.Omega.{arith}
use mathlib.Core.Path.{◌≡◌, ap, ◌∙◌}
use Rattle.policy.specs.Ranges.{Range, Region}
use Rattle.policy.specs.Values.{range_of, region_of}
use Rattle.policy.specs.Steps.{range_at, part_below, part_above}
use Rattle.policy.specs.Cut.{shared}
use lib.ListN.{set}
use Rattle.groups.specs.Steps.{Stored}
use Rattle.groups.proofs.Stores.{stored_then}
use Rattle.groups.proofs.Cutting.{below_none, below_stored, above_none, above_stored}
use Rattle.groups.proofs.cut_field.Goals as goal
use Rattle.groups.proofs.cut_field.Goals.{then-range-allow, else-range-allow, then-allow-range, else-allow-range}

pub returns : goal.returns
returns c =
    let b : Region = region_of c.args.done.rest in
    let k = c.args.k in
    let here : range_of c.args.range ≡ range_at b k = c.requires.range in
    let low = ap (λ (r : Range). r.low) here in
    let high = ap (λ (r : Range). r.high) here in
    let below : Stored c.args.out.now c.args.done.stored (part_below b k c.args.allow.low) c.if-range-allow.out c.if-range-allow.stored =
    elim c.if-range-allow.branch [
      | then-range-allow w ↦ rw (w.out-is, w.stored-is) (below_stored b k c.args.allow.low (omega arith) w.low_part.ensures w.store_part-stored.ensures)
      | else-range-allow w ↦ rw (w.out-is, w.stored-is) (below_none b k c.args.allow.low (omega arith))
    ] in
    let above : Stored c.if-range-allow.out c.if-range-allow.stored (part_above b k c.args.allow.high) c.if-allow-range.out c.if-allow-range.stored =
    elim c.if-allow-range.branch [
      | then-allow-range w ↦ rw (w.out-is, w.stored-is) (above_stored b k c.args.allow.high (omega arith) w.high_part.ensures w.store_part-stored-then-allow-range.ensures)
      | else-allow-range w ↦ rw (w.out-is, w.stored-is) (above_none b k c.args.allow.high (omega arith))
    ] in
    record {
      parts = stored_then below above;
      narrowed = c.narrow-rest.ensures ∙ rw (c.max-low.ensures, c.min-high.ensures) (ap (λ (r : Range). set b k (shared r (range_of c.args.allow))) here);
    }
