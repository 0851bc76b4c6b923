-- `first_of` meets its contract: the loop's invariant says what is left of the search. Assumes nothing.
use native.Mathlib.Omega.{arith}
use mathlib.Core.Path.{ap, sym, ◌∙◌}
use Rattle.policy.specs.Steps.{box_number}
use Rattle.policy.specs.Values.{packet_of}
use Rattle.origins.proofs.Searches.{none_left, left_inside, left_proper, this_has, this_misses}
use Rattle.origins.proofs.first_of.Goals as goal

pub has-requires : goal.has-requires
has-requires g c =
    let numbers = g.B.Boxes.numbers c.args.boxes in
    let h = left_inside _ g.B.Boxes.region_in _ _ _ _ c.loop-number-test.true c.loop-number.invariant.0 in
    (omega (arith, c.requires.apart), (left_proper _ _ numbers c.loop-number.at _ _ c.loop-number-test.true c.loop-number.invariant.1).0)

pub returns-then-has : goal.returns-then-has
returns-then-has g c =
    this_has _ _ (g.B.Boxes.numbers c.args.boxes) c.loop-number.at _ _ c.loop-number-test.true _ c.loop-number.invariant.2 (sym c.has.ensures ∙ c.if-has.true)

pub overflow_add-at : goal.overflow_add-at
overflow_add-at g c =
    let h = left_inside _ g.B.Boxes.region_in _ _ _ _ c.loop-number-test.true c.loop-number.invariant.0 in
    omega (arith, c.requires.fits)

pub loop-number-preserved : goal.loop-number-preserved
loop-number-preserved g c =
    let some = c.loop-number-test.true in
    let h = c.loop-number.invariant in (
      left_inside _ g.B.Boxes.region_in _ _ _ _ some h.0,
      (left_proper _ _ _ _ _ _ some h.1).1,
      this_misses _ _ _ _ _ _ some _ h.2 (sym c.has.ensures ∙ c.if-has.false),
    )

pub returns : goal.returns
unfolding box_number
returns g c =
    let e = ap (box_number (packet_of c.args.p)) (none_left c.args.run.step g.B.Boxes.region_in (g.B.Boxes.numbers c.args.boxes) c.loop-number.at c.args.run.count c.loop-number.number (omega (arith, c.loop-number-test.false))) in
    omega (arith, c.loop-number.invariant.2, c.loop-number.auto.number-end)
