-- `put_rows` meets its contract: the loop's invariant says what is left to store. Assumes nothing.
use native.Mathlib.Omega.{arith}
use mathlib.Core.Path.{ap, ◌∙◌}
use lib.Seq.{sets}
use Rattle.policy.specs.Ranges.{Region}
use Rattle.wire.specs.Records.{box_in, each_bytes}
use Rattle.origins.proofs.Searches.{none_left, left_inside, left_proper}
use Rattle.rows.specs.Steps.{row_numbers}
use Rattle.rows.proofs.Turns.{row_turn}
use Rattle.rows.proofs.put_rows.Goals as goal

pub box_at-requires : goal.box_at-requires
box_at-requires c =
    let there = left_inside _ box_in _ _ _ _ c.loop-test.true c.loop.invariant.0 in
    omega (arith, c.requires.1.apart)

pub put_row-requires : goal.put_row-requires
put_row-requires c =
    let proper = left_proper c.args.run.step _ c.args.sheet.now c.loop.start _ _ c.loop-test.true c.loop.invariant.3 in
    (omega (arith, c.loop.invariant.2, c.loop-test.true), rw c.box_at.ensures proper.0)

pub loop-preserved : goal.loop-preserved
loop-preserved c =
    let some = c.loop-test.true in
    let proper = left_proper c.args.run.step _ _ _ _ _ some c.loop.invariant.3 in (
      left_inside _ box_in _ _ _ _ some c.loop.invariant.0,
      omega (arith, c.loop.invariant.1),
      omega (arith, c.loop.invariant.2),
      proper.1,
      row_turn c.loop.table c.loop.p _ c.args.sheet.now _ _ _ _ some _ proper.0 c.loop.invariant.4
          (c.put_row.ensures ∙ ap (λ (b : Region). sets c.loop.table c.loop.p (row_numbers b)) c.box_at.ensures),
    )

pub returns : goal.returns
unfolding each_bytes
returns c =
    rw (none_left c.args.run.step box_in c.args.sheet.now c.loop.start c.args.run.count c.loop.counter (omega (arith, c.loop-test.false))) at c.loop.invariant.4
