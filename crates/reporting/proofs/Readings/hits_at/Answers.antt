-- `hits_at` meets its contract. Assumes nothing.
use native.Mathlib.Omega.{arith}
use Rattle.reporting.proofs.Hits.{readings_there, hits_past, hits_here}
use Rattle.reporting.proofs.Readings.hits_at.Goals as goal

pub returns-then-self-place : goal.returns-then-self-place
returns-then-self-place c = hits_past _ _ _ _ c.if-self-place.true

pub four_at-requires : goal.four_at-requires
four_at-requires c = let h = readings_there _ _ _ c.args.self.lengths in omega (arith, h.0, c.if-self-place.false)

pub four_at-requires-2 : goal.four_at-requires-2
four_at-requires-2 c = let h = readings_there _ _ _ c.args.self.lengths in omega (arith, h.1, c.if-self-place.false)

pub returns : goal.returns
returns c =
    rw (c.hits_between.ensures, c.four_at-2.ensures, c.four_at.ensures)
    (hits_here _ _ _ _ (omega (arith, c.if-self-place.false)))
