-- `gain` meets its contract. Assumes nothing.
use Rattle.std.proofs.Common.{◌≡◌, sym, refl, ◌∙◌}
use native.Mathlib.Nat.{div-zero}
use Rattle.load.specs.Load.{common, gain_of}
use Rattle.load.proofs.Load.gain.Goals as goal

pub returns-then-divisor-eq0 : goal.returns-then-divisor-eq0
unfolding gain_of
returns-then-divisor-eq0 c = let z : common _ _ ≡ 0 = sym c.common_divisor-divisor.ensures ∙ c.if-divisor-eq0.true in rw (z, div-zero, div-zero) refl

pub returns : goal.returns
unfolding gain_of
returns c = rw c.common_divisor-divisor.ensures refl
