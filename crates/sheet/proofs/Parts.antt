-- What owning a slice of bytes tells, and its part from a byte on. Assumes nothing.
use mathlib.Core.Path.{◌≡◌}
use mathlib.Core.List.{List, [], ◌∷◌}
use Prim.Native.Nat.{ℕ, suc, ◌-◌}
use native.Mathlib.Omega.{arith}
use mir.Val.{Fits}
use mir.Syntax.{w8}
use lib.ListN.{length, take, drop, get_or, length-drop}
use lib.Seq.{take_all}
use Rattle.lists.specs.Lists.{Each}
use Rattle.wire.specs.Numbers.{Byte}

pub bytes_of : (s : List ℕ) → ((i : ℕ) → Fits w8 (get_or s i 0)) → Each Byte s
unfolding Each
bytes_of [] f = tt
bytes_of (x ∷ s) f = (omega (arith, f 0), bytes_of s (λ i. f (suc i)))

pub part_from : (s : List ℕ) (at : ℕ) → take (length s - at) (drop at s) ≡ drop at s
part_from s at = take_all (length s - at) (drop at s) (rw length-drop (omega arith))
