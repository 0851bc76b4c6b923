-- Laws on numbers given and on outcomes. Assumes nothing.
use mathlib.Core.Path.{◌≡◌, refl}
use mathlib.Core.Bool.{Bool, true, false}
use Prim.Native.Nat.{ℕ, zero, suc}
use native.Mathlib.Omega.{arith}
use Rattle.policy.specs.Refusals.{given, or_else}

pub or_else_zero : (m n : ℕ) → or_else m n ≡ 0 → (m ≡ 0) × (n ≡ 0)
or_else_zero zero n h = (refl, h)
or_else_zero (suc m) n h = absurd (omega arith)

pub or_else-both : (m n : ℕ) → m ≡ 0 → n ≡ 0 → or_else m n ≡ 0
or_else-both zero n h k = k
or_else-both (suc m) n h k = h

pub or_else_skip : (m n : ℕ) → m ≡ 0 → or_else m n ≡ n
or_else_skip zero n h = refl
or_else_skip (suc m) n h = absurd (omega arith)

pub or_else-none : (m n : ℕ) → n ≡ 0 → or_else m n ≡ m
or_else-none zero n h = h
or_else-none (suc m) n h = refl

pub or_else_assoc : (a b c : ℕ) → or_else (or_else a b) c ≡ or_else a (or_else b c)
or_else_assoc zero b c = refl
or_else_assoc (suc a) b c = refl

-- a number is given exactly if its test holds
pub given_zero : (t : Bool) (n : ℕ) → given t (suc n) ≡ 0 → t ≡ false
given_zero true n h = absurd (omega arith)
given_zero false n h = refl
