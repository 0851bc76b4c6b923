-- What a loop over two lists side by side knows of a test of both, in any order, and what a loop that counts down knows. Assumes nothing.
use mathlib.Core.Path.{◌≡◌, refl, subst}
use mathlib.Core.List.{List, [], ◌∷◌}
use mathlib.Core.Bool.{Bool, true, false}
use mathlib.Core.Logic.{⊎_elim}
use Prim.Native.Nat.{ℕ, zero, suc, ◌-◌, ◌<◌, ◌≤◌, zero-le, suc-le-suc}
use native.Mathlib.Omega.{arith}
use native.Mathlib.Nat.{eq-or-lt_of_le}
use lib.ListN.{length, get_or}
use Rattle.lists.specs.Lists.{every_both}
use Rattle.lists.proofs.Tests.{and_both, and_false}

-- The test fails where it fails of one, and holds where it holds of each.
module _ {A B : Type 0} (f : A → B → Bool) (x : A) (y : B) where
  pub fails_at : (l : List A) (m : List B) (k : ℕ) → k < length l → k < length m → f (get_or l k x) (get_or m k y) ≡ false → every_both f l m ≡ false
  unfolding every_both
  fails_at [] m k u v h = absurd (omega arith)
  fails_at (a ∷ l) [] k u v h = absurd (omega arith)
  fails_at (a ∷ l) (b ∷ m) zero u v h = rw h
  fails_at (a ∷ l) (b ∷ m) (suc k) u v h = rw (fails_at l m k (omega arith) (omega arith) h) (and_false (f a b))

  pub holds_of_each : (l : List A) (m : List B) → length l ≡ length m → ((k : ℕ) → k < length l → f (get_or l k x) (get_or m k y) ≡ true) → every_both f l m ≡ true
  unfolding every_both
  holds_of_each [] [] e h = refl
  holds_of_each [] (b ∷ m) e h = absurd (omega arith)
  holds_of_each (a ∷ l) [] e h = absurd (omega arith)
  holds_of_each (a ∷ l) (b ∷ m) e h =
      and_both (f a b) (every_both f l m) (h 0 (suc-le-suc zero-le)) (holds_of_each l m (omega arith) (λ k g. h (suc k) (suc-le-suc g)))

-- What a loop that counts i down from n has shown of every index that it has passed.
pub above_more : (P : ℕ → Type 0) (n i : ℕ) → ((k : ℕ) → i ≤ k → k < n → P k) → P (i - 1) → (k : ℕ) → i - 1 ≤ k → k < n → P k
above_more P n i all here k l h = ⊎_elim (λ e. subst P e here) (λ g. all k (omega arith) h) (eq-or-lt_of_le l)
