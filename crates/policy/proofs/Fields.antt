-- A test of every field, one after another. Assumes nothing.
use mathlib.Core.Path.{◌≡◌, refl, ap, ap₂, ◌∙◌}
use mathlib.Core.List.{List, [], ◌∷◌}
use mathlib.Core.Bool.{Bool, ◌&&◌}
use Prim.Native.Nat.{ℕ, suc, ◌+◌}
use native.Mathlib.Omega.{arith}
use lib.ListN.{length, get_or}
use Rattle.std.specs.List.{list_all, range_with_len}
use Rattle.lists.specs.Lists.{every_both}

-- A test that says of the numbers from a on what f says of the elements of two lists, side by side.
module _ {A B : Type 0} (f : A → B → Bool) (x : A) (y : B) (test : ℕ → Bool) where
  pub all_numbers : (l : List A) (m : List B) (a : ℕ) → length l ≡ length m → ((j : ℕ) → test (a + j) ≡ f (get_or l j x) (get_or m j y)) → list_all test (range_with_len a (length l)) ≡ every_both f l m
  unfolding every_both
  all_numbers [] [] a e h = refl
  all_numbers [] (v ∷ m) a e h = absurd (omega arith)
  all_numbers (u ∷ l) [] a e h = absurd (omega arith)
  all_numbers (u ∷ l) (v ∷ m) a e h =
      ap₂ (◌&&◌) (ap test (omega arith) ∙ h 0) (all_numbers l m (a + 1) (omega arith) (λ j. ap test (omega arith) ∙ h (suc j)))
