-- Laws on the reading of a box as a list of ranges. Assumes nothing.
use mathlib.Core.Path.{◌≡◌, refl, ap}
use mathlib.Core.List.{List, [], ◌∷◌}
use mathlib.Core.Bool.{Bool, true, false, cond}
use Prim.Native.Nat.{ℕ, zero, suc, ◌+◌, ◌<◌, ◌≤◌}
use native.Mathlib.Omega.{arith}
use lib.Dec.{ltb}
use lib.ListN.{length, get_or, set}
use borrow.Author.Tests.{ltb-true, ltb-false, lt-ltb, le-ltb}
use Rattle.policy.specs.Ranges.{range, Region}
use Rattle.policy.specs.Values.{ranges}
use Rattle.policy.specs.Steps.{range_at}

pub ranges-length : (ls hs : List ℕ) → length ls ≡ length hs → length (ranges ls hs) ≡ length ls
unfolding ranges
ranges-length [] hs h = refl
ranges-length (l ∷ ls) [] h = omega arith
ranges-length (l ∷ ls) (x ∷ hs) h = ap suc (ranges-length ls hs (omega arith))

pub ranges-set : (ls hs : List ℕ) (k l h : ℕ) → ranges (set ls k l) (set hs k h) ≡ set (ranges ls hs) k (range l h)
unfolding ranges
ranges-set [] hs k l h = refl
ranges-set (x ∷ ls) [] zero l h = refl
ranges-set (x ∷ ls) [] (suc k) l h = refl
ranges-set (x ∷ ls) (y ∷ hs) zero l h = refl
ranges-set (x ∷ ls) (y ∷ hs) (suc k) l h = ap (λ (c : Region). range x y ∷ c) (ranges-set ls hs k l h)

pub ranges_at : (ls hs : List ℕ) (k : ℕ) → length ls ≡ length hs → range_at (ranges ls hs) k ≡ range (get_or ls k 0) (get_or hs k 0)
unfolding ranges
ranges_at [] [] k e = refl
ranges_at [] (y ∷ hs) k e = absurd (omega arith)
ranges_at (x ∷ ls) [] k e = absurd (omega arith)
ranges_at (x ∷ ls) (y ∷ hs) zero e = refl
ranges_at (x ∷ ls) (y ∷ hs) (suc k) e = ranges_at ls hs k (omega arith)

-- A walk over the fields that puts something new at field k: what it has when it comes to field j.
module _ {A : Type 0} (k j : ℕ) (new old : A) where
  pub walk_before : j ≤ k → cond (ltb k j) new old ≡ old
  walk_before h = rw (le-ltb k j h)

  pub walk_after : k < j → cond (ltb k j) new old ≡ new
  walk_after h = rw (lt-ltb k j h)

  pub walk_past : (j ≡ k → ⊥) → cond (ltb k j) new old ≡ cond (ltb k (j + 1)) new old
  walk_past h = go (ltb k j) refl
    where
      go : (t : Bool) → ltb k j ≡ t → cond t new old ≡ cond (ltb k (j + 1)) new old
      go true e = let l = ltb-true k j e in rw (lt-ltb k (j + 1) (omega arith))
      go false e = let l = ltb-false k j e in rw (le-ltb k (j + 1) (omega arith))
