-- What is left of a cut when the first k fields are done. Assumes nothing.
use mathlib.Core.Path.{◌≡◌, refl, ap, ap₂, sym}
use mathlib.Core.List.{List, [], ◌∷◌, ◌++◌, map, append_assoc}
use mathlib.Core.Bool.{Bool, true, false, cond}
use Prim.Native.Nat.{ℕ, suc, ◌+◌, ◌-◌, ◌<◌, ◌≤◌}
use native.Mathlib.Omega.{arith}
use native.Mathlib.Numerals.{add-one}
use lib.Dec.{ltb}
use lib.ListN.{length, take, drop, set, drop_of_length-le}
use lib.Seq.{drop-cons, set_split, take-suc-set, drop-set-lt}
use Rattle.lists.proofs.Lists.{map-append}
use Rattle.policy.specs.Ranges.{Range, range, Region}
use Rattle.policy.specs.Steps.{range_at, part_below, part_above}
use Rattle.policy.specs.Cut.{share, shared, before, pieces, cut}

abbrev behind : Region → Region → Region
behind front p = front ++ p

-- The pieces that the fields from k on still give, where d holds the shared ranges before k.
unfoldable pub rest : ℕ → Region → Region → List Region
rest k d a = map (behind (take k d)) (pieces (drop k d) (drop k a))

map-map : {A B C : Type 0} (f : A → B) (g : B → C) (h : A → C) (l : List A) → ((a : A) → g (f a) ≡ h a) → map g (map f l) ≡ map h l
map-map f g h [] e = refl
map-map f g h (a ∷ l) e = ap₂ ◌∷◌ (e a) (map-map f g h l e)

map_same : {A : Type 0} (f : A → A) (l : List A) → ((a : A) → f a ≡ a) → map f l ≡ l
map_same f [] e = refl
map_same f (a ∷ l) e = ap₂ ◌∷◌ (e a) (map_same f l e)

map_if : {A B C : Type 0} (f : A → B) (g : B → C) (t : Bool) (a : A) (c : C) → g (f a) ≡ c → map g (map f (cond t (a ∷ []) [])) ≡ cond t (c ∷ []) []
map_if f g true a c e = ap (λ (x : _). x ∷ []) e
map_if f g false a c e = refl

-- Where the boxes share a packet the cut is what all fields give; where they do not, d itself.
pub rest_all : (d a : Region) → share d a ≡ true → rest 0 d a ≡ cut d a
unfolding rest cut
rest_all d a e = rw e (map_same (behind (take 0 d)) (pieces d a) (λ p. refl))

pub cut_whole : (d a : Region) → share d a ≡ false → cut d a ≡ d ∷ []
unfolding cut
cut_whole d a e = rw e

pub rest_done : (k : ℕ) (d a : Region) → length d ≤ k → rest k d a ≡ []
unfolding rest pieces
rest_done k d a h = rw (drop_of_length-le d h)

module _ (k : ℕ) (d a : Region) (h : k < length d) (g : k < length a) where
  -- The low part, the high part, and what is left behind the shared range.
  pub rest_field :
      rest k d a
      ≡ part_below d k (range_at a k).low
      ++ (part_above d k (range_at a k).high ++ rest (k + 1) (set d k (shared (range_at d k) (range_at a k))) a)
  unfolding rest pieces
  rest_field =
      let r : Range = range_at d k in
      let s : Range = range_at a k in
      let u : Region → Region = behind (take k d) in
      let q : (x : Range) → u (before (drop (suc k) d) x) ≡ set d k x = λ x. sym (set_split d k x h) in
      let later : map u (map (◌∷◌ (shared r s)) (pieces (drop (suc k) d) (drop (suc k) a))) ≡ rest (k + 1) (set d k (shared r s)) a =
      rw (add-one, take-suc-set d k (shared r s) h, drop-set-lt (suc k) d k (shared r s) (omega arith))
      (map-map (◌∷◌ (shared r s)) u (behind (take k d ++ (shared r s ∷ []))) (pieces (drop (suc k) d) (drop (suc k) a)) (λ p. sym (append_assoc (take k d) (shared r s ∷ []) p))) in
      rw (
        drop-cons d k (range 0 0) h,
        drop-cons a k (range 0 0) g,
        map-append,
        map-append,
        map_if (before (drop (suc k) d)) u (ltb r.low s.low) (range r.low (s.low - 1)) (set d k (range r.low (s.low - 1))) (q (range r.low (s.low - 1))),
        map_if (before (drop (suc k) d)) u (ltb s.high r.high) (range (s.high + 1) r.high) (set d k (range (s.high + 1) r.high)) (q (range (s.high + 1) r.high)),
        later,
      )
