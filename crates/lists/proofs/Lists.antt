-- Laws on lists that the logic's own library lacks. Assumes nothing.
use mathlib.Core.Path.{◌≡◌, refl, ap, ◌∙◌}
use mathlib.Core.List.{List, [], ◌∷◌, ◌++◌, map, append_assoc}
use mathlib.Core.Bool.{Bool, true, false, cond}
use Prim.Native.Nat.{ℕ, zero, suc, ◌+◌, ◌<◌, ◌≤◌}
use native.Mathlib.Omega.{arith}
use native.Mathlib.Numerals.{add-one}
use lib.ListN.{length, get_or, set, take, drop, take-append-drop}
use lib.Seq.{sets, sets-eq, drop-cons, take-set-le, drop-set-lt}
use Rattle.lists.specs.Lists.{Each, every}
use Rattle.lists.proofs.Tests.{and_true, and_both}

pub map-append {ℓ} : {A B : Type ℓ} (f : A → B) (l k : List A) → map f (l ++ k) ≡ map f l ++ map f k
map-append f [] k = refl
map-append f (a ∷ l) k = ap (λ (r : List _). f a ∷ r) (map-append f l k)

pub append-none {ℓ} : {A : Type ℓ} (l : List A) → l ++ [] ≡ l
append-none [] = refl
append-none (a ∷ l) = ap (λ (r : List _). a ∷ r) (append-none l)

-- One element or none, by a test.
pub some_few : {A : Type 0} (t : Bool) (a : A) (n : ℕ) → (t ≡ true → 1 ≤ n) → length (cond t (a ∷ []) []) ≤ n
some_few true a n h = h refl
some_few false a n h = omega arith

-- A list is its first part, a stretch of n, and the rest.
pub three-parts {ℓ} : {A : Type ℓ} (i n : ℕ) (l : List A) → take i l ++ (take n (drop i l) ++ drop n (drop i l)) ≡ l
three-parts i n l = rw (take-append-drop n (drop i l), take-append-drop i l)

-- A run of stores in two parts.
pub sets-append {ℓ} : {A : Type ℓ} (l : List A) (i : ℕ) (u v : List A) → sets l i (u ++ v) ≡ sets (sets l i u) (i + length u) v
sets-append l i [] v = ap (λ (n : ℕ). sets l n v) (omega arith)
sets-append l i (a ∷ u) v =
    sets-append (set l i a) (suc i) u v ∙ ap (λ (n : ℕ). sets (sets (set l i a) (suc i) u) n v) (omega arith)

-- One store more of a run: what is left of it.
pub sets-next {ℓ} : {A : Type ℓ} (l : List A) (i : ℕ) (vs : List A) (k : ℕ) (x d : A) (whole : List A) → k < length vs → x ≡ get_or vs k d → sets l i (drop k vs) ≡ whole
    → sets (set l i x) (i + 1) (drop (k + 1) vs) ≡ whole
sets-next l i vs k x d whole h e inv = rw (e, add-one, add-one) (rw (drop-cons vs k d h) at inv)

-- It keeps what stands before it and behind it.
pub take-sets {ℓ} : {A : Type ℓ} (n : ℕ) (l : List A) (i : ℕ) (vs : List A) → n ≤ i → take n (sets l i vs) ≡ take n l
take-sets n l i [] h = refl
take-sets n l i (v ∷ vs) h = take-sets n (set l i v) (suc i) vs (omega arith) ∙ take-set-le n l i v h

pub drop-sets {ℓ} : {A : Type ℓ} (n : ℕ) (l : List A) (i : ℕ) (vs : List A) → i + length vs ≤ n → drop n (sets l i vs) ≡ drop n l
drop-sets n l i [] h = refl
drop-sets n l i (v ∷ vs) h = drop-sets n (set l i v) (suc i) vs (omega arith) ∙ drop-set-lt n l i v (omega arith)

-- What stands before it, what it stores, and what stands behind it.
pub sets-parts {ℓ} : {A : Type ℓ} (l : List A) (i : ℕ) (vs : List A) → i + length vs ≤ length l → sets l i vs ≡ take i l ++ (vs ++ drop (i + length vs) l)
sets-parts l i vs h = sets-eq vs l i h ∙ append_assoc (take i l) vs (drop (i + length vs) l)

module _ {A : Type 0} where
  pub each_append : (P : A → Type 0) (l k : List A) → Each P l → Each P k → Each P (l ++ k)
  unfolding Each
  each_append P [] k h g = g
  each_append P (a ∷ l) k h g = (h.0, each_append P l k h.1 g)

  pub each_map : (P Q : A → Type 0) (f : A → A) (l : List A) → ((a : A) → P a → Q (f a)) → Each P l → Each Q (map f l)
  unfolding Each
  each_map P Q f [] g h = tt
  each_map P Q f (a ∷ l) g h = (g a h.0, each_map P Q f l g h.1)

  pub each_imp : (P Q : A → Type 0) (l : List A) → ((a : A) → P a → Q a) → Each P l → Each Q l
  unfolding Each
  each_imp P Q [] f h = tt
  each_imp P Q (a ∷ l) f h = (f a h.0, each_imp P Q l f h.1)

  pub each_take : (P : A → Type 0) (n : ℕ) (l : List A) → Each P l → Each P (take n l)
  unfolding Each
  each_take P zero l h = tt
  each_take P (suc n) [] h = tt
  each_take P (suc n) (a ∷ l) h = (h.0, each_take P n l h.1)

  pub each-drop : (P : A → Type 0) (n : ℕ) (l : List A) → Each P l → Each P (drop n l)
  unfolding Each
  each-drop P zero l h = h
  each-drop P (suc n) [] h = tt
  each-drop P (suc n) (a ∷ l) h = each-drop P n l h.1

  pub every_take : (f : A → Bool) (n : ℕ) (l : List A) → every f l ≡ true → every f (take n l) ≡ true
  unfolding every
  every_take f zero l h = refl
  every_take f (suc n) [] h = refl
  every_take f (suc n) (a ∷ l) h =
      let g = and_true (f a) (every f l) h in
      and_both (f a) (every f (take n l)) g.0 (every_take f n l g.1)

  pub each_every : (f : A → Bool) (P : A → Type 0) → ((a : A) → f a ≡ true → P a) → (l : List A) → every f l ≡ true → Each P l
  unfolding Each every
  each_every f P g [] h = tt
  each_every f P g (a ∷ l) h =
      let k = and_true (f a) (every f l) h in
      (g a k.0, each_every f P g l k.1)

  pub every_each : (f : A → Bool) (l : List A) → Each (λ (a : A). f a ≡ true) l → every f l ≡ true
  unfolding Each every
  every_each f [] h = refl
  every_each f (a ∷ l) h = and_both (f a) (every f l) h.0 (every_each f l h.1)

  pub every_at : (f : A → Bool) (l : List A) (d : A) → every f l ≡ true → (k : ℕ) → k < length l → f (get_or l k d) ≡ true
  unfolding every
  every_at f [] d e k h = absurd (omega arith)
  every_at f (a ∷ l) d e zero h = (and_true (f a) (every f l) e).0
  every_at f (a ∷ l) d e (suc k) h = every_at f l d (and_true (f a) (every f l) e).1 k (omega arith)
