-- One turn of a loop over rules or boxes that stand one after another. Assumes nothing.
use mathlib.Core.Path.{◌≡◌, refl, ap, ap₂, sym, ◌∙◌}
use mathlib.Core.List.{List, [], ◌∷◌}
use mathlib.Core.Bool.{Bool, true, false, cond, ◌&&◌}
use Prim.Native.Nat.{ℕ, zero, suc, ◌+◌, ◌*◌, ◌-◌, ◌<◌, ◌≤◌}
use native.Mathlib.Omega.{arith}
use lib.ListN.{drop}
use lib.Seq.{drop-drop}
use Rattle.std.specs.List.{list_all, range_with_len}
use Rattle.std.proofs.Math.Nat.{mul-suc}
use Rattle.lists.specs.Lists.{every}
use Rattle.policy.specs.Fields.{record_size}
use Rattle.policy.specs.Rules.{Rule, is_allow, denies}
use Rattle.wire.specs.Records.{rule_in, rules_in, each_in}

-- What is left at turn i begins with the item that is reached.
module _ {A : Type 0} (size : ℕ) (read : List ℕ → A) (read_all : ℕ → List ℕ → List A) where
  left : ((n : ℕ) (s : List ℕ) → read_all (suc n) s ≡ read s ∷ read_all n (drop size s))
      → (n i at : ℕ) (s : List ℕ) → i < n → read_all (n - i) (drop at s) ≡ read (drop at s) ∷ read_all (n - (i + 1)) (drop (at + size) s)
  left more n i at s h =
      let e : n - i ≡ suc (n - (i + 1)) = omega arith in
      rw (e, more (n - (i + 1)) (drop at s), drop-drop size at s)

  none : ((s : List ℕ) → read_all 0 s ≡ []) → (n i : ℕ) (s : List ℕ) → n ≤ i → read_all (n - i) s ≡ []
  none all n i s h = let e : n - i ≡ 0 = omega arith in rw e (all s)

pub rules_left :
    (n i at : ℕ) (s : List ℕ) → i < n → rules_in (n - i) (drop at s) ≡ rule_in (drop at s) ∷ rules_in (n - (i + 1)) (drop (at + record_size) s)
unfolding each_in
rules_left = left record_size rule_in rules_in (λ n s. refl)

pub no_rules : (n i : ℕ) (s : List ℕ) → n ≤ i → rules_in (n - i) s ≡ []
unfolding each_in
no_rules = none record_size rule_in rules_in (λ s. refl)

-- A test that says of the numbers from a on what f says of the items that stand one after another.
module _ {A : Type 0} (size : ℕ) (read : List ℕ → A) (f : A → Bool) (test : ℕ → Bool) where
  pub all_items : (n a at : ℕ) (s : List ℕ) → ((i : ℕ) → test (a + i) ≡ f (read (drop (at + size * i) s)))
      → list_all test (range_with_len a n) ≡ every f (each_in size read n (drop at s))
  unfolding every each_in
  all_items zero a at s h = refl
  all_items (suc n) a at s h =
      let here : at + size * 0 ≡ at = omega arith in
      let next : (i : ℕ) → test (a + 1 + i) ≡ f (read (drop (at + size + size * i) s)) =
      λ i. let e = mul-suc size i in ap test (omega arith) ∙ (h (suc i) ∙ ap (λ (k : ℕ). f (read (drop k s))) (omega arith)) in
      ap₂ (◌&&◌) (ap test (omega arith) ∙ (h 0 ∙ ap (λ (k : ℕ). f (read (drop k s))) here))
      (all_items n (a + 1) (at + size) s next ∙ ap (λ (t : List ℕ). every f (each_in size read n t)) (sym (drop-drop size at s)))

-- The deny rules among those that are left.
module _ {l k : List Rule} {a : Rule} {b : Bool} (e : l ≡ a ∷ k) (is : b ≡ is_allow a) where
  denies_step : denies l ≡ cond b (denies k) (suc (denies k))
  unfolding denies
  denies_step = ap denies e ∙ ap (λ (t : Bool). cond t (denies k) (suc (denies k))) (sym is)

  pub deny_counts : b ≡ false → denies l ≡ suc (denies k)
  deny_counts h = denies_step ∙ rw h refl

  pub allow_skips : b ≡ true → denies l ≡ denies k
  allow_skips h = denies_step ∙ rw h refl

pub no_denies : {l : List Rule} → l ≡ [] → denies l ≡ 0
unfolding denies
no_denies e = ap denies e
