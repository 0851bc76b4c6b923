-- The greatest common divisor, and fractions in lowest terms by it. Assumes nothing.
use Rattle.std.proofs.Common.{◌≡◌, ℕ, zero, suc, ◌*◌, ◌/◌, ◌%◌, ◌<◌, ◌≤◌, sym, refl, ap, ◌∙◌, subst, mod-lt, mul_left_comm, arith, ne_eqb}
use Prim.Native.Nat.{◌∣◌}
use native.Mathlib.Nat.{dvd_refl, dvd-zero, dvd-mod_iff, pos_of_dvd_of_pos, div-mul_cancel, mul-dvd-mul_right, dvd_of_mul-dvd-mul_right, eq-one_of_dvd-one}
use Rattle.load.specs.Load.{Load, common_in, common, gain_of}
use Rattle.load.specs.Theorems.{LowestGain}

-- one step with a second number that is not 0, and none with 0
common_step : (m a b : ℕ) → common_in (suc m) a (suc b) ≡ common_in m (suc b) (a % suc b)
unfolding common_in
common_step m a b = rw (ne_eqb (suc b) 0 (λ e. absurd (omega arith))) refl

common_none : (m a : ℕ) → common_in m a 0 ≡ a
unfolding common_in
common_none zero a = refl
common_none (suc m) a = refl

rest_small : (m a b : ℕ) → suc b ≤ suc m → a % suc b ≤ m
rest_small m a b h = let r = mod-lt a {m = suc b} (omega arith) in omega arith

-- steps beyond the second number change nothing
steps_enough : (m n a b : ℕ) → b ≤ m → b ≤ n → common_in m a b ≡ common_in n a b
steps_enough zero n a b h k =
    let z : b ≡ 0 = omega arith in
    rw z (common_none 0 a ∙ sym (common_none n a))
steps_enough (suc m) n a b h k = go n b h k (λ n a b h k. steps_enough m n a b h k)
  where
    go : (n b : ℕ) → b ≤ suc m → b ≤ n → ((n a b : ℕ) → b ≤ m → b ≤ n → common_in m a b ≡ common_in n a b) → common_in (suc m) a b ≡ common_in n a b
    go n zero h k less = common_none (suc m) a ∙ sym (common_none n a)
    go zero (suc b) h k less = absurd (omega arith)
    go (suc n) (suc b) h k less = common_step m a b ∙ (less n (suc b) (a % suc b) (rest_small m a b h) (rest_small n a b k) ∙ sym (common_step n a b))

pub common_next : (a b : ℕ) → 0 < b → common a b ≡ common b (a % b)
common_next a zero h = absurd (omega arith)
common_next a (suc b) h = common_step b a b ∙ steps_enough b (a % suc b) (suc b) (a % suc b) (rest_small b a b (omega arith)) (omega arith)

pub common_last : (a b : ℕ) → b ≤ 0 → common a b ≡ a
common_last a b h = let z : b ≡ 0 = omega arith in rw z (common_none 0 a)

-- It divides both numbers, and what divides both divides it.
common_divides : (m a b : ℕ) → b ≤ m → (common_in m a b ∣ a) × (common_in m a b ∣ b)
common_divides zero a b h =
    let z : b ≡ 0 = omega arith in
    rw (z, common_none 0 a) (dvd_refl a, dvd-zero a)
common_divides (suc m) a b h = go b h (λ a b h. common_divides m a b h)
  where
    go : (b : ℕ) → b ≤ suc m → ((a b : ℕ) → b ≤ m → (common_in m a b ∣ a) × (common_in m a b ∣ b)) → (common_in (suc m) a b ∣ a) × (common_in (suc m) a b ∣ b)
    go zero h less = rw (common_none (suc m) a) (dvd_refl a, dvd-zero a)
    go (suc b) h less =
        let d = less (suc b) (a % suc b) (rest_small m a b h) in
        rw (common_step m a b) ((dvd-mod_iff (common_in m (suc b) (a % suc b)) d.0).0 d.1, d.0)

common_greatest : (m a b n : ℕ) → b ≤ m → n ∣ a → n ∣ b → n ∣ common_in m a b
common_greatest zero a b n h x y =
    let z : b ≡ 0 = omega arith in
    rw (z, common_none 0 a) x
common_greatest (suc m) a b n h x y = go b h y (λ a b h x y. common_greatest m a b n h x y)
  where
    go : (b : ℕ) → b ≤ suc m → n ∣ b → ((a b : ℕ) → b ≤ m → n ∣ a → n ∣ b → n ∣ common_in m a b) → n ∣ common_in (suc m) a b
    go zero h y less = rw (common_none (suc m) a) x
    go (suc b) h y less = rw (common_step m a b) (less (suc b) (a % suc b) (rest_small m a b h) y ((dvd-mod_iff n y).1 x))

module _ (t : Load) (some : 0 < t.after) where
  abbrev divisor : ℕ
  divisor = common t.before t.after

  divides : (divisor ∣ t.before) × (divisor ∣ t.after)
  divides = common_divides t.after t.before t.after (omega arith)

  positive : 0 < divisor
  positive = pos_of_dvd_of_pos divides.1 some

  pub lowest_gain : LowestGain t
  unfolding gain_of
  lowest_gain =
      let x : ℕ = t.before / divisor in
      let y : ℕ = t.after / divisor in
      let b : x * divisor ≡ t.before = div-mul_cancel divisor divides.0 in
      let a : y * divisor ≡ t.after = div-mul_cancel divisor divides.1 in
      record {
        same = ap (λ (n : ℕ). x * n) (sym a) ∙ (mul_left_comm x y divisor ∙ ap (λ (n : ℕ). y * n) b);
        lowest = λ n u v.
            let ub = subst (λ (m : ℕ). n * divisor ∣ m) b (mul-dvd-mul_right n u divisor) in
            let va = subst (λ (m : ℕ). n * divisor ∣ m) a (mul-dvd-mul_right n v divisor) in
            let g = common_greatest t.after t.before t.after (n * divisor) (omega arith) ub va in
            let o : 1 * divisor ≡ divisor = omega arith in
            eq-one_of_dvd-one (dvd_of_mul-dvd-mul_right n positive (subst (λ (m : ℕ). n * divisor ∣ m) (sym o) g));
      }
