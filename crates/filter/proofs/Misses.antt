-- Whether a packet is in a box, told by counting the fields that miss. Assumes nothing.
use Rattle.std.proofs.Common.{◌≡◌, ℕ, ◌+◌, ◌<◌, ◌≤◌, Bool, true, false, eqb, length, get_or, sym, refl, ◌∙◌, zero-le, arith, below_more, eqb-true}
use borrow.Author.Tests.{eqb-false}
use Rattle.policy.specs.Ranges.{Region, Packet, within, inside}
use Rattle.policy.specs.Steps.{range_at}
use Rattle.filter.proofs.Insides.{InRange, outside_at, all_inside}
use Rattle.filter.specs.Steps.{miss_of}

-- What is known of the first k fields when m of them miss.
pub record Passed (p : Packet) (b : Region) (k m : ℕ) : Type 0 where
  pub few : m ≤ k
  pub none : m ≡ 0 → (j : ℕ) → j < k → InRange p b j
  pub some : 0 < m → inside p b ≡ false

module _ (p : Packet) (b : Region) where
  pub passed_first : Passed p b 0 0
  passed_first = record { few = zero-le; none = λ e j h. absurd (omega arith); some = λ h. absurd (omega arith) }

  step : (k m : ℕ) → k < length p → k < length b → Passed p b k m → (t : Bool) → within (get_or p k 0) (range_at b k) ≡ t → (x : ℕ) → x ≡ miss_of (get_or p k 0) (range_at b k) → Passed p b (k + 1) (m + x)
  step k m u v so true e x is =
      let z : x ≡ 0 = is ∙ rw e refl in
      record { few = omega (arith, so.few); none = λ h. below_more (InRange p b) k (so.none (omega arith)) e; some = λ h. so.some (omega arith) }
  step k m u v so false e x is =
      let z : x ≡ 1 = is ∙ rw e refl in
      record { few = omega (arith, so.few); none = λ h. absurd (omega arith); some = λ h. outside_at p b k u v e }

  pub passed_next : (k m : ℕ) → k < length p → k < length b → Passed p b k m → (x : ℕ) → x ≡ miss_of (get_or p k 0) (range_at b k) → Passed p b (k + 1) (m + x)
  passed_next k m u v so x is = step k m u v so (within (get_or p k 0) (range_at b k)) refl x is

  last : (k m : ℕ) → length p ≡ length b → length p ≤ k → Passed p b k m → (t : Bool) → eqb m 0 ≡ t → t ≡ inside p b
  last k m l h so true e = sym (all_inside p b l (λ j g. so.none (eqb-true m 0 e) j (omega arith)))
  last k m l h so false e = let n = eqb-false m 0 e in sym (so.some (omega arith))

  pub passed_last : (k m : ℕ) → length p ≡ length b → length p ≤ k → Passed p b k m → eqb m 0 ≡ inside p b
  passed_last k m l h so = last k m l h so (eqb m 0) refl
