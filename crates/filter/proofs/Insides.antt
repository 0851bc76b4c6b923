-- Whether a packet is in a box, told field by field and in any order. Assumes nothing.
use Rattle.std.proofs.Common.{◌≡◌, ℕ, zero, suc, ◌+◌, ◌-◌, ◌%◌, ◌^◌, ◌<◌, ◌≤◌, Bool, true, false, ◌&&◌, leb, [], ◌∷◌, length, get_or, refl, ap, ◌∙◌, arith, le-leb, leb-true}
use Rattle.lists.specs.Lists.{every_both}
use Rattle.lists.proofs.Tests.{and_true, and_both, bool_eq}
use Rattle.lists.proofs.Both.{fails_at, holds_of_each}
use Rattle.policy.specs.Ranges.{Range, range, Region, Packet, within, inside, Whole}
use Rattle.policy.specs.Steps.{range_at}

-- One compare for both ends of a range: w is x less the low, wrapped round below 0.
pub wrapped_within : (x w : ℕ) (r : Range) → r.low ≤ r.high → r.high < 2 ^ 32 → w < 2 ^ 32 → (w + r.low) % 2 ^ 32 ≡ x → leb w (r.high - r.low) ≡ within x r
wrapped_within x w r l h k e =
    bool_eq (leb w (r.high - r.low)) (within x r)
    (λ t.
    let m = leb-true w (r.high - r.low) t in
    and_both (leb r.low x) (leb x r.high) (le-leb r.low x (omega arith)) (le-leb x r.high (omega arith)))
    (λ t.
    let b = and_true (leb r.low x) (leb x r.high) t in
    let u = leb-true r.low x b.0 in
    let v = leb-true x r.high b.1 in
    le-leb w (r.high - r.low) (omega arith))

-- A sound rule's range at a field is not empty.
pub range_whole : (b : Region) (k : ℕ) → Whole b → k < length b → (range_at b k).low ≤ (range_at b k).high
unfolding Whole
range_whole [] k h g = absurd (omega arith)
range_whole (r ∷ b) zero h g = h.0
range_whole (r ∷ b) (suc k) h g = range_whole b k h.1 (omega arith)

inside_both : (p : Packet) (b : Region) → inside p b ≡ every_both within p b
unfolding inside every_both
inside_both [] [] = refl
inside_both [] (r ∷ b) = refl
inside_both (x ∷ p) [] = refl
inside_both (x ∷ p) (r ∷ b) = ap (λ (t : Bool). within x r && t) (inside_both p b)

-- A packet with one value outside its range is not in the box.
pub outside_at : (p : Packet) (b : Region) (k : ℕ) → k < length p → k < length b → within (get_or p k 0) (range_at b k) ≡ false → inside p b ≡ false
outside_at p b k u v h = inside_both p b ∙ fails_at within 0 (range 0 0) p b k u v h

-- A packet with every value in its range is in the box.
abbrev pub InRange : Packet → Region → ℕ → Type 0
InRange p b k = within (get_or p k 0) (range_at b k) ≡ true

pub all_inside : (p : Packet) (b : Region) → length p ≡ length b → ((k : ℕ) → k < length p → InRange p b k) → inside p b ≡ true
all_inside p b e f = inside_both p b ∙ holds_of_each within 0 (range 0 0) p b e f
