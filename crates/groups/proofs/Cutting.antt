-- The loop over the fields of a cut: what it knows at field k, and what one field stores. Assumes nothing.
use mathlib.Core.Path.{◌≡◌, refl, ap, sym, ◌∙◌}
use mathlib.Core.List.{List, [], ◌∷◌, ◌++◌, append_assoc}
use mathlib.Core.Bool.{true}
use Prim.Native.Nat.{ℕ, ◌+◌, ◌-◌, ◌*◌, ◌<◌, ◌≤◌, min, max}
use native.Mathlib.Omega.{arith}
use lib.Dec.{ltb}
use lib.ListN.{length, drop, set, length-set, length-append}
use lib.Seq.{drop-drop, drop-set-lt, get_or-drop, set-get_or}
use borrow.Author.Tests.{lt-ltb, le-ltb}
use Rattle.lists.proofs.Lists.{some_few}
use Rattle.policy.specs.Fields.{fields, box_size}
use Rattle.policy.specs.Ranges.{Range, range, Region}
use Rattle.policy.specs.Values.{range_of, region_of}
use Rattle.policy.specs.Steps.{range_at, part_below, part_above}
use Rattle.policy.specs.Cut.{share, shared, cut}
use Rattle.policy.specs.declared.Range.{Range as RangeValue}
use Rattle.policy.proofs.Rest.{rest, rest_all, rest_field, rest_done}
use Rattle.wire.specs.Records.{box_bytes}
use Rattle.groups.specs.Steps.{half_size, stored_most, Stored, CutAt, FieldCut}
use Rattle.groups.specs.declared.Underway.{Underway}
use Rattle.groups.proofs.Stores.{length-store, stored_then, stored_none}
use Rattle.groups.proofs.Parts.{later_own}

-- The parts of a field, stored where there are such.
module _ {out : List ℕ} {m : ℕ} (b : Region) (k x : ℕ) where
  pub below_none : x ≤ (range_at b k).low → Stored out m (part_below b k x) out m
  below_none h = rw (le-ltb (range_at b k).low x h) (stored_none out m)

  pub above_none : (range_at b k).high ≤ x → Stored out m (part_above b k x) out m
  above_none h = rw (le-ltb x (range_at b k).high h) (stored_none out m)

  module _ {out' : List ℕ} {r : ℕ} where
    pub below_stored : {part : Region} → (range_at b k).low < x → part ≡ set b k (range (range_at b k).low (x - 1)) → Stored out m (part ∷ []) out' r → Stored out m (part_below b k x) out' r
    below_stored h e s = rw (lt-ltb (range_at b k).low x h, ← e) s

    pub above_stored : {part : Region} → x < (range_at b k).high → part ≡ set b k (range (x + 1) (range_at b k).high) → Stored out m (part ∷ []) out' r → Stored out m (part_above b k x) out' r
    above_stored h e s = rw (lt-ltb x (range_at b k).high h, ← e) s

-- A range that lies in the allow's is narrowed by nothing.
shared_all : (b : Region) (k : ℕ) (s : Range) → s.low ≤ (range_at b k).low → (range_at b k).high ≤ s.high → b ≡ set b k (shared (range_at b k) s)
shared_all b k s p q =
    let r : Range = range_at b k in
    let x : max r.low s.low ≡ r.low = omega arith in
    let y : min r.high s.high ≡ r.high = omega arith in
    sym (ap (set b k) (λ i. range (x i) (y i)) ∙ set-get_or b k (range 0 0))

-- At field k: the first k fields are done, c is d with the shared ranges there, m boxes stand, and whatever is left of the fields
-- from k on, stored behind them, makes the whole cut.
pub record Cutting (out₀ : List ℕ) (n : ℕ) (d a : Region) (out : List ℕ) (m : ℕ) (c : Region) (k : ℕ) : Type 0 where
  pub few : m ≤ n + 2 * k
  pub wide : length out ≡ length out₀
  pub own : length d ≡ fields
  pub allow : length a ≡ fields
  pub full : length c ≡ fields
  pub later : drop k c ≡ drop k d
  pub onward : (last : List ℕ) (r : ℕ) → Stored out m (rest k c a) last r → Stored out₀ n (cut d a) last r

pub cutting_first : (out : List ℕ) (n : ℕ) (d a : Region) → length d ≡ fields → length a ≡ fields → share d a ≡ true → Cutting out n d a out n d 0
cutting_first out n d a e f t = record {
  few = omega arith;
  wide = refl;
  own = e;
  allow = f;
  full = e;
  later = refl;
  onward = λ last r s. rw (rest_all d a t) at s;
}

module _ {out₀ : List ℕ} {n : ℕ} {d a : Region} {out : List ℕ} {m : ℕ} {c : Region} {k : ℕ} (g : Cutting out₀ n d a out m c k) where
  module _ (t : k < fields) where
    -- The field is not done: c's range there is d's.
    own_range : range_at c k ≡ range_at d k
    own_range =
        let e : k + 0 ≡ k = omega arith in
        let q : (b : Region) → range_at (drop k b) 0 ≡ range_at b k = λ b. get_or-drop k b 0 (range 0 0) ∙ ap (range_at b) e in
        sym (q c) ∙ (ap (λ (b : Region). range_at b 0) g.later ∙ q d)

    later_next : drop (k + 1) c ≡ drop (k + 1) d
    later_next = let w : (b : Region) → drop (k + 1) b ≡ drop 1 (drop k b) = λ b. sym (drop-drop 1 k b) in w c ∙ (ap (drop 1) g.later ∙ sym (w d))

  pub cutting_last : fields ≤ k → Stored out₀ n (cut d a) out m
  cutting_last h = g.onward out m (rw (rest_done k c a (omega (arith, g.full))) (stored_none out m))

-- The same of the cut that the code has under way: the low part, the high part, and on with the shared range.
module _ {out₀ : List ℕ} {n : ℕ} {d a : Region} {out : List ℕ} {done : Underway} {k : ℕ} (g : Cutting out₀ n d a out done.stored (region_of done.rest) k) (t : k < fields) where
  pub cutting_at : {own : RangeValue} (piece : List ℕ) → range_of own ≡ range_at d k → half_size ≤ length out₀ → n + 2 * fields ≤ stored_most → length piece ≡ box_size → piece ≡ box_bytes d → CutAt piece k own done out
  cutting_at piece e room few long written = record {
    room = omega (arith, g.wide);
    few = omega (arith, g.few);
    long = long;
    inside = t;
    range = e ∙ sym (own_range g t);
    later = later_own (k + 1) (region_of done.rest) piece d g.own written (later_next g t);
  }

  pub cutting_next : {allow : RangeValue} {last : List ℕ} {r : Underway} → range_of allow ≡ range_at a k → FieldCut k allow done out last r → Cutting out₀ n d a last r.stored (region_of r.rest) (k + 1)
  cutting_next {allow} {last} {r} e s =
      let c : Region = region_of done.rest in
      let next : Region = region_of r.rest in
      let x = some_few (ltb (range_at c k).low allow.low) (set c k (range (range_at c k).low (allow.low - 1))) 1 (λ t. omega arith) in
      let y = some_few (ltb allow.high (range_at c k).high) (set c k (range (allow.high + 1) (range_at c k).high)) 1 (λ t. omega arith) in
      let z = length-append (part_below c k allow.low) (part_above c k allow.high) in
      let split : rest k c a ≡ (part_below c k allow.low ++ part_above c k allow.high) ++ rest (k + 1) next a =
      rest_field k c a (omega (arith, g.full)) (omega (arith, g.allow)) ∙ rw (← e, s.narrowed) (sym (append_assoc (part_below c k allow.low) (part_above c k allow.high) (rest (k + 1) (set c k (shared (range_at c k) (range_of allow))) a))) in
      record {
        few = omega (arith, s.parts.count, g.few);
        wide = ap length s.parts.bytes ∙ (length-store out done.stored (part_below c k allow.low ++ part_above c k allow.high) ∙ g.wide);
        own = g.own;
        allow = g.allow;
        full = ap length s.narrowed ∙ (length-set c k (shared (range_at c k) (range_of allow)) ∙ g.full);
        later = ap (drop (k + 1)) s.narrowed ∙ (drop-set-lt (k + 1) c k (shared (range_at c k) (range_of allow)) (omega arith) ∙ later_next g t);
        onward = λ l q v. g.onward l q (rw split (stored_then s.parts v));
      }

-- A field that lies in the allow's gives no part, and is narrowed by nothing.
pub cutting_past : {out₀ : List ℕ} {n : ℕ} {d a : Region} {out : List ℕ} (done : Underway) {k : ℕ} {own allow : RangeValue} → Cutting out₀ n d a out done.stored (region_of done.rest) k → k < fields
    → range_of own ≡ range_at d k → range_of allow ≡ range_at a k → allow.low ≤ own.low → own.high ≤ allow.high → Cutting out₀ n d a out done.stored (region_of done.rest) (k + 1)
cutting_past {out₀} {n} {d} {a} {out} done {k} {own} {allow} g t e f p q =
    let c : Region = region_of done.rest in
    let same : range_of own ≡ range_at c k = e ∙ sym (own_range g t) in
    let low = ap (λ (r : Range). r.low) same in
    let high = ap (λ (r : Range). r.high) same in
    let cut : FieldCut k allow done out out done = record {
      parts = stored_then (below_none c k allow.low (omega arith)) (above_none c k allow.high (omega arith));
      narrowed = shared_all c k (range_of allow) (omega arith) (omega arith);
    } in
    cutting_next g t f cut
