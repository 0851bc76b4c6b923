-- What one turn of reading and of writing a box does, and a record from its box. Assumes nothing.
use mathlib.Core.Path.{◌≡◌, refl, ap, sym, ◌∙◌}
use mathlib.Core.List.{List, [], ◌∷◌, ◌++◌, append_assoc, append-nil}
use mathlib.Core.Bool.{true}
use Prim.Native.Nat.{ℕ, ◌+◌, ◌<◌, ◌≤◌, min}
use native.Mathlib.Omega.{arith}
use native.Mathlib.Numerals.{add-one}
use lib.ListN.{length, get_or, set, drop, take, length-take, drop_of_length-le}
use lib.Seq.{sets, take_all, drop-cons, drop-drop, take-suc-set, get_or-take}
use Rattle.lists.specs.Lists.{every}
use Rattle.lists.proofs.Lists.{sets-append, every_at}
use Rattle.policy.specs.Fields.{fields, widths, size_of, box_size, action_size}
use Rattle.policy.specs.Ranges.{range, Region}
use Rattle.policy.specs.Rules.{Rule, rule}
use Rattle.policy.specs.Values.{ranges}
use Rattle.policy.specs.Steps.{range_at}
use Rattle.policy.proofs.Values.{ranges-length, ranges_at}
use Rattle.wire.specs.Numbers.{number_bytes, number_in}
use Rattle.wire.specs.Steps.{is_width}
use Rattle.wire.specs.Records.{ranges_bytes, ranges_in, box_bytes, box_in, record_bytes, rule_in}
use Rattle.wire.proofs.Numbers.{number_bytes-length}
use Rattle.wire.proofs.Records.{ranges_bytes-length}

pub width_at : (k : ℕ) → k < fields → is_width (get_or widths k 0) ≡ true
unfolding every is_width
width_at k h = every_at is_width widths 0 refl k h

pub size_step : (ws : List ℕ) (k : ℕ) → k < length ws → size_of (drop k ws) ≡ get_or ws k 0 + get_or ws k 0 + size_of (drop (k + 1) ws)
size_step ws k h = rw (add-one, drop-cons ws k 0 h)

-- One more field of a box under way.
ranges_last : (ls hs : List ℕ) (l h : ℕ) → length ls ≡ length hs → ranges (ls ++ (l ∷ [])) (hs ++ (h ∷ [])) ≡ ranges ls hs ++ (range l h ∷ [])
unfolding ranges
ranges_last [] [] l h e = refl
ranges_last [] (y ∷ hs) l h e = absurd (omega arith)
ranges_last (x ∷ ls) [] l h e = absurd (omega arith)
ranges_last (x ∷ ls) (y ∷ hs) l h e = ap (λ (b : Region). range x y ∷ b) (ranges_last ls hs l h (omega arith))

ranges_next : (ls hs : List ℕ) (k l h : ℕ) → length ls ≡ length hs → k < length ls
    → ranges (take (k + 1) (set ls k l)) (take (k + 1) (set hs k h)) ≡ ranges (take k ls) (take k hs) ++ (range l h ∷ [])
ranges_next ls hs k l h e g =
    let g' : k < length hs = omega arith in
    rw (add-one, take-suc-set ls k l g, take-suc-set hs k h g')
    (ranges_last (take k ls) (take k hs) l h (length-take k ls ∙ ap (λ (n : ℕ). min k n) e ∙ sym (length-take k hs)))

module _ (ws : List ℕ) (k : ℕ) (fits : k < length ws) where
  write_step : (b : Region) → k < length b
      → ranges_bytes (drop k ws) (drop k b) ≡ number_bytes (get_or ws k 0) (range_at b k).low ++ (number_bytes (get_or ws k 0) (range_at b k).high ++ ranges_bytes (drop (k + 1) ws) (drop (k + 1) b))
  unfolding ranges_bytes
  write_step b g = rw (add-one, drop-cons ws k 0 fits, drop-cons b k (range 0 0) g)

  read_step : (s : List ℕ) (p : ℕ)
      → ranges_in (drop k ws) (drop p s) ≡ range (number_in (take (get_or ws k 0) (drop p s))) (number_in (take (get_or ws k 0) (drop (p + get_or ws k 0) s))) ∷ ranges_in (drop (k + 1) ws) (drop (p + (get_or ws k 0 + get_or ws k 0)) s)
  unfolding ranges_in
  read_step s p =
      let w : ℕ = get_or ws k 0 in
      rw (add-one, drop-cons ws k 0 fits, drop-drop w p s, drop-drop (w + w) p s)

  pub read_next : (s low high : List ℕ) (p l h : ℕ) (whole : Region) → length low ≡ length high → k < length low
      → l ≡ number_in (take (get_or ws k 0) (drop p s)) → h ≡ number_in (take (get_or ws k 0) (drop (p + get_or ws k 0) s))
      → ranges (take k low) (take k high) ++ ranges_in (drop k ws) (drop p s) ≡ whole
      → ranges (take (k + 1) (set low k l)) (take (k + 1) (set high k h)) ++ ranges_in (drop (k + 1) ws) (drop (p + (get_or ws k 0 + get_or ws k 0)) s) ≡ whole
  read_next s low high p l h whole e g el eh inv =
      rw (ranges_next low high k l h e g, append_assoc, el, eh) (rw (read_step s p) at inv)

pub read_last : (ws s low high : List ℕ) (p k : ℕ) (whole : Region) → length ws ≤ k → length low ≤ k → length high ≤ k
    → ranges (take k low) (take k high) ++ ranges_in (drop k ws) (drop p s) ≡ whole → ranges low high ≡ whole
unfolding ranges_in
read_last ws s low high p k whole e l h inv = rw (take_all k low l, take_all k high h, drop_of_length-le ws e, append-nil) at inv

-- Writing, where only the first n fields are written.
module _ (n k : ℕ) (out low high : List ℕ) (p : ℕ) (whole : List ℕ) (inv : sets out p (ranges_bytes (drop k (take n widths)) (drop k (ranges low high))) ≡ whole) where
  pub fields_next : k < n → k < fields → length low ≡ length high → k < length low
      → sets (sets (sets out p (number_bytes (get_or widths k 0) (get_or low k 0))) (p + get_or widths k 0) (number_bytes (get_or widths k 0) (get_or high k 0))) (p + (get_or widths k 0 + get_or widths k 0))
      (ranges_bytes (drop (k + 1) (take n widths)) (drop (k + 1) (ranges low high))) ≡ whole
  fields_next h t e g =
      let w : ℕ = get_or widths k 0 in
      let b : Region = ranges low high in
      let f : k < length (take n widths) = omega (arith, length-take n widths) in
      let g' : k < length b = omega (arith, ranges-length low high e) in
      let v : sets out p (number_bytes w (get_or low k 0) ++ (number_bytes w (get_or high k 0) ++ ranges_bytes (drop (k + 1) (take n widths)) (drop (k + 1) b))) ≡ whole =
      rw (write_step (take n widths) k f b g', get_or-take n widths k 0 h, ranges_at low high k e) at inv in
      let q : p + w + w ≡ p + (w + w) = omega arith in
      rw (sets-append, number_bytes-length, sets-append, number_bytes-length, q) at v

  pub fields_past : n ≤ k → (q : ℕ) → sets out q (ranges_bytes (drop (k + 1) (take n widths)) (drop (k + 1) (ranges low high))) ≡ whole
  unfolding ranges_bytes
  fields_past h q =
      let l : length (take n widths) ≤ k = omega (arith, length-take n widths) in
      let m : length (take n widths) ≤ k + 1 = omega arith in
      rw (drop_of_length-le (take n widths) m) (rw (drop_of_length-le (take n widths) l) at inv)

  pub fields_last : fields ≤ k → out ≡ whole
  unfolding ranges_bytes
  fields_last h =
      let l : length (take n widths) ≤ k = omega (arith, length-take n widths) in
      rw (drop_of_length-le (take n widths) l) at inv

-- A record is its box and, behind it, its action.
pub rule_read : (s : List ℕ) (at : ℕ) (b : Region) (a : ℕ) → b ≡ box_in (drop at s) → a ≡ number_in (take action_size (drop (at + box_size) s))
    → rule b a ≡ rule_in (drop at s)
unfolding rule_in
rule_read s at b a e g = rw (e, g, drop-drop box_size at s)

pub rule_put : (out boxed last : List ℕ) (at : ℕ) (r : Rule) → length r.region ≡ fields → boxed ≡ sets out at (box_bytes r.region)
    → last ≡ sets boxed (at + box_size) (number_bytes action_size r.action) → last ≡ sets out at (record_bytes r)
unfolding record_bytes
rule_put out boxed last at r e u v =
    rw (sets-append out at (box_bytes r.region) (number_bytes action_size r.action), ranges_bytes-length widths r.region (omega arith), ← u) v
