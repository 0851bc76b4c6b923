-- One row of numbers: read and written field by field, and what is written is read back. Assumes nothing.
use mathlib.Core.Path.{◌≡◌, refl, ap, ◌∙◌}
use mathlib.Core.List.{List, [], ◌∷◌, ◌++◌}
use mathlib.Core.Bool.{Bool, true, false, ◌&&◌, false≢true}
use Prim.Native.Nat.{ℕ, suc, ◌+◌, ◌*◌, ◌-◌, ◌<◌, ◌≤◌}
use native.Mathlib.Omega.{arith}
use native.Mathlib.Numerals.{add-one}
use lib.Dec.{leb}
use lib.ListN.{length, get_or, set, take, drop, drop_of_length-le}
use lib.Seq.{sets, drop-cons}
use borrow.Author.Tests.{leb-true}
use Rattle.lists.specs.Lists.{Each, every, every_both}
use Rattle.lists.proofs.Lists.{every_at}
use Rattle.lists.proofs.Tests.{and_true}
use Rattle.policy.specs.Fields.{fields, highest, widths}
use Rattle.policy.specs.Ranges.{Range, range, Region, within, inside, proper_range, proper}
use Rattle.policy.specs.Rules.{Proper}
use Rattle.policy.specs.Steps.{range_at}
use Rattle.policy.proofs.Moves.{proper_whole}
use Rattle.filter.proofs.Insides.{range_whole}
use Rattle.wire.proofs.Items.{Items, items_written_length, items_back}
use Rattle.wire.proofs.Records.{fits-length, proper_fits}
use Rattle.rows.specs.Steps.{row_size, row_numbers, rows_numbers, spans_in, row_in, rows_in}

-- Every number of the table's highest values is a u32.
abbrev is_small : ℕ → Bool
is_small h = leb h 4294967295

highest_small : (k : ℕ) → k < length highest → get_or highest k 0 ≤ 4294967295
unfolding highest every
highest_small k h = leb-true (get_or highest k 0) 4294967295 (every_at is_small highest 0 refl k h)

highest-length : length highest ≡ fields
unfolding highest
highest-length = refl

-- Reading: the field at one turn, and those from it on.
module _ (k : ℕ) (t : List ℕ) (p : ℕ) (here : k < fields) (there : p + 2 ≤ length t) where
  field_in : spans_in (drop k highest) (drop p t) ≡ range (get_or t p 0) (get_or t p 0 + get_or t (p + 1) 0) ∷ spans_in (drop (k + 1) highest) (drop (p + 2) t)
  unfolding spans_in
  field_in =
      let e : p + 2 ≡ suc (suc p) = omega arith in
      let h : k < length highest = omega (arith, highest-length) in
      let f : p < length t = omega arith in
      let g : suc p < length t = omega arith in
      rw (e, add-one k, add-one p, drop-cons highest k 0 h, drop-cons t p 0 f, drop-cons t (suc p) 0 g)

  pub field_small : proper (drop k highest) (spans_in (drop k highest) (drop p t)) ≡ true
      → (get_or t p 0 + get_or t (p + 1) 0 ≤ 4294967295) × (proper (drop (k + 1) highest) (spans_in (drop (k + 1) highest) (drop (p + 2) t)) ≡ true)
  unfolding every_both
  field_small e =
      let h : k < length highest = omega (arith, highest-length) in
      let low : ℕ = get_or t p 0 in
      let high : ℕ = get_or t p 0 + get_or t (p + 1) 0 in
      let rest : Region = spans_in (drop (k + 1) highest) (drop (p + 2) t) in
      let z : drop k highest ≡ get_or highest k 0 ∷ drop (k + 1) highest = rw (add-one k) (drop-cons highest k 0 h) in
      let v : proper (get_or highest k 0 ∷ drop (k + 1) highest) (range low high ∷ rest) ≡ true = rw (field_in, z) at e in
      let f = and_true (proper_range (get_or highest k 0) (range low high)) (proper (drop (k + 1) highest) rest) v in
      let g = and_true (leb low high) (leb high (get_or highest k 0)) f.0 in
      (omega (arith, leb-true high (get_or highest k 0) g.1, highest_small k h), f.1)

  -- the field of a packet, tried
  module _ (values : List ℕ) (long : k < length values) (whole : Bool) (inv : inside (drop k values) (spans_in (drop k highest) (drop p t)) ≡ whole) where
    abbrev tried : Bool
    tried = within (get_or values k 0) (range (get_or t p 0) (get_or t p 0 + get_or t (p + 1) 0))

    abbrev later : Bool
    later = inside (drop (k + 1) values) (spans_in (drop (k + 1) highest) (drop (p + 2) t))

    both : (tried && later) ≡ whole
    unfolding inside
    both =
        let z : drop k values ≡ get_or values k 0 ∷ drop (k + 1) values = rw (add-one k) (drop-cons values k 0 long) in
        rw (field_in, z) at inv

    pub field_has : tried ≡ true → later ≡ whole
    field_has h = rw h at both

    pub field_misses : tried ≡ false → false ≡ whole
    field_misses h = rw h at both

pub row_tried : (k : ℕ) (values t : List ℕ) (whole : Bool) → fields ≤ k → length values ≤ k → inside (drop k values) (spans_in (drop k highest) t) ≡ whole → true ≡ whole
unfolding spans_in inside
row_tried k values t whole h g inv =
    let l : length highest ≤ k = omega (arith, highest-length) in
    rw (drop_of_length-le highest l, drop_of_length-le values g) at inv

-- Writing.
module _ (b : Region) (proper_b : Proper b) (k : ℕ) where
  field_count_lem : length b ≡ fields
  field_count_lem = fits-length widths b (proper_fits b proper_b)

  pub field_whole : k < fields → (range_at b k).low ≤ (range_at b k).high
  field_whole h = range_whole b k (proper_whole highest b proper_b) (omega (arith, field_count_lem))

  module _ (out : List ℕ) (p : ℕ) (whole : List ℕ) (inv : sets out p (row_numbers (drop k b)) ≡ whole) where
    pub field_put : k < fields → {r : Range} → r ≡ range_at b k → sets (set (set out p r.low) (p + 1) (r.high - r.low)) (p + 2) (row_numbers (drop (k + 1) b)) ≡ whole
    unfolding row_numbers
    field_put g is =
        let l : k < length b = omega (arith, field_count_lem) in
        let e : p + 2 ≡ suc (suc p) = omega arith in
        rw (e, add-one p, add-one k, is) (rw (drop-cons b k (range 0 0) l) at inv)

    pub row_put : fields ≤ k → out ≡ whole
    unfolding row_numbers
    row_put g =
        let l : length b ≤ k = omega (arith, field_count_lem) in
        rw (drop_of_length-le b l) at inv

-- A row by itself: it has a low and a span for each field, and is read back.
numbers-length : (b : Region) → length (row_numbers b) ≡ 2 * length b
unfolding row_numbers
numbers-length [] = refl
numbers-length (r ∷ b) = let h = numbers-length b in omega arith

pub row_length : (b : Region) → Proper b → length (row_numbers b) ≡ row_size
row_length b h = numbers-length b ∙ ap (λ (n : ℕ). 2 * n) (fits-length widths b (proper_fits b h))

spans_back : (hs : List ℕ) (b : Region) (rest : List ℕ) → proper hs b ≡ true → spans_in hs (row_numbers b ++ rest) ≡ b
unfolding spans_in row_numbers every_both
spans_back [] [] rest h = refl
spans_back [] (r ∷ b) rest h = absurd (false≢true h)
spans_back (x ∷ hs) [] rest h = absurd (false≢true h)
spans_back (x ∷ hs) (r ∷ b) rest h =
    let f = and_true (proper_range x r) (proper hs b) h in
    let w = leb-true r.low r.high (and_true (leb r.low r.high) (leb r.high x) f.0).0 in
    let e : r.low + (r.high - r.low) ≡ r.high = omega arith in
    rw (e, spans_back hs b rest f.1)

spans_written_back : (hs t : List ℕ) → 2 * length hs ≤ length t → row_numbers (spans_in hs t) ≡ take (2 * length hs) t
unfolding spans_in row_numbers
spans_written_back [] t h = refl
spans_written_back (x ∷ hs) [] h = absurd (omega arith)
spans_written_back (x ∷ hs) (low ∷ []) h = absurd (omega arith)
spans_written_back (x ∷ hs) (low ∷ (span ∷ t)) h =
    let e : low + span - low ≡ span = omega arith in
    let n : 2 * suc (length hs) ≡ suc (suc (2 * length hs)) = omega arith in
    rw (e, n, spans_written_back hs t (omega arith))

spans_front : (hs t u : List ℕ) → 2 * length hs ≤ length t → spans_in hs (t ++ u) ≡ spans_in hs t
unfolding spans_in
spans_front [] t u h = refl
spans_front (x ∷ hs) [] u h = absurd (omega arith)
spans_front (x ∷ hs) (low ∷ []) u h = absurd (omega arith)
spans_front (x ∷ hs) (low ∷ (span ∷ t)) u h = ap (λ (b : Region). range low (low + span) ∷ b) (spans_front hs t u (omega arith))

-- Rows one after another.
row_items : Items Region
unfolding highest
row_items = record {
  size = row_size;
  write = row_numbers;
  read = row_in;
  Good = Proper;
  written-length = row_length;
  read_back = spans_back highest;
  written_back = λ s h b. spans_written_back highest s h;
  read_front = λ s t h. spans_front highest s t h;
}

pub rows-length : (bs : List Region) → Each Proper bs → length (rows_numbers bs) ≡ row_size * length bs
unfolding row_items
rows-length = items_written_length row_items

pub rows_back : (bs : List Region) (rest : List ℕ) → Each Proper bs → rows_in (length bs) (rows_numbers bs ++ rest) ≡ bs
unfolding row_items
rows_back = items_back row_items
