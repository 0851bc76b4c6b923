-- Laws on boxes and records in bytes: what is written is read back, and what is read is written back; one at a time, and
-- one after another. Assumes nothing.
use mathlib.Core.Path.{◌≡◌, refl, ap, sym}
use mathlib.Core.List.{List, [], ◌∷◌, ◌++◌, map, append_assoc}
use mathlib.Core.Bool.{Bool, true, false≢true}
use Prim.Native.Nat.{ℕ, zero, suc, ◌+◌, ◌*◌, ◌-◌, ◌^◌, ◌<◌, ◌≤◌}
use native.Mathlib.Omega.{arith}
use lib.Dec.{eqb, leb}
use lib.ListN.{length, get_or, drop, take, length-append, length-drop}
use lib.Seq.{take_at, drop_at, take-add, drop-drop, length-take-le, take-append-le, drop-append-le}
use borrow.Author.Tests.{eqb-true, leb-true}
use Rattle.lists.specs.Lists.{Each, every, every_both}
use Rattle.lists.proofs.Tests.{and_true}
use Rattle.policy.specs.Fields.{Field, field_table, widths, highest, size_of, box_size, action_size, record_size}
use Rattle.policy.specs.Ranges.{Region, proper_range, proper}
use Rattle.policy.specs.Rules.{Rule, sound}
use Rattle.policy.proofs.Moves.{rule_proper}
use Rattle.wire.specs.Numbers.{number_bytes, number_in, Byte}
use Rattle.wire.specs.Records.{ranges_bytes, ranges_in, box_bytes, box_in, record_bytes, rule_in, boxes_bytes, boxes_in, records_bytes, rules_in, Fits}
use Rattle.wire.proofs.Numbers.{number_bytes-length, number_back, number_bound, bytes_back, bytes_take, bytes_drop}
use Rattle.wire.proofs.Items.{Items, items_written_length, items_read_length, items_back, items_written_back, items_front, items_from, item_at}

-- Ranges in any widths.
pub ranges_bytes-length : (ws : List ℕ) (b : Region) → length ws ≤ length b → length (ranges_bytes ws b) ≡ size_of ws
unfolding ranges_bytes
ranges_bytes-length [] b h = refl
ranges_bytes-length (w ∷ ws) [] h = absurd (omega arith)
ranges_bytes-length (w ∷ ws) (r ∷ b) h =
    let i = ranges_bytes-length ws b (omega arith) in
    rw (length-append, length-append, number_bytes-length, number_bytes-length) (omega arith)

-- The bytes of the first n fields, and of those behind them.
pub ranges_split : (n : ℕ) (ws : List ℕ) (b : Region) → ranges_bytes ws b ≡ ranges_bytes (take n ws) b ++ ranges_bytes (drop n ws) (drop n b)
unfolding ranges_bytes
ranges_split zero ws b = refl
ranges_split (suc n) [] b = refl
ranges_split (suc n) (w ∷ ws) [] = sym (none (drop n ws))
  where
    none : (vs : List ℕ) → ranges_bytes vs [] ≡ []
    none [] = refl
    none (v ∷ vs) = refl
ranges_split (suc n) (w ∷ ws) (r ∷ b) =
    rw (append_assoc, append_assoc) (ap (λ (s : List ℕ). number_bytes w r.low ++ (number_bytes w r.high ++ s)) (ranges_split n ws b))

pub size_split : (n : ℕ) (ws : List ℕ) → size_of (take n ws) + size_of (drop n ws) ≡ size_of ws
size_split zero ws = omega arith
size_split (suc n) [] = omega arith
size_split (suc n) (w ∷ ws) = let e = size_split n ws in omega arith

pub fits-length : (ws : List ℕ) (b : Region) → Fits ws b → length b ≡ length ws
unfolding Fits
fits-length [] [] h = refl
fits-length [] (r ∷ b) h = absurd h
fits-length (w ∷ ws) [] h = absurd h
fits-length (w ∷ ws) (r ∷ b) h = ap suc (fits-length ws b h.2)

ranges_back : (ws : List ℕ) (b : Region) (rest : List ℕ) → Fits ws b → ranges_in ws (ranges_bytes ws b ++ rest) ≡ b
unfolding ranges_in ranges_bytes Fits
ranges_back [] [] rest h = refl
ranges_back [] (r ∷ b) rest h = absurd h
ranges_back (w ∷ ws) [] rest h = absurd h
ranges_back (w ∷ ws) (r ∷ b) rest h =
    let l = number_bytes-length w r.low in
    let k = number_bytes-length w r.high in
    rw (
      ← drop-drop w w,
      append_assoc,
      append_assoc,
      take_at (number_bytes w r.low) _ w l,
      drop_at (number_bytes w r.low) _ w l,
      take_at (number_bytes w r.high) _ w k,
      drop_at (number_bytes w r.high) _ w k,
      number_back w r.low h.0,
      number_back w r.high h.1,
      ranges_back ws b rest h.2,
    )

ranges_bytes_back : (ws s : List ℕ) → size_of ws ≤ length s → Each Byte s → ranges_bytes ws (ranges_in ws s) ≡ take (size_of ws) s
unfolding ranges_in ranges_bytes
ranges_bytes_back [] [] h b = refl
ranges_bytes_back [] (x ∷ s) h b = refl
ranges_bytes_back (w ∷ ws) s h b =
    let i : ranges_bytes ws (ranges_in ws (drop (w + w) s)) ≡ take (size_of ws) (drop (w + w) s) =
    ranges_bytes_back ws (drop (w + w) s) (rw length-drop (omega arith)) (bytes_drop (w + w) s b) in
    let u : number_bytes w (number_in (take w s)) ≡ take w s = bytes_back w (take w s) (length-take-le w s (omega arith)) (bytes_take w s b) in
    let v : number_bytes w (number_in (take w (drop w s))) ≡ take w (drop w s) =
    bytes_back w (take w (drop w s)) (length-take-le w (drop w s) (rw length-drop (omega arith))) (bytes_take w (drop w s) (bytes_drop w s b)) in
    rw (u, v, i, take-add (w + w) (size_of ws) s, take-add w w s) (sym (append_assoc (take w s) (take w (drop w s)) (take (size_of ws) (drop (w + w) s))))

-- In every row of the table the highest value is the highest of its width; so a box that number 4 lets pass fits.
abbrev pub exact : Field → Bool
exact f = eqb (suc f.highest) (256 ^ f.width)

abbrev pub highest_of : Field → ℕ
highest_of f = f.highest

abbrev pub width_of : Field → ℕ
width_of f = f.width

rows_fit : (t : List Field) (b : Region) → every exact t ≡ true → proper (map highest_of t) b ≡ true → Fits (map width_of t) b
unfolding every every_both Fits
rows_fit [] [] e h = tt
rows_fit [] (r ∷ b) e h = absurd (false≢true h)
rows_fit (f ∷ t) [] e h = absurd (false≢true h)
rows_fit (f ∷ t) (r ∷ b) e h =
    let d = and_true (exact f) (every exact t) e in
    let g = and_true (proper_range f.highest r) (proper (map highest_of t) b) h in
    let k = and_true (leb r.low r.high) (leb r.high f.highest) g.0 in
    let l = leb-true r.low r.high k.0 in
    let m = leb-true r.high f.highest k.1 in
    let n = eqb-true (suc f.highest) (256 ^ f.width) d.0 in
    (omega arith, omega arith, rows_fit t b d.1 g.1)

pub proper_fits : (b : Region) → proper highest b ≡ true → Fits widths b
unfolding highest every
proper_fits b h = rows_fit field_table b refl h

-- A rule whose record is read back.
abbrev pub RuleFits : Rule → Type 0
RuleFits r = Fits widths r.region × (r.action < 256 ^ action_size)

pub sound_action : (r : Rule) → sound r ≡ true → r.action ≤ 1
unfolding sound
sound_action r h = leb-true r.action 1 (and_true (proper highest r.region) (leb r.action 1) h).1

pub sound_fits : (r : Rule) → sound r ≡ true → RuleFits r
sound_fits r h =
    let l = sound_action r h in
    (proper_fits r.region (rule_proper r h), omega arith)

pub sound-length : (r : Rule) → sound r ≡ true → length r.region ≡ length widths
sound-length r h = fits-length widths r.region (sound_fits r h).0

-- What is read from bytes fits them.
ranges_in-fits : (ws s : List ℕ) → size_of ws ≤ length s → Each Byte s → Fits ws (ranges_in ws s)
unfolding Fits ranges_in
ranges_in-fits [] s h b = tt
ranges_in-fits (w ∷ ws) s h b = (
  number_bound w (take w s) (length-take-le w s (omega arith)) (bytes_take w s b),
  number_bound w (take w (drop w s)) (length-take-le w (drop w s) (rw length-drop (omega arith))) (bytes_take w (drop w s) (bytes_drop w s b)),
  ranges_in-fits ws (drop (w + w) s) (rw length-drop (omega arith)) (bytes_drop (w + w) s b),
)

pub rule_in-fits : (s : List ℕ) → record_size ≤ length s → Each Byte s → RuleFits (rule_in s)
unfolding rule_in
rule_in-fits s h b = (
  ranges_in-fits widths s (omega arith) b,
  number_bound action_size (take action_size (drop box_size s)) (length-take-le action_size (drop box_size s) (rw length-drop (omega arith))) (bytes_take action_size (drop box_size s) (bytes_drop box_size s b)),
)

pub box_bytes-length : (b : Region) → Fits widths b → length (box_bytes b) ≡ box_size
box_bytes-length b h = ranges_bytes-length widths b (omega (arith, fits-length widths b h))

pub box_back : (b : Region) (rest : List ℕ) → Fits widths b → box_in (box_bytes b ++ rest) ≡ b
box_back b rest h = ranges_back widths b rest h

pub box_written_back : (s : List ℕ) → box_size ≤ length s → Each Byte s → box_bytes (box_in s) ≡ take box_size s
box_written_back s h b = ranges_bytes_back widths s h b

-- What is read hangs on the box's own bytes alone.
ranges_front : (ws s t : List ℕ) → size_of ws ≤ length s → ranges_in ws (s ++ t) ≡ ranges_in ws s
unfolding ranges_in
ranges_front [] s t h = refl
ranges_front (w ∷ ws) s t h =
    rw (
      take-append-le w s t (omega arith),
      drop-append-le w s t (omega arith),
      take-append-le w (drop w s) t (rw length-drop (omega arith)),
      drop-append-le (w + w) s t (omega arith),
      ranges_front ws (drop (w + w) s) t (rw length-drop (omega arith)),
    )

box_front : (s t : List ℕ) → box_size ≤ length s → box_in (s ++ t) ≡ box_in s
box_front s t h = ranges_front widths s t h

rule_front : (s t : List ℕ) → record_size ≤ length s → rule_in (s ++ t) ≡ rule_in s
unfolding rule_in
rule_front s t h =
    rw (
      box_front s t (omega arith),
      drop-append-le box_size s t (omega arith),
      take-append-le action_size (drop box_size s) t (rw length-drop (omega arith)),
    )

-- One record.
pub record_bytes-length : (r : Rule) → RuleFits r → length (record_bytes r) ≡ record_size
unfolding record_bytes
record_bytes-length r h = rw (length-append, box_bytes-length r.region h.0, number_bytes-length action_size r.action) refl

pub rule_back : (r : Rule) (rest : List ℕ) → RuleFits r → rule_in (record_bytes r ++ rest) ≡ r
unfolding rule_in record_bytes
rule_back r rest h =
    let a : List ℕ = number_bytes action_size r.action in
    rw (
      append_assoc (box_bytes r.region) a rest,
      box_back r.region (a ++ rest) h.0,
      drop_at (box_bytes r.region) (a ++ rest) box_size (box_bytes-length r.region h.0),
      take_at a rest action_size (number_bytes-length action_size r.action),
      number_back action_size r.action h.1,
    )

pub record_written_back : (s : List ℕ) → record_size ≤ length s → Each Byte s → record_bytes (rule_in s) ≡ take record_size s
unfolding rule_in record_bytes
record_written_back s h b =
    let a : List ℕ = take action_size (drop box_size s) in
    let l : length a ≡ action_size = length-take-le action_size (drop box_size s) (rw length-drop (omega arith)) in
    rw (
      box_written_back s (omega arith) b,
      bytes_back action_size a l (bytes_take action_size (drop box_size s) (bytes_drop box_size s b)),
      take-add box_size action_size s,
    )

-- Boxes and records one after another.
box_items : Items Region
box_items = record {
  size = box_size;
  write = box_bytes;
  read = box_in;
  Good = Fits widths;
  written-length = box_bytes-length;
  read_back = box_back;
  written_back = box_written_back;
  read_front = box_front;
}

rule_items : Items Rule
rule_items = record {
  size = record_size;
  write = record_bytes;
  read = rule_in;
  Good = RuleFits;
  written-length = record_bytes-length;
  read_back = rule_back;
  written_back = record_written_back;
  read_front = rule_front;
}

pub boxes_bytes-length : (bs : List Region) → Each (Fits widths) bs → length (boxes_bytes bs) ≡ box_size * length bs
unfolding box_items
boxes_bytes-length = items_written_length box_items

pub boxes_in-length : (n : ℕ) (s : List ℕ) → length (boxes_in n s) ≡ n
unfolding box_items
boxes_in-length = items_read_length box_items

pub boxes_back : (bs : List Region) (rest : List ℕ) → Each (Fits widths) bs → boxes_in (length bs) (boxes_bytes bs ++ rest) ≡ bs
unfolding box_items
boxes_back = items_back box_items

pub boxes_written_back : (n : ℕ) (s : List ℕ) → box_size * n ≤ length s → Each Byte s → boxes_bytes (boxes_in n s) ≡ take (box_size * n) s
unfolding box_items
boxes_written_back = items_written_back box_items

pub boxes_front : (n : ℕ) (s t : List ℕ) → box_size * n ≤ length s → boxes_in n (s ++ t) ≡ boxes_in n s
unfolding box_items
boxes_front = items_front box_items

pub box_in_place : (i n : ℕ) (s : List ℕ) (d : Region) → i < n → get_or (boxes_in n s) i d ≡ box_in (drop (box_size * i) s)
unfolding box_items
box_in_place = item_at box_items

pub records_bytes-length : (rs : List Rule) → Each RuleFits rs → length (records_bytes rs) ≡ record_size * length rs
unfolding rule_items
records_bytes-length = items_written_length rule_items

pub rules_in-length : (n : ℕ) (s : List ℕ) → length (rules_in n s) ≡ n
unfolding rule_items
rules_in-length = items_read_length rule_items

pub rules_back : (rs : List Rule) (rest : List ℕ) → Each RuleFits rs → rules_in (length rs) (records_bytes rs ++ rest) ≡ rs
unfolding rule_items
rules_back = items_back rule_items

pub records_written_back : (n : ℕ) (s : List ℕ) → record_size * n ≤ length s → Each Byte s → records_bytes (rules_in n s) ≡ take (record_size * n) s
unfolding rule_items
records_written_back = items_written_back rule_items

pub rules_front : (n : ℕ) (s t : List ℕ) → record_size * n ≤ length s → rules_in n (s ++ t) ≡ rules_in n s
unfolding rule_items
rules_front = items_front rule_items

pub rules_from : (i n : ℕ) (s : List ℕ) → drop i (rules_in n s) ≡ rules_in (n - i) (drop (record_size * i) s)
unfolding rule_items
rules_from = items_from rule_items

pub rule_in_place : (i n : ℕ) (s : List ℕ) (d : Rule) → i < n → get_or (rules_in n s) i d ≡ rule_in (drop (record_size * i) s)
unfolding rule_items
rule_in_place = item_at rule_items
