-- Laws of the record calls: what each return of the code says, that two outcomes are equal, and that the calls undo each
-- other. Assumes nothing.
use Rattle.std.specs.Prelude.{Ok, Err}
use mathlib.Core.Path.{◌≡◌, refl, ap, sym, ◌∙◌}
use mathlib.Core.List.{List, [], ◌∷◌, ◌++◌, map, append_assoc}
use mathlib.Core.Bool.{Bool, true, false}
use Prim.Native.Nat.{ℕ, ◌+◌, ◌<◌, ◌≤◌}
use native.Mathlib.Omega.{arith}
use native.Mathlib.Numerals.{add-one}
use lib.Dec.{leb, eqb}
use lib.ListN.{length, take, drop, get_or, set, length-append, length-map, length-drop}
use lib.Seq.{sets, sets-eq, take_at, drop_at, take-add, take-suc, length-take-le, get_or_at, get_or-drop, length-sets, take_all}
use borrow.Author.Tests.{le-leb, lt-leb, eq-eqb, ne_eqb, leb-true, eqb-true}
use Rattle.lists.specs.Lists.{Each}
use Rattle.lists.proofs.Lists.{append-none, sets-append}
use Rattle.policy.specs.Fields.{fields, widths, record_size}
use Rattle.policy.specs.Ranges.{Region}
use Rattle.policy.specs.Rules.{Rule, rule, sound}
use Rattle.policy.specs.Refusals.{Answer, Outcome, accepted, refused, test, number_of}
use Rattle.policy.specs.Values.{ranges}
use Rattle.policy.specs.declared.Refusal.{Refusal}
use Rattle.policy.specs.declared.Refusal.TheVariants.{BufferShort, LengthWrong, RuleBad}
use Rattle.policy.proofs.Answers.{said_once}
use Rattle.wire.specs.Numbers.{Byte}
use Rattle.wire.specs.Records.{record_bytes, rule_in}
use Rattle.records.specs.Calls.{numbers_size, low_of, high_of, rule_numbers, numbers_rule, reading_of, writing_of, RecordRead, RecordWritten}
use Rattle.wire.specs.Buffers.{room_for, answered, written}
use Rattle.wire.proofs.Buffers.{filled_front, refusal_leaves}
use Rattle.wire.proofs.Records.{sound-length, fits-length, sound_fits, record_bytes-length, rule_back, record_written_back}

-- The numbers of ranges.
lows_of : (ls hs : List ℕ) → length ls ≡ length hs → map low_of (ranges ls hs) ≡ ls
unfolding ranges
lows_of [] hs e = refl
lows_of (l ∷ ls) [] e = absurd (omega arith)
lows_of (l ∷ ls) (h ∷ hs) e = ap (λ (ns : List ℕ). l ∷ ns) (lows_of ls hs (omega arith))

highs_of : (ls hs : List ℕ) → length ls ≡ length hs → map high_of (ranges ls hs) ≡ hs
unfolding ranges
highs_of [] [] e = refl
highs_of [] (h ∷ hs) e = absurd (omega arith)
highs_of (l ∷ ls) [] e = refl
highs_of (l ∷ ls) (h ∷ hs) e = ap (λ (ns : List ℕ). h ∷ ns) (highs_of ls hs (omega arith))

pub numbers_put : (out low high : List ℕ) (a : ℕ) → length low ≡ fields → length high ≡ fields
    → set (sets (sets out 0 low) fields high) (fields + fields) a ≡ sets out 0 (rule_numbers (rule (ranges low high) a))
unfolding rule_numbers
numbers_put out low high a l h =
    rw (
      lows_of low high (l ∙ sym h),
      highs_of low high (l ∙ sym h),
      sets-append out 0 low (high ++ (a ∷ [])),
      l,
      sets-append (sets out 0 low) fields high (a ∷ []),
      h,
    )

numbers-length : (r : Rule) → length r.region ≡ fields → length (rule_numbers r) ≡ numbers_size
unfolding rule_numbers
numbers-length r e = rw (length-append, length-append, length-map, length-map, e) refl

-- Reading, return by return.
module _ (s ns : List ℕ) where
  read_refused : (f : Refusal) → reading_of s ns ≡ refused (number_of f) → RecordRead s ns (Err f) ns
  unfolding answered
  read_refused f e = record { answer = ap (answered 0) (sym e); numbers = refusal_leaves rule_numbers numbers_size ns e }

  pub no_room : length ns < numbers_size → RecordRead s ns (Err BufferShort) ns
  unfolding reading_of room_for
  no_room h = read_refused BufferShort (rw (lt-leb numbers_size (length ns) h) refl)

  module _ (room : numbers_size ≤ length ns) where
    pub not_a_record : (length s ≡ record_size → ⊥) → RecordRead s ns (Err LengthWrong) ns
    unfolding reading_of room_for
    not_a_record h = read_refused LengthWrong (rw (le-leb numbers_size (length ns) room, ne_eqb (length s) record_size h) refl)

    module _ (long : length s ≡ record_size) (r : Rule) (is : r ≡ rule_in s) (t : Bool) (e : t ≡ sound r) where
      pub bad_record : t ≡ false → RecordRead s ns (Err RuleBad) ns
      unfolding reading_of room_for
      bad_record h = read_refused RuleBad (rw (le-leb numbers_size (length ns) room, eq-eqb (length s) record_size long, ← is, ← e, h) refl)

      pub record_read : t ≡ true → (ns' : List ℕ) → ns' ≡ sets ns 0 (rule_numbers r) → RecordRead s ns (Ok 0) ns'
      unfolding reading_of answered written room_for
      record_read h ns' u =
          let g : sound r ≡ true = sym e ∙ h in
          let k : reading_of s ns ≡ accepted r = rw (le-leb numbers_size (length ns) room, eq-eqb (length s) record_size long, ← is, g) refl in
          record {
            answer = ap (answered 0) (sym k);
            numbers = u ∙ (filled_front numbers_size ns (rule_numbers r) (numbers-length r (sound-length r g)) room ∙ ap (written rule_numbers numbers_size ns) (sym k));
          }

-- Writing, return by return.
module _ (ns out : List ℕ) where
  write_refused : (f : Refusal) → writing_of ns out ≡ refused (number_of f) → RecordWritten ns out (Err f) out
  unfolding answered
  write_refused f e = record { answer = ap (answered record_size) (sym e); bytes = refusal_leaves record_bytes record_size out e }

  pub few_numbers : length ns < numbers_size → RecordWritten ns out (Err BufferShort) out
  unfolding writing_of room_for
  few_numbers h = write_refused BufferShort (rw (lt-leb numbers_size (length ns) h) refl)

  module _ (all : numbers_size ≤ length ns) where
    pub few_bytes : length out < record_size → RecordWritten ns out (Err BufferShort) out
    unfolding writing_of room_for
    few_bytes h = write_refused BufferShort (rw (le-leb numbers_size (length ns) all, lt-leb record_size (length out) h) refl)

    module _ (room : record_size ≤ length out) (r : Rule) (is : r ≡ numbers_rule ns) (t : Bool) (e : t ≡ sound r) where
      pub bad_numbers : t ≡ false → RecordWritten ns out (Err RuleBad) out
      unfolding writing_of room_for
      bad_numbers h = write_refused RuleBad (rw (le-leb numbers_size (length ns) all, le-leb record_size (length out) room, ← is, ← e, h) refl)

      pub record_written : t ≡ true → (out' : List ℕ) → out' ≡ sets out 0 (record_bytes r) → RecordWritten ns out (Ok record_size) out'
      unfolding writing_of answered written room_for
      record_written h out' u =
          let g : sound r ≡ true = sym e ∙ h in
          let k : writing_of ns out ≡ accepted r = rw (le-leb numbers_size (length ns) all, le-leb record_size (length out) room, ← is, g) refl in
          record {
            answer = ap (answered record_size) (sym k);
            bytes = u ∙ (filled_front record_size out (record_bytes r) (record_bytes-length r (sound_fits r g)) room ∙ ap (written record_bytes record_size out) (sym k));
          }

-- Two outcomes of one call are equal.
pub rule_once : {s ns : List ℕ} {r q : Answer} {m n : List ℕ} → RecordRead s ns r m → RecordRead s ns q n → (r ≡ q) × (m ≡ n)
rule_once {s} {ns} {r} {q} x y = (said_once r q (x.answer ∙ sym y.answer), x.numbers ∙ sym y.numbers)

pub record_once : {ns out : List ℕ} {r q : Answer} {m n : List ℕ} → RecordWritten ns out r m → RecordWritten ns out q n → (r ≡ q) × (m ≡ n)
record_once {ns} {out} {r} {q} x y = (said_once r q (x.answer ∙ sym y.answer), x.bytes ∙ sym y.bytes)

-- Lows, highs and action one behind the other, taken apart and put together, for any number n of fields.
module _ (n : ℕ) where
  apart : (l h : List ℕ) (a : ℕ) (rest : List ℕ) → length l ≡ n → length h ≡ n
      → let w = (l ++ (h ++ (a ∷ []))) ++ rest in (take n w ≡ l) × (take n (drop n w) ≡ h) × (get_or w (n + n) 0 ≡ a)
  apart l h a rest e g =
      let u : (l ++ (h ++ (a ∷ []))) ++ rest ≡ l ++ (h ++ (a ∷ rest)) = append_assoc l (h ++ (a ∷ [])) rest ∙ ap (λ (k : List ℕ). l ++ k) (append_assoc h (a ∷ []) rest) in
      let v : drop n (l ++ (h ++ (a ∷ rest))) ≡ h ++ (a ∷ rest) = drop_at l (h ++ (a ∷ rest)) n e in
      rw u (
        take_at l (h ++ (a ∷ rest)) n e,
        rw v (take_at h (a ∷ rest) n g),
        sym (get_or-drop n (l ++ (h ++ (a ∷ rest))) n 0) ∙ rw v (get_or_at h a rest 0 n g),
      )

  together : (ns : List ℕ) → n + n + 1 ≤ length ns → take n ns ++ (take n (drop n ns) ++ (get_or ns (n + n) 0 ∷ [])) ≡ take (n + n + 1) ns
  together ns h = sym (rw (add-one, take-suc ns (n + n) 0 (omega arith), take-add n n ns) (append_assoc (take n ns) (take n (drop n ns)) (get_or ns (n + n) 0 ∷ [])))

-- A rule is read back from its numbers, and numbers from the rule that they give.
ranges_of : (b : Region) → ranges (map low_of b) (map high_of b) ≡ b
unfolding ranges
ranges_of [] = refl
ranges_of (r ∷ b) = ap (λ (c : Region). r ∷ c) (ranges_of b)

rule_from_numbers : (r : Rule) (rest : List ℕ) → length r.region ≡ fields → numbers_rule (rule_numbers r ++ rest) ≡ r
unfolding numbers_rule rule_numbers
rule_from_numbers r rest e =
    let g = apart fields (map low_of r.region) (map high_of r.region) r.action rest (length-map r.region low_of ∙ e) (length-map r.region high_of ∙ e) in
    (λ i. rule (ranges (g.0 i) (g.1 i)) (g.2 i)) ∙ ap (λ (b : Region). rule b r.action) (ranges_of r.region)

numbers_from_rule : (ns : List ℕ) → numbers_size ≤ length ns → rule_numbers (numbers_rule ns) ≡ take numbers_size ns
unfolding numbers_rule rule_numbers
numbers_from_rule ns h =
    let l : List ℕ = take fields ns in
    let k : List ℕ = take fields (drop fields ns) in
    let e : length l ≡ length k = length-take-le fields ns (omega arith) ∙ sym (length-take-le fields (drop fields ns) (rw length-drop (omega arith))) in
    (λ i. lows_of l k e i ++ (highs_of l k e i ++ (get_or ns (fields + fields) 0 ∷ []))) ∙ together fields ns h

-- What stood at the front of what was lent.
front_of_lem : (size : ℕ) (out content : List ℕ) → length content ≡ size → size ≤ length out → take size (sets out 0 content) ≡ content
front_of_lem size out content e h =
    ap (take size) (sets-eq content out 0 (omega arith)) ∙ take_at content (drop (0 + length content) out) size e

-- A test that an accepted call has passed.
through : (t : Bool) (k : ℕ) (x : Outcome Rule) (m : ℕ) {n : ℕ} → accepted n ≡ answered m (test t k x) → (t ≡ true) × (accepted n ≡ answered m x)
unfolding answered
through true k x m e = (refl, e)
through false k x m e = let z : ◌≡◌ {A = ℕ} 0 1 = cc in absurd (omega arith)

module _ (s ns : List ℕ) {n : ℕ} {ns' : List ℕ} (x : RecordRead s ns (Ok n) ns') where
  read_passed : (numbers_size ≤ length ns) × (length s ≡ record_size) × (sound (rule_in s) ≡ true) × (ns' ≡ sets ns 0 (rule_numbers (rule_in s)))
  unfolding reading_of room_for
  read_passed =
      let v : Rule = rule_in s in
      let a = through (leb numbers_size (length ns)) 1 (test (eqb (length s) record_size) 3 (test (sound v) 4 (accepted v))) 0 x.answer in
      let b = through (eqb (length s) record_size) 3 (test (sound v) 4 (accepted v)) 0 a.1 in
      let c = through (sound v) 4 (accepted v) 0 b.1 in
      let room = leb-true numbers_size (length ns) a.0 in
      let long = eqb-true (length s) record_size b.0 in
      (room, long, c.0, (rule_once x (record_read s ns room long v refl true (sym c.0) refl (sets ns 0 (rule_numbers v)) refl)).1)

module _ (ns out : List ℕ) {n : ℕ} {out' : List ℕ} (x : RecordWritten ns out (Ok n) out') where
  written_passed : (numbers_size ≤ length ns) × (record_size ≤ length out) × (sound (numbers_rule ns) ≡ true) × (out' ≡ sets out 0 (record_bytes (numbers_rule ns)))
  unfolding writing_of room_for
  written_passed =
      let v : Rule = numbers_rule ns in
      let a = through (leb numbers_size (length ns)) 1 (test (leb record_size (length out)) 1 (test (sound v) 4 (accepted v))) record_size x.answer in
      let b = through (leb record_size (length out)) 1 (test (sound v) 4 (accepted v)) record_size a.1 in
      let c = through (sound v) 4 (accepted v) record_size b.1 in
      let all = leb-true numbers_size (length ns) a.0 in
      let room = leb-true record_size (length out) b.0 in
      (all, room, c.0, (record_once x (record_written ns out all room v refl true (sym c.0) refl (sets out 0 (record_bytes v)) refl)).1)

-- A sound rule that was written and is read gives the same numbers.
pub record_then_rule : (ns out ms : List ℕ) {n : ℕ} {r : Answer} {out' ms' : List ℕ} → RecordWritten ns out (Ok n) out' → numbers_size ≤ length ms
    → RecordRead (take record_size out') ms r ms' → (r ≡ Ok 0) × (take numbers_size ms' ≡ take numbers_size ns)
record_then_rule ns out ms {out' = out'} x room y =
    let v : Rule = numbers_rule ns in
    let p = written_passed ns out x in
    let f = sound_fits v p.2 in
    let e : take record_size out' ≡ record_bytes v = ap (take record_size) p.3 ∙ front_of_lem record_size out (record_bytes v) (record_bytes-length v f) p.1 in
    let is : v ≡ rule_in (record_bytes v) = sym (ap rule_in (sym (append-none (record_bytes v))) ∙ rule_back v [] f) in
    let o = rule_once y (record_read (take record_size out') ms room (ap length e ∙ record_bytes-length v f) v (is ∙ ap rule_in (sym e)) true (sym p.2) refl (sets ms 0 (rule_numbers v)) refl) in
    (o.0, ap (take numbers_size) o.1 ∙ (front_of_lem numbers_size ms (rule_numbers v) (numbers-length v (sound-length v p.2)) room ∙ numbers_from_rule ns p.0))

-- The bytes of a good record that was read and is written are the same bytes.
pub rule_then_record : (s ns out : List ℕ) {n : ℕ} {r : Answer} {ns' out' : List ℕ} → Each Byte s → RecordRead s ns (Ok n) ns' → record_size ≤ length out
    → RecordWritten ns' out r out' → (r ≡ Ok record_size) × (take record_size out' ≡ s)
rule_then_record s ns out {ns' = ns'} b x room y =
    let v : Rule = rule_in s in
    let p = read_passed s ns x in
    let f = sound_fits v p.2 in
    let l = numbers-length v (sound-length v p.2) in
    let m : 0 + length (rule_numbers v) ≡ numbers_size = omega arith in
    let g : ns' ≡ rule_numbers v ++ drop numbers_size ns = p.3 ∙ (sets-eq (rule_numbers v) ns 0 (omega arith) ∙ ap (λ (k : ℕ). rule_numbers v ++ drop k ns) m) in
    let is : v ≡ numbers_rule ns' = sym (ap numbers_rule g ∙ rule_from_numbers v (drop numbers_size ns) (sound-length v p.2)) in
    let k : length ns' ≡ length ns = ap length p.3 ∙ length-sets ns 0 (rule_numbers v) in
    let o = record_once y (record_written ns' out (omega arith) room v is true (sym p.2) refl (sets out 0 (record_bytes v)) refl) in (
      o.0,
      ap (take record_size) o.1
          ∙ (front_of_lem record_size out (record_bytes v) (record_bytes-length v f) room
          ∙ (record_written_back s (omega arith) b ∙ take_all record_size s (omega arith))),
    )
