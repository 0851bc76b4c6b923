-- What each arm of changing a list gives, and that the bytes are those of the changed list. Assumes nothing.
use Rattle.std.specs.Prelude.{Ok, Err}
use mathlib.Core.Path.{◌≡◌, refl, ap, sym, ◌∙◌}
use mathlib.Core.List.{List, [], ◌++◌}
use mathlib.Core.Bool.{Bool, true, false, not, ◌||◌}
use Prim.Native.Nat.{ℕ, ◌+◌, ◌*◌, ◌-◌, ◌≤◌, ◌<◌}
use native.Mathlib.Omega.{arith}
use lib.Dec.{leb, eqb}
use lib.ListN.{length, take, drop, length-append, length-take, length-drop}
use lib.Seq.{sets, sets-eq, take_at, length-take-le}
use borrow.Author.Tests.{le-leb, lt-leb, leb-true, eqb-true, not-true, not-false}
use Rattle.lists.specs.Lists.{Each}
use Rattle.lists.proofs.Lists.{append-none}
use Rattle.policy.specs.Fields.{count_size, record_size}
use Rattle.policy.specs.Rules.{Rule}
use Rattle.policy.specs.Refusals.{Outcome, accepted, refused, test, number_of}
use Rattle.policy.specs.Edit.{Kind, out, put, changed}
use Rattle.policy.specs.declared.Refusal.{Refusal}
use Rattle.policy.specs.declared.Refusal.TheVariants.{NoPlace, LengthWrong}
use Rattle.wire.specs.Numbers.{Byte}
use Rattle.wire.specs.Records.{record_bytes, records_bytes, rule_in, each_bytes}
use Rattle.wire.specs.Buffers.{length_of}
use Rattle.wire.specs.Lists.{list_bytes, list_size}
use Rattle.wire.proofs.Numbers.{number_bytes-length}
use Rattle.wire.proofs.Records.{RuleFits, record_written_back}
use Rattle.promises.specs.Edits.{kind_of, whole_record}
use Rattle.promises.specs.declared.Change.{Change}
use Rattle.promises.specs.declared.Change.TheVariants.{Insert, Delete, Replace}
use Rattle.edit_list.specs.Steps.{taken_by, put_by, spliced, new_bytes, changed_bytes, overlaid, ListChanged}
use Rattle.edit_list.proofs.Splices.{section_spliced}

-- what a change takes out and puts in
pub taken_is : (c : Change) (s : List ℕ) → out (kind_of c s) ≡ taken_by c
taken_is Insert s = refl
taken_is Delete s = refl
taken_is Replace s = refl

pub put_is : (c : Change) (s : List ℕ) → length (put (kind_of c s)) ≡ put_by c
put_is Insert s = refl
put_is Delete s = refl
put_is Replace s = refl

pub few : (c : Change) → (taken_by c ≤ 1) × (put_by c ≤ 1)
few Insert = (omega arith, omega arith)
few Delete = (omega arith, omega arith)
few Replace = (omega arith, omega arith)

record_put : (s : List ℕ) → length s ≡ record_size → Each Byte s → take record_size s ≡ record_bytes (rule_in s) ++ []
record_put s l b = sym (append-none (record_bytes (rule_in s)) ∙ record_written_back s (omega arith) b)

put_bytes_are : (c : Change) (s : List ℕ) → whole_record c s ≡ true → Each Byte s → take (record_size * put_by c) s ≡ records_bytes (put (kind_of c s))
unfolding each_bytes
put_bytes_are Insert s w b = record_put s (eqb-true (length s) record_size w) b
put_bytes_are Delete s w b = refl
put_bytes_are Replace s w b = record_put s (eqb-true (length s) record_size w) b

pub put_long : (c : Change) (s : List ℕ) → whole_record c s ≡ true → record_size * put_by c ≤ length s
put_long Insert s w = omega (arith, eqb-true (length s) record_size w)
put_long Delete s w = omega arith
put_long Replace s w = omega (arith, eqb-true (length s) record_size w)

pub changed-length : (i : ℕ) (k : Kind) (l : List Rule) → i + out k ≤ length l → length (changed i k l) ≡ length l - out k + length (put k)
changed-length i k l h = rw (length-append, length-append, length-take, length-drop, length-drop) (omega arith)

-- what the code asks of the record's length
whole_is : (c : Change) (s : List ℕ) → (eqb (put_by c) 0 || eqb (length s) record_size) ≡ whole_record c s
whole_is Insert s = refl
whole_is Delete s = refl
whole_is Replace s = refl

module _ (s : List ℕ) (count place : ℕ) (change : Change) (new out₀ : List ℕ) {taken put : ℕ}
    (by : (taken ≡ taken_by change) × (put ≡ put_by change) × (taken ≤ 1) × (put ≤ 1)) (some : 1 ≤ count) where
  pub changed_no_place : count - taken < place → ListChanged (changed_bytes s count place change new) out₀ (Err NoPlace) out₀
  unfolding changed_bytes overlaid length_of
  changed_no_place h =
      let f = lt-leb (place + taken_by change) count (omega arith) in
      record { answer = rw f; result = rw f }

  module _ (found : place ≤ count - taken) {w : Bool} (tested : w ≡ (eqb put 0 || eqb (length new) record_size)) where
    there : leb (place + taken_by change) count ≡ true
    there = le-leb (place + taken_by change) count (omega arith)

    tested_is : w ≡ whole_record change new
    tested_is = tested ∙ ap (λ (n : ℕ). eqb n 0 || eqb (length new) record_size) by.1 ∙ whole_is change new

    pub changed_short : not w ≡ true → ListChanged (changed_bytes s count place change new) out₀ (Err LengthWrong) out₀
    unfolding changed_bytes overlaid length_of
    changed_short h = let f = sym tested_is ∙ not-true w h in record { answer = rw (there, f); result = rw (there, f) }

    pub changed_done : not w ≡ false → {r : ℕ} {out₁ : List ℕ}
        → (r ≡ length (spliced s (count - taken + put) place taken (take (record_size * put) new))) × (out₁ ≡ sets out₀ 0 (spliced s (count - taken + put) place taken (take (record_size * put) new)))
        → ListChanged (changed_bytes s count place change new) out₀ (Ok r) out₁
    unfolding changed_bytes overlaid length_of
    changed_done h e =
        let f = sym tested_is ∙ not-false w h in
        record { answer = rw (there, f, e.0, by.1, by.0); result = rw (there, f, e.1, by.1, by.0) }

-- A refused change leaves the buffer alone, and whatever stands behind the two tests is refused with its number.
pub change_refused : {A : Type 0} (x : Outcome A) (s : List ℕ) (count place : ℕ) (change : Change) (new : List ℕ) {out out' : List ℕ} (f : Refusal)
    → ListChanged (changed_bytes s count place change new) out (Err f) out'
    → (test (leb (place + taken_by change) count) 9 (test (whole_record change new) 3 x) ≡ refused (number_of f)) × (out' ≡ out)
unfolding changed_bytes length_of overlaid
change_refused x s count place change new {out} {out'} f c =
    go (leb (place + taken_by change) count) (whole_record change new) (new_bytes s count place change new) c.answer c.result
  where
    go : (b w : Bool) (y : List ℕ) → refused (number_of f) ≡ length_of (λ (t : List ℕ). t) (test b 9 (test w 3 (accepted y))) → out' ≡ overlaid out (test b 9 (test w 3 (accepted y)))
        → (test b 9 (test w 3 x) ≡ refused (number_of f)) × (out' ≡ out)
    go true true y e r = let z : ◌≡◌ {A = ℕ} 0 1 = cc in absurd (omega arith)
    go true false y e r = (let z : number_of f ≡ 3 = cc in rw z, r)
    go false w y e r = (let z : number_of f ≡ 9 = cc in rw z, r)

-- What an accepted change gives: both tests passed, and the new bytes stand at the front of the buffer.
pub record ChangeDone (s : List ℕ) (count place : ℕ) (change : Change) (new out out' : List ℕ) (end : ℕ) : Type 0 where
  pub found : place + taken_by change ≤ count
  pub whole : whole_record change new ≡ true
  pub long : end ≡ length (new_bytes s count place change new)
  pub inside : end ≤ length out
  pub short : end ≤ length s + record_size
  pub result : out' ≡ sets out 0 (new_bytes s count place change new)
  pub bytes : take end out' ≡ new_bytes s count place change new

spliced-length : (s : List ℕ) (count place out : ℕ) (new : List ℕ) → count_size + record_size * place + record_size * out ≤ length s
    → length (spliced s count place out new) + record_size * out ≡ length s + length new
unfolding spliced
spliced-length s count place out new h =
    let b = number_bytes-length count_size count in
    let c : length (take (record_size * place) (drop count_size s)) ≡ record_size * place = length-take-le (record_size * place) (drop count_size s) (rw length-drop (omega arith)) in
    rw (length-append, length-append, length-append, length-drop, b, c) (omega arith)

pub change_done : (s : List ℕ) (count place : ℕ) (change : Change) (new : List ℕ) {out out' : List ℕ} {end : ℕ}
    → list_size count ≤ length s → length s + record_size ≤ length out
    → ListChanged (changed_bytes s count place change new) out (Ok end) out' → ChangeDone s count place change new out out' end
unfolding changed_bytes length_of overlaid
change_done s count place change new {out} {out'} {end} there roomy c =
    let y : List ℕ = new_bytes s count place change new in
    let t = go (leb (place + taken_by change) count) (whole_record change new) y c.answer c.result in
    let f : place + taken_by change ≤ count = leb-true _ _ t.0 in
    let p : length (take (record_size * put_by change) new) ≡ record_size * put_by change = length-take-le (record_size * put_by change) new (put_long change new t.1) in
    let l = spliced-length s (count - taken_by change + put_by change) place (taken_by change) (take (record_size * put_by change) new) (omega arith) in
    let fits : length y ≤ length out = omega (arith, (few change).1) in
    let z : 0 + length y ≡ end = omega (arith, t.2) in
    record {
      found = f;
      whole = t.1;
      long = t.2;
      inside = omega arith;
      short = omega (arith, t.2, (few change).1);
      result = t.3;
      bytes = rw (t.3, sets-eq y out 0 (omega arith), z) (take_at y (drop end out) end (sym t.2));
    }
  where
    go : (b w : Bool) (y : List ℕ) → accepted end ≡ length_of (λ (t : List ℕ). t) (test b 9 (test w 3 (accepted y))) → out' ≡ overlaid out (test b 9 (test w 3 (accepted y)))
        → (b ≡ true) × (w ≡ true) × (end ≡ length y) × (out' ≡ sets out 0 y)
    go true true y e r = (refl, refl, cc, r)
    go true false y e r = let z : ◌≡◌ {A = ℕ} 0 1 = cc in absurd (omega arith)
    go false w y e r = let z : ◌≡◌ {A = ℕ} 0 1 = cc in absurd (omega arith)

-- The bytes of a list changed are those of the changed list.
pub list_spliced : (new : List ℕ) (l : List Rule) (count place : ℕ) (change : Change) → Each RuleFits l → length l ≡ count
    → place + taken_by change ≤ count → whole_record change new ≡ true → Each Byte new
    → new_bytes (list_bytes l) count place change new ≡ list_bytes (changed place (kind_of change new) l)
list_spliced new l count place change fits counted found w b =
    let k : Kind = kind_of change new in
    let t = taken_is change new in
    let p = put_is change new in
    let h : place + out k ≤ length l = omega arith in
    let c = changed-length place k l h in
    rw (← t) (section_spliced (take (record_size * put_by change) new) l place k (count - out k + put_by change) fits h (put_bytes_are change new w b) (omega arith))
