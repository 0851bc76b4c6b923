-- Laws on numbers in bytes: what is written is read back, and what is read is written back. Assumes nothing.
use mathlib.Core.Path.{◌≡◌, refl, ap, sym, ◌∙◌}
use mathlib.Core.List.{List, [], ◌∷◌, ◌++◌, append-nil}
use mathlib.Core.Bool.{Bool, true, false, false≢true}
use Prim.Native.Nat.{ℕ, zero, suc, ◌+◌, ◌-◌, ◌*◌, ◌/◌, ◌%◌, ◌^◌, ◌<◌, ◌≤◌}
use native.Mathlib.Omega.{arith}
use native.Mathlib.Nat.{pow-suc, div-lt_iff_lt-mul}
use lib.Dec.{leb}
use lib.ListN.{length, get_or, drop, take, length-append, length-take, length-drop}
use lib.Seq.{take-suc, take_all, length-take-le}
use borrow.Author.Tests.{leb-true, leb-false, ne_eqb}
use borrow.Rule.Slice.PartMut.{mid_of, put_mid, same_len_mid}
use Rattle.std.specs.Int.{w32, to_be_bytes, from_be_bytes}
use Rattle.lists.specs.Lists.{Each}
use Rattle.lists.proofs.Lists.{each_take, each-drop}
use Rattle.wire.specs.Numbers.{number_bytes, number_from, number_in, Byte}
use Rattle.wire.specs.Steps.{is_width}

-- Parts of bytes are bytes.
pub bytes_take : (n : ℕ) (s : List ℕ) → Each Byte s → Each Byte (take n s)
bytes_take n s h = each_take Byte n s h

pub bytes_drop : (n : ℕ) (s : List ℕ) → Each Byte s → Each Byte (drop n s)
bytes_drop n s h = each-drop Byte n s h

bytes_at : (s : List ℕ) (i : ℕ) → Each Byte s → get_or s i 0 < 256
unfolding Each
bytes_at [] i h = omega arith
bytes_at (b ∷ s) zero h = h.0
bytes_at (b ∷ s) (suc i) h = bytes_at s i h.1

-- What stands in a slice of bytes are bytes.
pub bytes_all : (s : List ℕ) → ((i : ℕ) → get_or s i 0 < 256) → Each Byte s
unfolding Each
bytes_all [] f = tt
bytes_all (b ∷ s) f = (f 0, bytes_all s (λ i. f (suc i)))

pub number_bytes-length : (w x : ℕ) → length (number_bytes w x) ≡ w
unfolding number_bytes
number_bytes-length zero x = refl
number_bytes-length (suc w) x = rw (length-append, number_bytes-length w (x / 256)) (omega arith)

number_from_last : (x : ℕ) (s : List ℕ) (b : ℕ) → number_from x (s ++ (b ∷ [])) ≡ number_from x s * 256 + b
unfolding number_from
number_from_last x [] b = refl
number_from_last x (c ∷ s) b = number_from_last (x * 256 + c) s b

-- A number below the bound of its width is read back.
pub number_back : (w x : ℕ) → x < 256 ^ w → number_in (number_bytes w x) ≡ x
unfolding number_bytes number_from
number_back zero x h = omega arith
number_back (suc w) x h =
    let g : x / 256 < 256 ^ w = (div-lt_iff_lt-mul {k = 256} {x = x} {y = 256 ^ w} (omega arith)).1 (rw (← pow-suc) h) in
    rw (number_from_last 0 (number_bytes w (x / 256)) (x % 256), number_back w (x / 256) g) (omega arith)

-- The last byte of a number.
module _ (w : ℕ) (s : List ℕ) (long : length s ≡ suc w) where
  last_byte : number_in s ≡ number_in (take w s) * 256 + get_or s w 0
  last_byte =
      ap number_in (sym (take_all (suc w) s (omega arith)) ∙ take-suc s w 0 (omega arith)) ∙ number_from_last 0 (take w s) (get_or s w 0)

-- A number of w bytes is below the bound of w.
pub number_bound : (w : ℕ) (s : List ℕ) → length s ≡ w → Each Byte s → number_in s < 256 ^ w
unfolding number_from
number_bound zero [] e h = omega arith
number_bound zero (b ∷ s) e h = absurd (omega arith)
number_bound (suc w) s e h =
    let n = last_byte w s e in
    let g = bytes_at s w h in
    let r : number_in (take w s) < 256 ^ w = number_bound w (take w s) (length-take-le w s (omega arith)) (bytes_take w s h) in
    rw pow-suc (omega arith)

-- Bytes are written back from the number that they say.
pub bytes_back : (w : ℕ) (s : List ℕ) → length s ≡ w → Each Byte s → number_bytes w (number_in s) ≡ s
unfolding number_bytes
bytes_back zero [] e h = refl
bytes_back zero (b ∷ s) e h = absurd (omega arith)
bytes_back (suc w) s e h =
    let b : ℕ = get_or s w 0 in
    let t : List ℕ = take w s in
    let n = last_byte w s e in
    let g = bytes_at s w h in
    let d : number_in s / 256 ≡ number_in t = omega arith in
    let m : number_in s % 256 ≡ b = omega arith in
    let r : number_bytes w (number_in t) ≡ t = bytes_back w t (length-take-le w s (omega arith)) (bytes_take w s h) in
    rw (d, m, r) (sym (take-suc s w 0 (omega arith)) ∙ take_all (suc w) s (omega arith))

-- A width is at most 4.
pub width_most : (w : ℕ) → is_width w ≡ true → w ≤ 4
unfolding is_width
width_most w h = go (leb w 4) refl
  where
    go : (t : Bool) → leb w 4 ≡ t → w ≤ 4
    go true e = leb-true w 4 e
    go false e =
        let g = leb-false w 4 e in
        let n4 : w ≡ 4 → ⊥ = λ k. omega arith in
        let n2 : w ≡ 2 → ⊥ = λ k. omega arith in
        let n1 : w ≡ 1 → ⊥ = λ k. omega arith in
        absurd (false≢true (rw (ne_eqb w 4 n4, ne_eqb w 2 n2, ne_eqb w 1 n1) at h))

-- Four bytes, the last w of them read and zero before them, say what the w say.
zeros_before : (w : ℕ) (s : List ℕ) → w ≤ 4 → number_in (put_mid (4 - w) (4 - (4 - w)) (0 ∷ 0 ∷ 0 ∷ 0 ∷ []) s) ≡ number_in s
unfolding number_from
zeros_before zero s h = ap number_in (append-nil s)
zeros_before (suc zero) s h = ap number_in (append-nil s)
zeros_before (suc (suc zero)) s h = ap number_in (append-nil s)
zeros_before (suc (suc (suc zero))) s h = ap number_in (append-nil s)
zeros_before (suc (suc (suc (suc zero)))) s h = ap number_in (append-nil s)
zeros_before (suc (suc (suc (suc (suc w))))) s h = absurd (omega arith)

four_number : (s : List ℕ) → length s ≡ 4 → from_be_bytes w32 s ≡ number_in s
unfolding number_from
four_number [] h = absurd (omega arith)
four_number (a ∷ []) h = absurd (omega arith)
four_number (a ∷ b ∷ []) h = absurd (omega arith)
four_number (a ∷ b ∷ c ∷ []) h = absurd (omega arith)
four_number (a ∷ b ∷ c ∷ d ∷ []) h = omega arith
four_number (a ∷ b ∷ c ∷ d ∷ (e ∷ s)) h = absurd (omega arith)

pub number_read : (w : ℕ) (s bytes : List ℕ) → w ≤ 4 → length s ≡ w → bytes ≡ s
    → from_be_bytes w32 (put_mid (4 - w) (4 - (4 - w)) (0 ∷ 0 ∷ 0 ∷ 0 ∷ []) bytes) ≡ number_in s
number_read w s bytes h l e =
    let zeros : List ℕ = 0 ∷ 0 ∷ 0 ∷ 0 ∷ [] in
    let k : length bytes ≡ length (mid_of (4 - w) (4 - (4 - w)) zeros) = rw (e, length-take, length-drop) (omega arith) in
    four_number (put_mid (4 - w) (4 - (4 - w)) zeros bytes) (same_len_mid (4 - w) (4 - (4 - w)) zeros bytes k) ∙ (ap (λ (t : List ℕ). number_in (put_mid (4 - w) (4 - (4 - w)) zeros t)) e ∙ zeros_before w s h)

-- The last w of a number's four bytes.
pub last_bytes : (w x : ℕ) (bytes : List ℕ) → w ≤ 4 → bytes ≡ to_be_bytes w32 x → take (4 - (4 - w)) (drop (4 - w) bytes) ≡ number_bytes w x
unfolding number_bytes
last_bytes zero x bytes h e = refl
last_bytes (suc zero) x bytes h e = rw e refl
last_bytes (suc (suc zero)) x bytes h e = rw e refl
last_bytes (suc (suc (suc zero))) x bytes h e = let f : x / 65536 ≡ x / 256 / 256 = omega arith in rw (e, f) refl
last_bytes (suc (suc (suc (suc zero)))) x bytes h e =
    let f : x / 65536 ≡ x / 256 / 256 = omega arith in
    let g : x / 16777216 ≡ x / 256 / 256 / 256 = omega arith in
    rw (e, f, g) refl
last_bytes (suc (suc (suc (suc (suc w))))) x bytes h e = absurd (omega arith)

-- Two numbers of two bytes each, in one number of four.
pub halves : (s : List ℕ) → 4 ≤ length s → Each Byte s → (number_in (take 4 s) / 65536 ≡ number_in (take 2 s)) × (number_in (take 4 s) % 65536 ≡ number_in (take 2 (drop 2 s)))
unfolding number_from Each
halves [] h b = absurd (omega arith)
halves (x ∷ []) h b = absurd (omega arith)
halves (x ∷ y ∷ []) h b = absurd (omega arith)
halves (x ∷ y ∷ z ∷ []) h b = absurd (omega arith)
halves (x ∷ y ∷ z ∷ v ∷ s) h b =
    let bx = b.0 in
    let by = b.1.0 in
    let bz = b.1.1.0 in
    let bv = b.1.1.1.0 in
    (omega arith, omega arith)
