-- A part of a box, stored as a copy of the box with its first fields over it. Assumes nothing.
use mathlib.Core.Path.{◌≡◌, ap, sym, ◌∙◌}
use mathlib.Core.List.{List, ◌++◌, append_assoc}
use Prim.Native.Nat.{ℕ, ◌+◌, ◌≤◌}
use native.Mathlib.Omega.{arith}
use lib.ListN.{length, take, drop, length-take, length-drop, length-append}
use lib.Seq.{sets, length-sets, length-take-le, drop-drop, drop_at, drop-append-le}
use Rattle.lists.proofs.Lists.{sets-parts, take-sets}
use Rattle.policy.specs.Fields.{fields, widths, size_of, box_size}
use Rattle.policy.specs.Ranges.{Region}
use Rattle.wire.specs.Records.{ranges_bytes, box_bytes}
use Rattle.wire.proofs.Records.{ranges_bytes-length, ranges_split, size_split}
use Rattle.groups.specs.Steps.{LaterStand}

-- What is stored over the front of what was stored there before.
sets_over : (l u v : List ℕ) (i : ℕ) → i + length u ≤ length l → length v ≤ length u → sets (sets l i u) i v ≡ sets l i (v ++ drop (length v) u)
sets_over l u v i h g =
    let once : List ℕ = sets l i u in
    let t : List ℕ = drop (i + length u) l in
    let w : List ℕ = v ++ drop (length v) u in
    let lw : length w ≡ length u = length-append v (drop (length v) u) ∙ omega (arith, length-drop (length v) u) in
    let ll = length-sets l i u in
    let back : drop (i + length v) once ≡ drop (length v) u ++ t =
    sym (drop-drop (length v) i once)
    ∙ (ap (drop (length v)) (ap (drop i) (sets-parts l i u h) ∙ drop_at (take i l) (u ++ t) i (length-take-le i l (omega arith))) ∙ drop-append-le (length v) u t g) in
    sets-parts once i v (omega arith)
    ∙ (rw (take-sets i l i u (omega arith), back, ← append_assoc v (drop (length v) u) t)
    (sym (sets-parts l i w (omega arith) ∙ ap (λ (n : ℕ). take i l ++ (w ++ drop (i + n) l)) lw)))

front_size : (n : ℕ) (b : Region) → length b ≡ fields → length (ranges_bytes (take n widths) b) ≡ size_of (take n widths)
front_size n b full = ranges_bytes-length (take n widths) b (omega (arith, length-take n widths))

module _ (k : ℕ) (b : Region) where
  pub part_stored : length b ≡ fields → (piece out copied last : List ℕ) (to : ℕ) → length piece ≡ box_size → to + box_size ≤ length out → LaterStand k b piece
      → copied ≡ sets out to piece → last ≡ sets copied to (ranges_bytes (take k widths) b) → last ≡ sets out to (box_bytes b)
  part_stored full piece out copied last to long room later e f =
      let v : List ℕ = ranges_bytes (take k widths) b in
      let lv = front_size k b full in
      let z = size_split k widths in
      let tail : drop (length v) piece ≡ ranges_bytes (drop k widths) (drop k b) = rw lv later in
      let whole : v ++ drop (length v) piece ≡ box_bytes b = ap (λ (s : List ℕ). v ++ s) tail ∙ sym (ranges_split k widths b) in
      f ∙ (ap (λ (s : List ℕ). sets s to v) e ∙ (sets_over out piece v to (omega arith) (omega arith) ∙ ap (sets out to) whole))

  -- A piece that is d has its own later fields, and so has one with the same later fields.
  pub later_own : (piece : List ℕ) (d : Region) → length d ≡ fields → piece ≡ box_bytes d → drop k b ≡ drop k d → LaterStand k b piece
  later_own piece d ld e later =
      rw (e, ranges_split k widths d, later)
      (drop_at (ranges_bytes (take k widths) d) (ranges_bytes (drop k widths) (drop k d)) (size_of (take k widths)) (front_size k d ld))
