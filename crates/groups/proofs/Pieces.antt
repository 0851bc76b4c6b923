-- Laws on the pieces that stand at the front of the half. Assumes nothing.
use mathlib.Core.Path.{◌≡◌, ap, sym, ◌∙◌}
use mathlib.Core.List.{List, [], ◌∷◌, ◌++◌}
use Prim.Native.Nat.{ℕ, ◌+◌, ◌-◌, ◌*◌, ◌<◌, ◌≤◌}
use native.Mathlib.Omega.{arith}
use native.Mathlib.Numerals.{add-one}
use lib.ListN.{length, take, drop, length-drop, take-append-drop}
use lib.Seq.{take-add, take_at, take-take, drop_at, drop-cons, length-take-le}
use Rattle.lists.specs.Lists.{Each}
use Rattle.lists.proofs.Lists.{append-none, each_imp, each_take, each-drop}
use Rattle.policy.specs.Fields.{widths, box_size}
use Rattle.policy.specs.Ranges.{Region}
use Rattle.policy.specs.Rules.{Proper}
use Rattle.wire.specs.Records.{box_bytes, box_in, boxes_bytes, boxes_in, Fits, each_bytes}
use Rattle.wire.proofs.Records.{proper_fits, box_bytes-length, box_back, boxes_bytes-length, boxes_in-length, box_in_place}
use Rattle.groups.specs.Steps.{Stands}
use Rattle.wire.proofs.Items.{bytes-append}

pub proper_all : (l : List Region) → Each Proper l → Each (Fits widths) l
proper_all l h = each_imp Proper (Fits widths) l proper_fits h

-- The pieces from piece i on: it, and those behind it.
pub boxes_next : (n i : ℕ) (s : List ℕ) → i < n → drop i (boxes_in n s) ≡ box_in (drop (box_size * i) s) ∷ drop (i + 1) (boxes_in n s)
boxes_next n i s h = drop-cons (boxes_in n s) i [] (rw boxes_in-length h) ∙ rw (add-one, box_in_place i n s [] h)

module _ {n : ℕ} {pieces : List ℕ} (st : Stands n pieces) (room : box_size * n ≤ length pieces) where
  module _ (i : ℕ) (h : i ≤ n) where
    -- The bytes of the pieces before piece i, and of those from it on.
    parts : take (box_size * i) pieces ++ take (box_size * (n - i)) (drop (box_size * i) pieces) ≡ boxes_bytes (take i (boxes_in n pieces)) ++ boxes_bytes (drop i (boxes_in n pieces))
    parts =
        let e : box_size * n ≡ box_size * i + box_size * (n - i) = omega arith in
        sym (take-add (box_size * i) (box_size * (n - i)) pieces)
        ∙ (ap (λ (k : ℕ). take k pieces) (sym e) ∙ (st.written ∙ (ap boxes_bytes (sym (take-append-drop i (boxes_in n pieces))) ∙ bytes-append box_bytes (take i (boxes_in n pieces)) (drop i (boxes_in n pieces)))))

    taken-length : length (take (box_size * i) pieces) ≡ box_size * i
    taken-length = length-take-le (box_size * i) pieces (omega arith)

    before-length : length (boxes_bytes (take i (boxes_in n pieces))) ≡ box_size * i
    before-length =
        boxes_bytes-length (take i (boxes_in n pieces)) (proper_all (take i (boxes_in n pieces)) (each_take Proper i (boxes_in n pieces) st.each))
        ∙ ap (λ (k : ℕ). box_size * k) (length-take-le i (boxes_in n pieces) (rw boxes_in-length h))

    pub bytes_before : take (box_size * i) pieces ≡ boxes_bytes (take i (boxes_in n pieces))
    bytes_before =
        sym (take_at (take (box_size * i) pieces) (take (box_size * (n - i)) (drop (box_size * i) pieces)) (box_size * i) taken-length)
        ∙ (ap (take (box_size * i)) parts ∙ take_at (boxes_bytes (take i (boxes_in n pieces))) (boxes_bytes (drop i (boxes_in n pieces))) (box_size * i) before-length)

    bytes_from : take (box_size * (n - i)) (drop (box_size * i) pieces) ≡ boxes_bytes (drop i (boxes_in n pieces))
    bytes_from =
        sym (drop_at (take (box_size * i) pieces) (take (box_size * (n - i)) (drop (box_size * i) pieces)) (box_size * i) taken-length)
        ∙ (ap (drop (box_size * i)) parts ∙ drop_at (boxes_bytes (take i (boxes_in n pieces))) (boxes_bytes (drop i (boxes_in n pieces))) (box_size * i) before-length)

  -- Piece i.
  module _ (i : ℕ) (h : i < n) where
    pub fits_at : Fits widths (box_in (drop (box_size * i) pieces))
    unfolding Each
    fits_at = proper_fits (box_in (drop (box_size * i) pieces)) (rw (boxes_next n i pieces h) at (each-drop Proper i (boxes_in n pieces) st.each)).0

    bytes_at : take box_size (drop (box_size * i) pieces) ≡ box_bytes (box_in (drop (box_size * i) pieces))
    unfolding each_bytes
    bytes_at =
        let s : List ℕ = drop (box_size * i) pieces in
        sym (take-take box_size (box_size * (n - i)) s (omega arith))
        ∙ (ap (take box_size) (bytes_from i (omega arith) ∙ ap boxes_bytes (boxes_next n i pieces h)) ∙ take_at (box_bytes (box_in s)) (boxes_bytes (drop (i + 1) (boxes_in n pieces))) box_size (box_bytes-length (box_in s) fits_at))

    -- The part of the half that is the piece, read as the piece, and the piece's bytes.
    module _ (size : ℕ) (e : size ≡ box_size) where
      abbrev piece : List ℕ
      piece = take size (drop (box_size * i) pieces)

      pub piece_read : box_in piece ≡ box_in (drop (box_size * i) pieces)
      piece_read =
          let b : Region = box_in (drop (box_size * i) pieces) in
          ap box_in (ap (λ (k : ℕ). take k (drop (box_size * i) pieces)) e ∙ bytes_at ∙ sym (append-none (box_bytes b))) ∙ box_back b [] fits_at

      pub piece_written : (length piece ≡ box_size) × (piece ≡ box_bytes (box_in piece))
      piece_written = (
        length-take-le size (drop (box_size * i) pieces) (omega (arith, length-drop (box_size * i) pieces)) ∙ e,
        ap (λ (k : ℕ). take k (drop (box_size * i) pieces)) e ∙ (bytes_at ∙ ap box_bytes (sym piece_read)),
      )
