-- What taking an allow from all pieces leaves at the front. Assumes nothing.
use mathlib.Core.Path.{◌≡◌, refl, ap, sym, ◌∙◌}
use mathlib.Core.List.{List, [], ◌∷◌, ◌++◌, append_assoc}
use Prim.Native.Nat.{ℕ, ◌+◌, ◌-◌, ◌*◌, ◌<◌, ◌≤◌}
use native.Mathlib.Omega.{arith}
use lib.ListN.{length, take, drop, length-append, take-append-drop}
use lib.Seq.{take_at, drop_at, length-take-le}
use Rattle.lists.specs.Lists.{Each}
use Rattle.lists.proofs.Lists.{each_append, each-drop, each_imp, sets-parts}
use Rattle.policy.specs.Fields.{widths, highest, box_size}
use Rattle.policy.specs.Ranges.{Region}
use Rattle.policy.specs.Rules.{Proper}
use Rattle.policy.specs.Demands.{Piece}
use Rattle.policy.specs.Cut.{cut, cut_each}
use Rattle.policy.specs.declared.Refusal.TheVariants.{TooManyPieces}
use Rattle.policy.proofs.Cuts.{cut_inside}
use Rattle.policy.proofs.Moves.{proper_whole}
use Rattle.policy.proofs.Proper.{proper_piece}
use Rattle.wire.specs.Records.{box_bytes, boxes_bytes, boxes_in, Fits}
use Rattle.wire.proofs.Records.{boxes_bytes-length, boxes_in-length, boxes_back}
use borrow.Author.Tests.{lt-ltb, le-ltb}
use Rattle.std.specs.Prelude.{Ok, Err}
use Rattle.groups.specs.Steps.{capacity, half_size, Stored, Stands, Untouched, Taken}
use Rattle.groups.proofs.Stores.{drop-store, store_fits}
use Rattle.groups.proofs.Pieces.{proper_all, bytes_before}
use Rattle.wire.proofs.Items.{bytes-append}

-- The pieces of boxes that number 4 lets pass are such boxes.
pub cut_each-proper : (ds : List Region) (a : Region) → Each Proper ds → Proper a → Each Proper (cut_each ds a)
unfolding cut_each Each
cut_each-proper [] a h k = tt
cut_each-proper (d ∷ ds) a h k =
    each_append Proper (cut d a) (cut_each ds a)
    (each_imp (Piece d) Proper (cut d a) (λ b q. proper_piece highest d b h.0 q) (cut_inside d a (proper_whole highest d h.0) (proper_whole highest a k)))
    (cut_each-proper ds a h.1 k)

module _ {pieces : List ℕ} {n : ℕ} {a : Region} {first : ℕ} {out out' : List ℕ} {m : ℕ} (st : Stands n pieces) (ok : Proper a)
    (room : half_size ≤ length out) (wide : half_size ≤ length pieces) (few : n ≤ capacity) (u : Untouched n pieces a first)
    (s : Stored out first (cut_each (drop first (boxes_in n pieces)) a) out' m) where
  abbrev later : List Region
  later = cut_each (drop first (boxes_in n pieces)) a

  abbrev all : List Region
  all = cut_each (boxes_in n pieces) a

  later_fits : Each (Fits widths) later
  later_fits = proper_all later (cut_each-proper (drop first (boxes_in n pieces)) a (each-drop Proper first (boxes_in n pieces) st.each) ok)

  counted : m ≡ length all
  counted =
      let l : length (take first (boxes_in n pieces)) ≡ first = length-take-le first (boxes_in n pieces) (rw boxes_in-length u.upto) in
      s.count ∙ sym (ap length u.left ∙ (length-append (take first (boxes_in n pieces)) later ∙ omega arith))

  behind : drop half_size out' ≡ drop half_size out
  behind = ap (drop half_size) s.bytes ∙ drop-store out first later later_fits

  -- More than a half holds: they are not copied back.
  pub taken_over : capacity < m → Taken n a pieces out pieces out' (Err TooManyPieces)
  taken_over h = record { answer = rw (lt-ltb capacity (length all) (omega (arith, counted))) refl; boxes = tt; bytes = tt; beyond = behind }

  module _ (h : m ≤ capacity) where
    abbrev from : ℕ
    from = box_size * first

    abbrev size : ℕ
    size = box_size * m - from

    later-length : length (boxes_bytes later) ≡ size
    later-length = boxes_bytes-length later later_fits ∙ omega (arith, s.count)

    -- Their bytes are stored behind those of `first` others.
    stored : take size (drop from out') ≡ boxes_bytes later
    stored =
        let rest : List ℕ = drop (from + length (boxes_bytes later)) out in
        let e : out' ≡ take from out ++ (boxes_bytes later ++ rest) =
        s.bytes ∙ (store_fits later out first later_fits (omega (arith, s.count)) ∙ sets-parts out from (boxes_bytes later) (omega (arith, later-length, s.count))) in
        rw (e, drop_at (take from out) (boxes_bytes later ++ rest) from (length-take-le from out (omega (arith, s.count))))
        (take_at (boxes_bytes later) rest size later-length)

    -- Copied back, they stand behind those that stayed.
    module _ {copy : List ℕ} (c : copy ≡ take size (drop from out')) where
      abbrev whole : List ℕ
      whole = take from pieces ++ (copy ++ drop size (drop from pieces))

      all_fits : Each (Fits widths) all
      all_fits = proper_all all (cut_each-proper (boxes_in n pieces) a st.each ok)

      all-length : length (boxes_bytes all) ≡ box_size * m
      all-length = boxes_bytes-length all all_fits ∙ ap (λ (k : ℕ). box_size * k) (sym counted)

      lies : whole ≡ boxes_bytes all ++ drop size (drop from pieces)
      lies =
          rw (c, stored, bytes_before st (omega arith) first u.upto)
          (sym (append_assoc (boxes_bytes (take first (boxes_in n pieces))) (boxes_bytes later) (drop size (drop from pieces)))
          ∙ ap (λ (l : List ℕ). l ++ drop size (drop from pieces)) (sym (ap boxes_bytes u.left ∙ bytes-append box_bytes (take first (boxes_in n pieces)) later)))

      pub taken : Taken n a pieces out whole out' (Ok m)
      taken = record {
        answer = rw (le-ltb capacity (length all) (omega (arith, counted)), ← counted) refl;
        boxes = ap (λ (k : ℕ). boxes_in k whole) counted ∙ rw lies (boxes_back all (drop size (drop from pieces)) all_fits);
        bytes = rw lies (take_at (boxes_bytes all) (drop size (drop from pieces)) (box_size * m) all-length);
        beyond = behind;
      }

    -- Where none is stored behind those that stayed, nothing has to be copied.
    pub taken_none : m ≤ first → Taken n a pieces out pieces out' (Ok m)
    taken_none q =
        let e : size ≡ 0 = omega arith in
        let same : take from pieces ++ (take size (drop from out') ++ drop size (drop from pieces)) ≡ pieces = rw e (take-append-drop from pieces) in
        rw same at (taken refl)
