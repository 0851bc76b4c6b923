-- Laws on boxes stored one after another. Assumes nothing.
use mathlib.Core.Path.{◌≡◌, refl, ap, sym, ◌∙◌}
use mathlib.Core.List.{List, [], ◌∷◌, ◌++◌}
use mathlib.Core.Bool.{Bool, true, false, cond}
use Prim.Native.Nat.{ℕ, ◌+◌, ◌*◌, ◌<◌, ◌≤◌}
use native.Mathlib.Omega.{arith}
use lib.Dec.{ltb}
use lib.ListN.{length, drop, length-append}
use lib.Seq.{sets, length-sets}
use borrow.Author.Tests.{ltb-true, lt-ltb, le-ltb}
use Rattle.lists.specs.Lists.{Each}
use Rattle.policy.specs.Fields.{widths, box_size}
use Rattle.policy.specs.Ranges.{Region}
use Rattle.wire.specs.Records.{box_bytes, boxes_bytes, Fits, each_bytes}
use Rattle.wire.proofs.Records.{box_bytes-length}
use Rattle.lists.proofs.Lists.{sets-append, drop-sets}
use Rattle.groups.specs.Steps.{capacity, half_size, store_one, store, Stored}

store-append : (out : List ℕ) (m : ℕ) (l k : List Region) → store out m (l ++ k) ≡ store (store out m l) (m + length l) k
unfolding store
store-append out m [] k = ap (λ (n : ℕ). store out n k) (omega arith)
store-append out m (b ∷ l) k =
    store-append (store_one out m b) (m + 1) l k
    ∙ ap (λ (n : ℕ). store (store (store_one out m b) (m + 1) l) n k) (omega arith)

length-one : (t : Bool) (out bytes : List ℕ) (i : ℕ) → length (cond t (sets out i bytes) out) ≡ length out
length-one true out bytes i = length-sets out i bytes
length-one false out bytes i = refl

pub length-store : (out : List ℕ) (m : ℕ) (l : List Region) → length (store out m l) ≡ length out
unfolding store store_one
length-store out m [] = refl
length-store out m (b ∷ l) = length-store (store_one out m b) (m + 1) l ∙ length-one (ltb m capacity) out (box_bytes b) (box_size * m)

-- Nothing changes behind the half.
pub drop-store : (out : List ℕ) (m : ℕ) (l : List Region) → Each (Fits widths) l → drop half_size (store out m l) ≡ drop half_size out
unfolding store store_one Each
drop-store out m [] f = refl
drop-store out m (b ∷ l) f = drop-store (store_one out m b) (m + 1) l f.1 ∙ go (ltb m capacity) refl
  where
    go : (t : Bool) → ltb m capacity ≡ t → drop half_size (cond t (sets out (box_size * m) (box_bytes b)) out) ≡ drop half_size out
    go true e = drop-sets half_size out (box_size * m) (box_bytes b) (omega (arith, box_bytes-length b f.0, ltb-true m capacity e))
    go false e = refl

-- Where there is room for all, the boxes are one run of bytes.
pub store_fits : (l : List Region) (out : List ℕ) (m : ℕ) → Each (Fits widths) l → m + length l ≤ capacity → store out m l ≡ sets out (box_size * m) (boxes_bytes l)
unfolding store store_one each_bytes Each
store_fits [] out m f h = refl
store_fits (b ∷ l) out m f h =
    let e : box_size * m + length (box_bytes b) ≡ box_size * (m + 1) = omega (arith, box_bytes-length b f.0) in
    rw (lt-ltb m capacity (omega arith), sets-append, e) (store_fits l (sets out (box_size * m) (box_bytes b)) (m + 1) f.1 (omega arith))

-- Storing in two runs, one box, none.
pub stored_then : {a b c : List ℕ} {n m k : ℕ} {l r : List Region} → Stored a n l b m → Stored b m r c k → Stored a n (l ++ r) c k
stored_then {a} {b} {c} {n} {m} {k} {l} {r} s t = record {
  count = rw length-append (omega arith);
  bytes = t.bytes ∙ rw (s.bytes, s.count) (sym (store-append a n l r));
}

pub stored_in : (out out' : List ℕ) (m : ℕ) (b : Region) → m < capacity → out' ≡ sets out (box_size * m) (box_bytes b) → Stored out m (b ∷ []) out' (m + 1)
unfolding store store_one
stored_in out out' m b h f = record { count = omega arith; bytes = f ∙ rw (lt-ltb m capacity h) }

pub stored_past : (out : List ℕ) (m : ℕ) (b : Region) → capacity ≤ m → Stored out m (b ∷ []) out (m + 1)
unfolding store store_one
stored_past out m b h = record { count = omega arith; bytes = rw (le-ltb m capacity h) }

pub stored_none : (out : List ℕ) (m : ℕ) → Stored out m [] out m
unfolding store
stored_none out m = record { count = omega arith; bytes = refl }
