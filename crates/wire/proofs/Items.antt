-- Items of a fixed size, one after another in bytes: laws for anything that is written and read so. Assumes nothing.
use mathlib.Core.Path.{◌≡◌, refl, ap, sym, subst, ◌∙◌}
use mathlib.Core.List.{List, [], ◌∷◌, ◌++◌, append_assoc}
use Prim.Native.Nat.{ℕ, zero, suc, ◌+◌, ◌*◌, ◌-◌, ◌<◌, ◌≤◌}
use native.Mathlib.Omega.{arith}
use lib.ListN.{length, get_or, drop, take, length-append, length-drop}
use lib.Seq.{drop_at, take-add, drop-drop, drop-append-le}
use Rattle.lists.specs.Lists.{Each}
use Rattle.wire.specs.Numbers.{Byte}
use Rattle.wire.specs.Records.{each_bytes, each_in}
use Rattle.wire.proofs.Numbers.{bytes_drop}

-- The items of two lists, one behind the other.
pub bytes-append : {A : Type 0} (write : A → List ℕ) (x y : List A) → each_bytes write (x ++ y) ≡ each_bytes write x ++ each_bytes write y
unfolding each_bytes
bytes-append write [] y = refl
bytes-append write (a ∷ x) y = rw (bytes-append write x y) (sym (append_assoc (write a) (each_bytes write x) (each_bytes write y)))

-- As many are read as are asked for.
pub items_count : {A : Type 0} (size : ℕ) (read : List ℕ → A) (n : ℕ) (s : List ℕ) → length (each_in size read n s) ≡ n
unfolding each_in
items_count size read zero s = refl
items_count size read (suc n) s = ap suc (items_count size read n (drop size s))

-- Items in a list of numbers, some of them left to read.
module _ {A : Type 0} (size : ℕ) (read : List ℕ → A) (s : List ℕ) (start left : ℕ) (some : 0 < left) where
  pub items_turn : each_in size read left (drop start s) ≡ read (drop start s) ∷ each_in size read (left - 1) (drop (start + size) s)
  unfolding each_in
  items_turn =
      let e : left ≡ suc (left - 1) = omega arith in
      ap (λ (n : ℕ). each_in size read n (drop start s)) e ∙ ap (λ (t : List ℕ). read (drop start s) ∷ each_in size read (left - 1) t) (drop-drop size start s)

  pub size_turn : size * left ≡ size + size * (left - 1)
  size_turn =
      let e : left ≡ suc (left - 1) = omega arith in
      ap (λ (n : ℕ). size * n) e ∙ omega arith

-- None is left.
pub items_none : {A : Type 0} (size : ℕ) (read : List ℕ → A) (s : List ℕ) (left : ℕ) → left ≤ 0 → each_in size read left s ≡ []
unfolding each_in
items_none size read s zero h = refl
items_none size read s (suc left) h = absurd (omega arith)

-- How one item is written and read, and what is known of it.
pub record Items (A : Type 0) : Type 1 where
  pub size : ℕ
  pub write : A → List ℕ
  pub read : List ℕ → A
  pub Good : A → Type 0
  pub written-length : (a : A) → Good a → length (write a) ≡ size
  pub read_back : (a : A) (rest : List ℕ) → Good a → read (write a ++ rest) ≡ a
  pub written_back : (s : List ℕ) → size ≤ length s → Each Byte s → write (read s) ≡ take size s
  pub read_front : (s t : List ℕ) → size ≤ length s → read (s ++ t) ≡ read s

module _ {A : Type 0} (i : Items A) where
  abbrev write_all : List A → List ℕ
  write_all l = each_bytes i.write l

  abbrev read_all : ℕ → List ℕ → List A
  read_all n s = each_in i.size i.read n s

  pub items_written_length : (l : List A) → Each i.Good l → length (write_all l) ≡ i.size * length l
  unfolding Each each_bytes
  items_written_length [] h = omega arith
  items_written_length (a ∷ l) h =
      let n = items_written_length l h.1 in
      rw (length-append, i.written-length a h.0, n) (omega arith)

  pub items_read_length : (n : ℕ) (s : List ℕ) → length (read_all n s) ≡ n
  items_read_length n s = items_count i.size i.read n s

  -- Items are read back.
  pub items_back : (l : List A) (rest : List ℕ) → Each i.Good l → read_all (length l) (write_all l ++ rest) ≡ l
  unfolding Each each_bytes each_in
  items_back [] rest h = refl
  items_back (a ∷ l) rest h =
      rw (append_assoc, i.read_back a (write_all l ++ rest) h.0, drop_at (i.write a) (write_all l ++ rest) i.size (i.written-length a h.0), items_back l rest h.1) refl

  -- Bytes are written back.
  pub items_written_back : (n : ℕ) (s : List ℕ) → i.size * n ≤ length s → Each Byte s → write_all (read_all n s) ≡ take (i.size * n) s
  unfolding each_bytes each_in
  items_written_back zero s h b =
      let e : i.size * 0 ≡ 0 = omega arith in
      rw e refl
  items_written_back (suc n) s h b =
      let e : i.size * suc n ≡ i.size + i.size * n = omega arith in
      let r = items_written_back n (drop i.size s) (rw length-drop (omega arith)) (bytes_drop i.size s b) in
      rw (r, i.written_back s (omega arith) b, e) (sym (take-add i.size (i.size * n) s))

  -- What is read hangs on the items' own bytes alone.
  pub items_front : (n : ℕ) (s t : List ℕ) → i.size * n ≤ length s → read_all n (s ++ t) ≡ read_all n s
  unfolding each_in
  items_front zero s t h = refl
  items_front (suc n) s t h =
      let e : i.size * suc n ≡ i.size + i.size * n = omega arith in
      let r = items_front n (drop i.size s) t (rw length-drop (omega arith)) in
      rw (i.read_front s t (omega arith), drop-append-le i.size s t (omega arith), r) refl

  -- A loop over items: the item at one turn, and those from it on.
  pub items_from : (k n : ℕ) (s : List ℕ) → drop k (read_all n s) ≡ read_all (n - k) (drop (i.size * k) s)
  unfolding each_in
  items_from zero n s =
      let e : n - 0 ≡ n = omega arith in
      let z : i.size * 0 ≡ 0 = omega arith in
      rw (e, z) refl
  items_from (suc k) zero s =
      let e : 0 - suc k ≡ 0 = omega arith in
      rw e refl
  items_from (suc k) (suc n) s =
      let e : suc n - suc k ≡ n - k = omega arith in
      let z : i.size * suc k ≡ i.size + i.size * k = omega arith in
      items_from k n (drop i.size s) ∙ rw (e, z, drop-drop (i.size * k) i.size s) refl

  pub item_at : (k n : ℕ) (s : List ℕ) (d : A) → k < n → get_or (read_all n s) k d ≡ i.read (drop (i.size * k) s)
  unfolding each_in
  item_at k zero s d h = absurd (omega arith)
  item_at zero (suc n) s d h =
      let z : i.size * 0 ≡ 0 = omega arith in
      rw z refl
  item_at (suc k) (suc n) s d h =
      let z : i.size * suc k ≡ i.size + i.size * k = omega arith in
      item_at k n (drop i.size s) d (omega arith) ∙ rw (z, drop-drop (i.size * k) i.size s) refl
