-- What a callee that was lent the end of a buffer left there, said of the whole buffer. Assumes nothing.
use mathlib.Core.Path.{◌≡◌, sym, ◌∙◌}
use mathlib.Core.List.{List, ◌++◌, append_assoc}
use Prim.Native.Nat.{ℕ, ◌+◌, ◌-◌, ◌≤◌}
use native.Mathlib.Omega.{arith}
use lib.ListN.{length, take, drop, length-drop, drop_of_length-le}
use lib.Seq.{sets, sets-eq, take_all, drop-drop}
use Rattle.lists.proofs.Lists.{append-none}

module _ {A : Type 0} where
  -- a copy to the front is a run of stores
  pub copied_sets : (d v : List A) → length v ≤ length d → take (length v) v ++ drop (length v) d ≡ sets d 0 v
  copied_sets d v h =
      let z : 0 + length v ≡ length v = omega arith in
      rw (sets-eq v d 0 (omega arith), z, take_all (length v) v (omega arith))

  module _ (c : List A) (m : ℕ) (h : m ≤ length c) where
    -- the part from m on is all that is behind m
    pub tail_whole : take (length c - m) (drop m c) ≡ drop m c
    tail_whole = take_all (length c - m) (drop m c) (rw length-drop (omega arith))

    -- the part put back
    pub tail_back : (y : List A) → take m c ++ (y ++ drop (length c - m) (drop m c)) ≡ take m c ++ y
    tail_back y =
        let e : length (drop m c) ≤ length c - m = rw length-drop (omega arith) in
        rw (drop_of_length-le (drop m c) e, append-none y)

  -- stores at the front of the part are stores where it begins
  pub tail_sets : (c : List A) (m : ℕ) (v : List A) → m + length v ≤ length c
      → take m c ++ (sets (take (length c - m) (drop m c)) 0 v ++ drop (length c - m) (drop m c)) ≡ sets c m v
  tail_sets c m v h =
      let z : 0 + length v ≡ length v = omega arith in
      tail_back c m (omega arith) (sets (take (length c - m) (drop m c)) 0 v)
      ∙ rw (tail_whole c m (omega arith), sets-eq v (drop m c) 0 (rw length-drop (omega arith)), sets-eq v c m h, z, drop-drop (length v) m c)
      (sym (append_assoc (take m c) v (drop (m + length v) c)))

  -- a part in the middle that a copy fills is stores where it begins
  pub put_part : (c y v : List A) (m k : ℕ) → k ≡ length v → m + length v ≤ length c → y ≡ v → take m c ++ (y ++ drop k (drop m c)) ≡ sets c m v
  put_part c y v m k e h w = rw (w, e, sets-eq v c m h, drop-drop (length v) m c) (sym (append_assoc (take m c) v (drop (m + length v) c)))
