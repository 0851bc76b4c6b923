-- Runs of groups one behind another in bytes: their boxes counted, a front of them, and what stands behind it.
-- Assumes nothing.
use mathlib.Core.Path.{◌≡◌, refl, ap, sym, ◌∙◌}
use mathlib.Core.List.{List, ◌∷◌, ◌++◌}
use Prim.Native.Nat.{ℕ, zero, suc, ◌+◌, ◌*◌, ◌-◌, ◌≤◌}
use native.Mathlib.Omega.{arith}
use lib.ListN.{length, take, drop, length-append, length-drop, take-append-drop}
use lib.Seq.{drop-drop, take_all, take-take, take_at, drop_at}
use Rattle.lists.specs.Lists.{Each}
use Rattle.lists.proofs.Lists.{each_take}
use Rattle.lists.proofs.Parts.{tail_whole}
use Rattle.policy.specs.Fields.{box_size, count_size}
use Rattle.policy.specs.Ranges.{Region}
use Rattle.policy.specs.Move.{together}
use Rattle.policy.proofs.Edits.{together-append}
use Rattle.wire.proofs.Records.{boxes_in-length}
use Rattle.sheet.specs.Pairs.{group_size, group_boxes, groups_bytes, group_bytes}
use Rattle.sheet.specs.Steps.{groups_from, box_count}
use Rattle.sheet.proofs.Pairs.{ProperGroup}
use Rattle.sheet.proofs.Pairs.{groups-length}
use Rattle.kept.specs.Steps.{run_size, GroupsHeld}
use Rattle.wire.specs.Lists.{count_in}
use Rattle.wire.proofs.Items.{bytes-append}

pub boxes-cons : (n : ℕ) (s : List ℕ) → box_count (suc n) s ≡ count_in s + box_count n (drop (group_size (count_in s)) s)
unfolding groups_from together
boxes-cons n s =
    length-append (group_boxes s) (together (groups_from n (drop (group_size (count_in s)) s)))
    ∙ ap (λ (k : ℕ). k + box_count n (drop (group_size (count_in s)) s)) (boxes_in-length (count_in s) (drop count_size s))

-- the groups from a byte on: the boxes of the first, and the groups behind it
pub boxes_turn : (left next : ℕ) (s : List ℕ) (at count : ℕ) → left ≡ next + 1 → count ≡ count_in (drop at s)
    → box_count left (drop at s) ≡ count + box_count next (drop (at + (count_size + box_size * count)) s)
boxes_turn left next s at count h e =
    let l : left ≡ suc next = omega arith in
    ap (λ (n : ℕ). box_count n (drop at s)) l ∙ boxes-cons next (drop at s) ∙ rw (← e, drop-drop (group_size count) at s)

pub boxes_none : (left : ℕ) (s : List ℕ) → left ≤ 0 → box_count left s ≡ 0
unfolding groups_from together
boxes_none zero s h = refl
boxes_none (suc left) s h = absurd (omega arith)

-- the groups behind the first ones
pub boxes_behind : (i j : ℕ) (s : List ℕ) → box_count (i + j) s ≡ box_count i s + box_count j (drop (run_size i s) s)
boxes_behind zero j s =
    let z = boxes_none 0 s (omega arith) in
    let e : zero + j ≡ j = omega arith in
    let r : run_size 0 s ≡ 0 = omega arith in
    rw (e, r) (omega arith)
boxes_behind (suc i) j s =
    let t : List ℕ = drop (group_size (count_in s)) s in
    let e : suc i + j ≡ suc (i + j) = omega arith in
    let a = boxes-cons (i + j) s in
    let b = boxes-cons i s in
    let c = boxes_behind i j t in
    let r : group_size (count_in s) + run_size i t ≡ run_size (suc i) s = omega arith in
    let d : box_count j (drop (run_size i t) t) ≡ box_count j (drop (run_size (suc i) s) s) =
    ap (box_count j) (drop-drop (run_size i t) (group_size (count_in s)) s ∙ ap (λ (k : ℕ). drop k s) r) in
    rw e (omega arith)

-- the same of the part of a buffer that begins behind the first ones
module _ (earlier gone : ℕ) (s : List ℕ) (there : run_size (earlier + gone) s ≤ length s) (at : ℕ) (is : at ≡ run_size earlier s) where
  abbrev part : List ℕ
  part = take (length s - at) (drop at s)

  pub part_inside : at ≤ length s
  part_inside = omega (arith, boxes_behind earlier gone s)

  pub part_boxes : box_count gone part + box_count earlier s ≡ box_count (earlier + gone) s
  part_boxes = rw (tail_whole s at part_inside, is) (omega (arith, boxes_behind earlier gone s))

  pub part_there : run_size gone part ≤ length part
  part_there =
      let l : length part ≡ length s - at = ap length (tail_whole s at part_inside) ∙ length-drop at s in
      omega (arith, part_boxes)

-- The gap behind the first groups, whose boxes are counted: where it begins, and with the boxes of those that go, how many there are.
module _ (earlier gone : ℕ) (s : List ℕ) (there : run_size (earlier + gone) s ≤ length s) {front : ℕ} (counted : front ≡ box_count earlier s) where
  pub gap_begins : count_size * earlier + box_size * front ≡ run_size earlier s
  gap_begins = ap (λ (n : ℕ). count_size * earlier + box_size * n) counted

  pub gap_inside : count_size * earlier + box_size * front ≤ length s
  gap_inside = part_inside earlier gone s there (count_size * earlier + box_size * front) gap_begins

  pub gap_counted : {boxes : ℕ} → boxes ≡ box_count gone (part earlier gone s there (count_size * earlier + box_size * front) gap_begins) → boxes + box_count earlier s ≡ box_count (earlier + gone) s
  gap_counted e = rw e (part_boxes earlier gone s there (count_size * earlier + box_size * front) gap_begins)

-- Groups that are held: a front of them is held too.
pub groups_count_lem : (n : ℕ) (s : List ℕ) → length (groups_from n s) ≡ n
unfolding groups_from
groups_count_lem zero s = refl
groups_count_lem (suc n) s = ap suc (groups_count_lem n (drop (group_size (count_in s)) s))

pub groups_front : (i n : ℕ) (s : List ℕ) → i ≤ n → take i (groups_from n s) ≡ groups_from i s
unfolding groups_from
groups_front zero n s h = refl
groups_front (suc i) zero s h = absurd (omega arith)
groups_front (suc i) (suc n) s h = ap (λ (l : List (List Region)). group_boxes s ∷ l) (groups_front i n (drop (group_size (count_in s)) s) (omega arith))

pub run_length : (n : ℕ) (s : List ℕ) → Each ProperGroup (groups_from n s) → length (groups_bytes (groups_from n s)) ≡ run_size n s
run_length n s p = groups-length (groups_from n s) p ∙ ap (λ (k : ℕ). count_size * k + box_size * box_count n s) (groups_count_lem n s)

module _ (i n : ℕ) (s : List ℕ) (up_to : i ≤ n) (held : GroupsHeld s n) where
  abbrev all : List (List Region)
  all = groups_from n s

  front_proper : Each ProperGroup (groups_from i s)
  front_proper = rw (groups_front i n s up_to) at (each_take ProperGroup i all held.boxes)

  both : all ≡ groups_from i s ++ drop i all
  both = sym (rw (groups_front i n s up_to) at (take-append-drop i all))

  both_bytes : take (run_size n s) s ≡ groups_bytes (groups_from i s) ++ groups_bytes (drop i all)
  both_bytes = sym held.bytes ∙ ap groups_bytes both ∙ bytes-append group_bytes (groups_from i s) (drop i all)

  pub boxes_split : box_count n s ≡ box_count i s + length (together (drop i all))
  boxes_split = ap (λ (l : List (List Region)). length (together l)) both ∙ rw (together-append (groups_from i s) (drop i all)) (length-append (together (groups_from i s)) (together (drop i all)))

  pub held_front : GroupsHeld s i
  held_front =
      let e = boxes_split in
      let l = run_length i s front_proper in
      let h = held.there in
      let r : run_size i s ≤ run_size n s = omega arith in
      record {
        boxes = front_proper;
        bytes = sym (sym (take-take (run_size i s) (run_size n s) s r) ∙ ap (take (run_size i s)) both_bytes ∙ take_at (groups_bytes (groups_from i s)) (groups_bytes (drop i all)) (run_size i s) l);
        there = omega arith;
        few = omega (arith, held.few);
      }

  -- the bytes behind the front, where nothing stands behind the groups
  pub held_behind : length s ≡ run_size n s → drop (run_size i s) s ≡ groups_bytes (drop i all)
  held_behind exact =
      ap (drop (run_size i s)) (sym (take_all (run_size n s) s (omega arith)) ∙ both_bytes)
      ∙ drop_at (groups_bytes (groups_from i s)) (groups_bytes (drop i all)) (run_size i s) (run_length i s front_proper)
