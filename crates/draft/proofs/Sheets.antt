-- What the group writer and the writing of all groups leave. Assumes nothing.
use mathlib.Core.Path.{◌≡◌, ap, sym, ◌∙◌}
use mathlib.Core.List.{List, ◌++◌}
use Prim.Native.Nat.{ℕ, zero, suc, ◌+◌, ◌*◌, ◌-◌, ◌≤◌, ◌<◌}
use native.Mathlib.Omega.{arith}
use lib.ListN.{length, take, drop, length-drop}
use lib.Seq.{sets, take_all, take-add, drop-drop, length-sets, length-take-le}
use Rattle.lists.specs.Lists.{Each}
use Rattle.lists.proofs.Lists.{sets-append}
use Rattle.lists.proofs.Parts.{tail_sets}
use Rattle.policy.specs.Fields.{box_size, count_size}
use Rattle.wire.specs.Numbers.{number_bytes, Byte}
use Rattle.wire.proofs.Numbers.{number_bytes-length, bytes_back, bytes_take, bytes_drop}
use Rattle.sheet.specs.Pairs.{group_size}
use Rattle.draft.specs.Steps.{Laid}
use Rattle.wire.specs.Lists.{count_in}

-- the count at the front, and the boxes copied behind it
pub group_put : (out c last boxes : List ℕ) (n : ℕ) → c ≡ sets out 0 (number_bytes count_size n) → last ≡ sets c count_size boxes → last ≡ sets out 0 (number_bytes count_size n ++ boxes)
group_put out c last boxes n e f = f ∙ sym (sets-append out 0 (number_bytes count_size n) boxes ∙ rw (number_bytes-length count_size n, ← e))

-- the group that begins at a byte of the draft, as its count and its boxes
group_lies : (draft : List ℕ) (from start end : ℕ) → Each Byte draft → start ≡ from + count_size → end ≡ start + box_size * count_in (drop from draft) → end ≤ length draft
    → number_bytes count_size (count_in (drop from draft)) ++ take (end - start) (drop start draft) ≡ take (end - from) (drop from draft)
group_lies draft from start end b e f h =
    let n : ℕ = count_in (drop from draft) in
    let l : length (take count_size (drop from draft)) ≡ count_size = length-take-le count_size (drop from draft) (rw length-drop (omega arith)) in
    let c : number_bytes count_size n ≡ take count_size (drop from draft) = bytes_back count_size (take count_size (drop from draft)) l (bytes_take count_size (drop from draft) (bytes_drop from draft b)) in
    let i : end - from ≡ count_size + (end - start) = omega arith in
    rw (c, i, take-add count_size (end - start) (drop from draft), drop-drop count_size from draft, e)

module _ (first draft sheet : List ℕ) (at from : ℕ) (so_far : sheet ≡ sets first at (take from draft)) (room : at + length draft ≤ length first) where
  -- one group more
  pub groups_next : (part last : List ℕ) (start end n place : ℕ) → Each Byte draft → n ≡ count_in (drop from draft) → start ≡ from + count_size → end ≡ start + box_size * n → end ≤ length draft
      → place ≡ at + from → part ≡ sets (take (length sheet - place) (drop place sheet)) 0 (number_bytes count_size n ++ take (end - start) (drop start draft))
      → last ≡ take place sheet ++ (part ++ drop (length sheet - place) (drop place sheet))
      → last ≡ sets first at (take end draft)
  groups_next part last start end n place b m e f h p q r =
      let g : number_bytes count_size n ++ take (end - start) (drop start draft) ≡ take (end - from) (drop from draft) =
      rw m (group_lies draft from start end b e (f ∙ ap (λ (k : ℕ). start + box_size * k) m) h) in
      let l : length sheet ≡ length first = ap length so_far ∙ length-sets first at (take from draft) in
      let k : length (take (end - from) (drop from draft)) ≡ end - from = length-take-le (end - from) (drop from draft) (rw length-drop (omega arith)) in
      let i : from + (end - from) ≡ end = omega arith in
      let j : length (take from draft) ≡ from = length-take-le from draft (omega arith) in
      r ∙ ap (λ (y : List ℕ). take place sheet ++ (y ++ drop (length sheet - place) (drop place sheet))) (q ∙ ap (sets (take (length sheet - place) (drop place sheet)) 0) g)
      ∙ tail_sets sheet place (take (end - from) (drop from draft)) (omega arith)
      ∙ rw (so_far, p) (sym (ap (λ (t : List ℕ). sets first at t) (ap (λ (z : ℕ). take z draft) (sym i) ∙ take-add from (end - from) draft) ∙ sets-append first at (take from draft) (take (end - from) (drop from draft)) ∙ ap (λ (z : ℕ). sets (sets first at (take from draft)) (at + z) (take (end - from) (drop from draft))) j))

  -- all groups
  pub groups_all : length (drop from draft) ≡ 0 → sheet ≡ sets first at draft
  groups_all h = so_far ∙ ap (sets first at) (take_all from draft (omega (arith, length-drop from draft)))

-- the next of the groups that lie in the draft from a byte on: its count, where it ends, and the groups behind it
module _ {groups done : ℕ} (draft : List ℕ) {from : ℕ} (more : done < groups) (laid : Laid (groups - done) (drop from draft)) (within : from ≤ length draft) where
  front : Laid (suc (groups - (done + 1))) (drop from draft)
  front = let e : groups - done ≡ suc (groups - (done + 1)) = omega arith in rw e at laid

  pub laid_count : from + count_size ≤ length draft
  unfolding Laid
  laid_count = omega (arith, length-drop from draft, front.0)

  pub laid_next : {n : ℕ} → n ≡ count_in (drop from draft)
      → (from + count_size + box_size * n ≤ length draft) × Laid (groups - (done + 1)) (drop (from + count_size + box_size * n) draft)
  unfolding Laid
  laid_next {n} e =
      let g : from + group_size (count_in (drop from draft)) ≡ from + count_size + box_size * n = rw (← e) (omega arith) in
      (omega (arith, length-drop from draft, front.1), rw (← g, ← drop-drop (group_size (count_in (drop from draft))) from draft) front.2)

pub laid_none : (left : ℕ) (s : List ℕ) → left ≤ 0 → Laid left s → length s ≡ 0
unfolding Laid
laid_none zero s h l = l
laid_none (suc left) s h l = absurd (omega arith)
