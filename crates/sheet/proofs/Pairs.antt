-- A pair sheet reads back as what was written, and what reads well is what would be written. Assumes nothing.
use mathlib.Core.Path.{◌≡◌, refl, ap, sym, subst, ◌∙◌}
use mathlib.Core.List.{List, [], ◌∷◌, ◌++◌, append_assoc, append-nil}
use mathlib.Core.Bool.{Bool, true, false, cond}
use Prim.Native.Nat.{ℕ, zero, suc, ◌+◌, ◌*◌, ◌<◌, ◌≤◌}
use native.Mathlib.Omega.{arith}
use lib.Dec.{leb, eqb}
use lib.ListN.{length, take, drop, length-append, take-append-drop}
use lib.Seq.{drop_at}
use borrow.Author.Tests.{le-leb, leb-true, eq-eqb, eqb-true}
use Rattle.lists.specs.Lists.{Each, every}
use Rattle.policy.specs.Fields.{Limits, highest, widths, box_size, count_size}
use Rattle.policy.specs.Ranges.{Region, proper}
use Rattle.policy.specs.Rules.{Rule, is_allow, denies}
use Rattle.policy.specs.Refusals.{accepted}
use Rattle.policy.specs.Move.{Order, Pair, together}
use Rattle.policy.proofs.Refused.{list_refusal}
use Rattle.wire.specs.Numbers.{number_bytes, Byte}
use Rattle.wire.specs.Records.{Fits, boxes_bytes, each_bytes}
use Rattle.wire.proofs.Numbers.{number_bytes-length, bytes_drop}
use Rattle.wire.proofs.Records.{proper_fits, boxes_in-length, boxes_bytes-length, boxes_back, boxes_written_back}
use Rattle.sheet.specs.Sections.{Reading, reading}
use Rattle.sheet.specs.Orders.{order_bytes, lists_in}
use Rattle.sheet.specs.Pairs.{group_size, group_boxes, behind, groups_in, group_section, pair_in, group_bytes, groups_bytes, pair_bytes}
use Rattle.wire.proofs.Counts.{count_back, count_behind, count_written_back, counted, counted_written_back}
use Rattle.sheet.proofs.Outcomes.{through, readable}
use Rattle.sheet.proofs.Orders.{readable_fits, ended_accepted, lists_readable, lists_written_back, lists_back}
use Rattle.lists.proofs.Lists.{each_every}
use Rattle.policy.proofs.Answers.{test_accepted}
use Rattle.wire.specs.Lists.{count_in}

-- A group of proper boxes.
abbrev pub ProperGroup : List Region → Type 0
ProperGroup g = every (proper highest) g ≡ true

-- One group that was accepted, and those behind it.
record GroupGood (lim : Limits) (n total : ℕ) (s : List ℕ) (r : Reading (List (List Region))) : Type 0 where
  pub within : total + count_in s ≤ lim.total
  pub there : group_size (count_in s) ≤ length s
  pub boxes : ProperGroup (group_boxes s)
  pub later : Reading (List (List Region))
  pub reads : groups_in lim n (total + count_in s) (drop (group_size (count_in s)) s) ≡ accepted later
  pub whole : behind (group_boxes s) later ≡ r

group_good :
    (lim : Limits) (n total : ℕ) (s : List ℕ) (r : Reading (List (List Region)))
    → groups_in lim (suc n) total s ≡ accepted r → GroupGood lim n total s r
unfolding groups_in
group_good lim n total s r e =
    let a = test_accepted (leb count_size (length s)) 3 _ e in
    let b = test_accepted (leb (total + count_in s) lim.total) 7 _ a.1 in
    let c = test_accepted (leb (group_size (count_in s)) (length s)) 3 _ b.1 in
    let d = test_accepted (every (proper highest) (group_boxes s)) 4 _ c.1 in
    let f = through (groups_in lim n (total + count_in s) (drop (group_size (count_in s)) s)) _ r d.1 in
    record {
      within = leb-true (total + count_in s) lim.total b.0;
      there = leb-true (group_size (count_in s)) (length s) c.0;
      boxes = d.0;
      later = f.value;
      reads = f.first;
      whole = cc f.then;
    }

groups_count_lem :
    (lim : Limits) (n total : ℕ) (s : List ℕ) (r : Reading (List (List Region)))
    → groups_in lim n total s ≡ accepted r → length r.value ≡ n
unfolding groups_in
groups_count_lem lim zero total s r e =
    let p : reading [] s ≡ r = cc in
    λ i. length (sym p i).value
groups_count_lem lim (suc n) total s r e =
    let g = group_good lim n total s r e in
    (λ i. length (sym g.whole i).value) ∙ ap suc (groups_count_lem lim n (total + count_in s) (drop (group_size (count_in s)) s) g.later g.reads)

-- Groups of proper boxes, which come to no more than the total together with what was there before them.
pub record GroupsGood (lim : Limits) (total : ℕ) (gs : List (List Region)) : Type 0 where
  pub boxes : Each ProperGroup gs
  pub within : total + length (together gs) ≤ lim.total

groups_good :
    (lim : Limits) (n total : ℕ) (s : List ℕ) (r : Reading (List (List Region))) → total ≤ lim.total
    → groups_in lim n total s ≡ accepted r → GroupsGood lim total r.value
unfolding groups_in together Each
groups_good lim zero total s r h e =
    let p : reading [] s ≡ r = cc in
    subst (λ (x : Reading (List (List Region))). GroupsGood lim total x.value) p (record { boxes = tt; within = omega arith })
groups_good lim (suc n) total s r h e =
    let g = group_good lim n total s r e in
    let k = groups_good lim n (total + count_in s) (drop (group_size (count_in s)) s) g.later g.within g.reads in
    let w = k.within in
    let l : length (group_boxes s ++ together g.later.value) ≡ count_in s + length (together g.later.value) =
    length-append (group_boxes s) (together g.later.value) ∙ ap (λ (x : ℕ). x + length (together g.later.value)) (boxes_in-length (count_in s) (drop count_size s)) in
    subst (λ (x : Reading (List (List Region))). GroupsGood lim total x.value) g.whole (record { boxes = (g.boxes, k.boxes); within = omega arith })

-- What reads well is what would be written.
group_written_back : (s : List ℕ) → Each Byte s → group_size (count_in s) ≤ length s → group_bytes (group_boxes s) ≡ take (group_size (count_in s)) s
unfolding group_bytes
group_written_back s b h =
    rw (boxes_in-length (count_in s) (drop count_size s)) (counted_written_back box_size s _ b h (λ x l. boxes_written_back (count_in s) (drop count_size s) l x))

groups_written_back :
    (lim : Limits) (n total : ℕ) (s : List ℕ) (r : Reading (List (List Region))) → Each Byte s
    → groups_in lim n total s ≡ accepted r → groups_bytes r.value ++ r.rest ≡ s
unfolding groups_in each_bytes
groups_written_back lim zero total s r b e =
    let p : reading [] s ≡ r = cc in
    λ i. groups_bytes (sym p i).value ++ (sym p i).rest
groups_written_back lim (suc n) total s r b e =
    let g = group_good lim n total s r e in
    let k : ℕ = group_size (count_in s) in
    let l = groups_written_back lim n (total + count_in s) (drop k s) g.later (bytes_drop k s b) g.reads in
    subst (λ (x : Reading (List (List Region))). groups_bytes x.value ++ x.rest ≡ s) g.whole
    (append_assoc (group_bytes (group_boxes s)) (groups_bytes g.later.value) g.later.rest
    ∙ (rw (l, group_written_back s b g.there) (take-append-drop k s)))

-- What is written reads back as itself.
groups_back :
    (lim : Limits) (gs : List (List Region)) (total : ℕ) (t : List ℕ) → lim.total < 65536 → Each ProperGroup gs
    → total + length (together gs) ≤ lim.total → groups_in lim (length gs) total (groups_bytes gs ++ t) ≡ accepted (reading gs t)
unfolding groups_in each_bytes group_bytes Each together
groups_back lim [] total t m h w = refl
groups_back lim (g ∷ gs) total t m h w =
    let n : ℕ = length g in
    let f : Each (Fits widths) g = each_every (proper highest) (Fits widths) proper_fits g h.0 in
    let l : length (g ++ together gs) ≡ n + length (together gs) = length-append g (together gs) in
    let c = counted box_size n (boxes_bytes g) (groups_bytes gs ++ t) (omega arith) (boxes_bytes-length g f) in
    rw (
      append_assoc (group_bytes g) (groups_bytes gs) t,
      c.count,
      c.long,
      c.behind,
      c.rest,
      boxes_back g (groups_bytes gs ++ t) f,
      le-leb count_size (group_size n + length (groups_bytes gs ++ t)) (omega arith),
      le-leb (total + n) lim.total (omega arith),
      le-leb (group_size n) (group_size n + length (groups_bytes gs ++ t)) (omega arith),
      h.0,
      groups_back lim gs (total + n) t m h.1 (omega arith),
    )

-- Section C that was accepted.
record SectionCGood (lim : Limits) (o : Order) (s : List ℕ) (p : Pair) : Type 0 where
  pub there : count_size ≤ length s
  pub count : count_in s ≡ denies o.gate
  pub groups : groups_in lim (denies o.gate) (length o.own) (drop count_size s) ≡ accepted (reading p.groups [])
  pub order : p.order ≡ o

section_c_good : (lim : Limits) (o : Order) (s : List ℕ) (p : Pair) → group_section lim o s ≡ accepted p → SectionCGood lim o s p
unfolding group_section
section_c_good lim o s p e =
    let c = test_accepted (leb count_size (length s)) 3 _ e in
    let d = test_accepted (eqb (count_in s) (denies o.gate)) 8 _ c.1 in
    let f = through (groups_in lim (denies o.gate) (length o.own) (drop count_size s)) _ p d.1 in
    let g = ended_accepted f.value _ p f.then in
    record {
      there = leb-true count_size (length s) c.0;
      count = eqb-true (count_in s) (denies o.gate) d.0;
      groups = f.first ∙ (λ i. accepted (reading (g.0 i).groups (g.1 i)));
      order = λ i. (sym g.0 i).order;
    }

pub denies_most : (l : List Rule) → denies l ≤ length l
unfolding denies
denies_most [] = omega arith
denies_most (r ∷ l) = go (is_allow r) (denies_most l)
  where
    go : (t : Bool) → denies l ≤ length l → cond t (denies l) (suc (denies l)) ≤ suc (length l)
    go true h = omega arith
    go false h = omega arith

-- A pair that a pair sheet can hold: readable lists, as many groups as A has deny rules, of proper boxes, and within
-- the total.
pub record PairGood (lim : Limits) (p : Pair) : Type 0 where
  pub gate : list_refusal lim.gate p.order.gate ≡ 0
  pub own : list_refusal lim.own p.order.own ≡ 0
  pub counted : length p.groups ≡ denies p.order.gate
  pub groups : GroupsGood lim (length p.order.own) p.groups

module _ (lim : Limits) (s : List ℕ) (p : Pair) (e : pair_in lim s ≡ accepted p) where
  -- The order in front of an accepted section C, and the bytes of that.
  record Front : Type 0 where
    pub third : List ℕ
    pub lists : lists_in lim s ≡ accepted (reading p.order third)
    pub groups : SectionCGood lim p.order third p

  front : Front
  unfolding pair_in
  front =
      let a = through (lists_in lim s) _ p e in
      let r = a.value in
      let g = section_c_good lim r.value r.rest p a.then in
      let o : r.value ≡ p.order = sym g.order in
      record {
        third = r.rest;
        lists = a.first ∙ (λ i. accepted (reading (o i) r.rest));
        groups = subst (λ (x : Order). SectionCGood lim x r.rest p) o g;
      }

  pub pair_good : lim.own ≤ lim.total → PairGood lim p
  pair_good h =
      let f = front in
      let l = lists_readable lim s (reading p.order f.third) f.lists in
      let w = readable lim.own p.order.own l.1 in
      record {
        gate = l.0;
        own = l.1;
        counted = groups_count_lem lim (denies p.order.gate) (length p.order.own) (drop count_size f.third) (reading p.groups []) f.groups.groups;
        groups = groups_good lim (denies p.order.gate) (length p.order.own) (drop count_size f.third) (reading p.groups []) (omega arith) f.groups.groups;
      }

  -- What reads well is what would be written.
  pub pair_written_back : Each Byte s → pair_bytes p ≡ s
  unfolding pair_bytes
  pair_written_back b =
      let f = front in
      let t = f.third in
      let gs = p.groups in
      let o = lists_written_back lim s (reading p.order t) f.lists b in
      let d : Each Byte t = rw (← drop_at (order_bytes p.order) t (length (order_bytes p.order)) refl, o) (bytes_drop (length (order_bytes p.order)) s b) in
      let n : length gs ≡ count_in t = groups_count_lem lim _ _ _ (reading gs []) f.groups.groups ∙ sym f.groups.count in
      let c : number_bytes count_size (length gs) ≡ take count_size t = ap (number_bytes count_size) n ∙ count_written_back t d f.groups.there in
      let g : groups_bytes gs ≡ drop count_size t =
      sym (append-nil (groups_bytes gs)) ∙ groups_written_back lim _ _ (drop count_size t) (reading gs []) (bytes_drop count_size t d) f.groups.groups in
      rw (c, g, take-append-drop count_size t) o

-- What is written reads back as itself.
pub pair_back : (lim : Limits) (p : Pair) → lim.gate < 65536 → lim.own < 65536 → lim.total < 65536 → PairGood lim p → pair_in lim (pair_bytes p) ≡ accepted p
unfolding pair_bytes pair_in group_section
pair_back lim p u v w g =
    let o = p.order in
    let n : ℕ = length p.groups in
    let t : List ℕ = number_bytes count_size n ++ groups_bytes p.groups in
    let f = readable lim.gate o.gate g.gate in
    let c : n ≡ denies o.gate = g.counted in
    let k = denies_most o.gate in
    let l : lists_in lim (order_bytes o ++ t) ≡ accepted (reading o t) =
    lists_back lim o t (readable_fits lim.gate o.gate u g.gate) (readable_fits lim.own o.own v g.own) ∙ rw (g.gate, g.own) refl in
    let e : groups_in lim n (length o.own) (groups_bytes p.groups) ≡ accepted (reading p.groups []) =
    rw append-nil at (groups_back lim p.groups (length o.own) [] w g.groups.boxes g.groups.within) in
    rw (
      l,
      count_back n (groups_bytes p.groups) (omega arith),
      count_behind n (groups_bytes p.groups),
      length-append (number_bytes count_size n) (groups_bytes p.groups),
      number_bytes-length count_size n,
      ← c,
      le-leb count_size (count_size + length (groups_bytes p.groups)) (omega arith),
      eq-eqb n n refl,
      e,
    )

-- How long the bytes of groups are.
pub groups-length : (gs : List (List Region)) → Each ProperGroup gs → length (groups_bytes gs) ≡ count_size * length gs + box_size * length (together gs)
unfolding each_bytes group_bytes together Each
groups-length [] h = refl
groups-length (g ∷ gs) h =
    let i = groups-length gs h.1 in
    let b = boxes_bytes-length g (each_every (proper highest) (Fits widths) proper_fits g h.0) in
    rw (length-append, length-append, length-append, number_bytes-length) (omega arith)
