-- The bytes of a sheet that passes check: where the rules and the boxes of each list lie. Assumes nothing.
use mathlib.Core.Path.{◌≡◌, refl, ap, sym, ◌∙◌}
use mathlib.Core.List.{List, []}
use Prim.Native.Nat.{ℕ, zero, suc, ◌+◌, ◌*◌, ◌-◌, ◌^◌, ◌<◌, ◌≤◌}
use native.Mathlib.Omega.{arith}
use lib.ListN.{length, get_or, take, drop, length-append, length-drop}
use lib.Seq.{drop-drop, take_all}
use Rattle.lists.proofs.Parts.{tail_whole}
use Rattle.policy.specs.Fields.{count_size, record_size, box_size}
use Rattle.policy.specs.Ranges.{Region}
use Rattle.policy.specs.Rules.{rule, denies}
use Rattle.policy.specs.Move.{Pair, together, denials, cell_list}
use Rattle.policy.specs.Demands.{group_at}
use Rattle.policy.specs.Steps.{regions}
use Rattle.policy.proofs.Kept.{deny_counts}
use Rattle.policy.proofs.Places.{denials-length}
use Rattle.wire.specs.Records.{box_in, rule_in, each_in}
use Rattle.wire.specs.Lists.{count_in}
use Rattle.wire.proofs.Records.{rules_in-length, rule_in_place}
use Rattle.sheet.specs.Pairs.{group_size, group_boxes}
use Rattle.sheet.specs.Steps.{rules_of, groups_from, box_count, pair_at}
use Rattle.sheet.specs.declared.PairLayout.{PairLayout}
use Rattle.kept.specs.Steps.{run_size}
use Rattle.kept.proofs.Runs.{boxes-cons, boxes_turn, boxes_none, boxes_behind, groups_front}
use Rattle.draft.proofs.Drafts.{rules_front}
use Rattle.origins.specs.Steps.{Checked, place_in, Denies, front_of, Holds}
use Rattle.origins.proofs.Searches.{record_regions}
use Rattle.origins.proofs.Deciding.{gate_proper, own_proper, group_proper}

-- one of the groups in bytes, and where the next one begins
run_next : (k : ℕ) (s : List ℕ) (count : ℕ) → count ≡ count_in (drop (run_size k s) s) → run_size (k + 1) s ≡ run_size k s + group_size count
run_next k s count e =
    let b = boxes_behind k 1 s in
    let a = boxes_turn 1 0 s (run_size k s) count (omega arith) e in
    let z = boxes_none 0 (drop (run_size k s + (count_size + box_size * count)) s) (omega arith) in
    omega arith

run_first : (k : ℕ) (s : List ℕ) → run_size (suc k) s ≡ group_size (count_in s) + run_size k (drop (group_size (count_in s)) s)
run_first k s = let e = boxes-cons k s in omega arith

pub group_at_lem : (k n : ℕ) (s : List ℕ) → k < n → get_or (groups_from n s) k [] ≡ group_boxes (drop (run_size k s) s)
unfolding groups_from together
group_at_lem k zero s h = absurd (omega arith)
group_at_lem zero (suc n) s h = refl
group_at_lem (suc k) (suc n) s h =
    group_at_lem k n (drop (group_size (count_in s)) s) (omega arith)
    ∙ ap group_boxes (drop-drop (run_size k (drop (group_size (count_in s)) s)) (group_size (count_in s)) s ∙ ap (λ (m : ℕ). drop m s) (sym (run_first k s)))

-- The record at a place of A, and of B, lies in the sheet, and is the list's.
module _ {s : List ℕ} {l : PairLayout} (c : Checked s l) where
  abbrev q : Pair
  q = pair_at l s

  pub gate_length : length q.order.gate ≡ l.order.gate
  gate_length = rules_in-length l.order.gate (drop count_size s)

  pub own_length : length q.order.own ≡ l.order.own
  own_length = rules_in-length l.order.own (drop count_size (drop l.order.middle s))

  -- the places of the new cell list are those of the boxes and of the own rules
  pub places_are : l.boxes + l.order.own ≡ length (cell_list q)
  places_are = omega (arith, length-append (denials (together q.groups)) q.order.own, denials-length (together q.groups), own_length, c.laid.boxes_are)

  module _ {i : ℕ} where
    pub gate_record : i < l.order.gate → count_size + record_size * i + record_size ≤ length s
    gate_record h = omega (arith, c.laid.lists.gate_end, c.laid.lists.own_end, c.laid.lists.inside)

    pub gate_place : i < l.order.gate → rule_in (drop (count_size + record_size * i) s) ≡ place_in q.order.gate i
    gate_place h = sym (rule_in_place i l.order.gate (drop count_size s) (rule [] 0) h ∙ ap rule_in (drop-drop (record_size * i) count_size s))

    pub own_place : i < l.order.own → rule_in (drop (l.order.middle + count_size + record_size * i) s) ≡ place_in q.order.own i
    own_place h =
        sym (rule_in_place i l.order.own (drop count_size (drop l.order.middle s)) (rule [] 0) h
        ∙ ap (λ (t : List ℕ). rule_in (drop (record_size * i) t)) (drop-drop count_size l.order.middle s)
        ∙ ap rule_in (drop-drop (record_size * i) (l.order.middle + count_size) s))

  -- The runs of A's boxes and of B's.
  module _ (fits : length s < 2 ^ 64) where
    pub gate_run : Holds box_size box_in s (record { from = count_size; step = record_size; count = l.order.gate }) (regions q.order.gate)
    gate_run = record {
      apart = omega arith;
      inside = omega (arith, c.laid.lists.gate_end, c.laid.lists.own_end, c.laid.lists.inside);
      fits = fits;
      are = record_regions l.order.gate (drop count_size s);
      proper = gate_proper s q c.checks;
    }

    pub own_run : Holds box_size box_in s (record { from = l.order.middle + count_size; step = record_size; count = l.order.own }) (regions q.order.own)
    own_run = record {
      apart = omega arith;
      inside = omega (arith, c.laid.lists.own_end, c.laid.lists.inside);
      fits = fits;
      are = ap (each_in record_size box_in l.order.own) (sym (drop-drop count_size l.order.middle s)) ∙ record_regions l.order.own (drop count_size (drop l.order.middle s));
      proper = own_proper s q c.checks;
    }

  -- The group of a deny rule.
  module _ {j : ℕ} (deny : Denies q j) where
    abbrev from : ℕ
    from = l.from

    abbrev groups : List ℕ
    groups = drop from s

    pub deny_record : count_size + record_size * j ≤ length s
    deny_record = omega (arith, gate_record {i = j} (omega (arith, deny.0, gate_length)))

    module _ {k : ℕ} (is : k ≡ denies (rules_of j s)) where
      earlier_are : k ≡ denies (take j q.order.gate)
      earlier_are = is ∙ ap denies (sym (rules_front j l.order.gate (drop count_size s) (omega (arith, deny.0, gate_length))))

      group_there : k < l.groups
      group_there =
          let d = deny_counts q.order.gate j (length q.order.gate) (rule [] 0) deny.0 (omega arith) deny.1 in
          let w : denies (take (length q.order.gate) q.order.gate) ≡ denies q.order.gate = ap denies (take_all (length q.order.gate) q.order.gate (omega arith)) in
          omega (arith, earlier_are, c.laid.groups_are)

      groups_inside : from ≤ length s
      groups_inside = omega (arith, c.laid.groups_end, c.laid.whole)

      -- the groups up to this one, and it, are there
      run_there : run_size (k + 1) groups ≤ length groups
      run_there =
          let n : ℕ = l.groups in
          let e : k + 1 + (n - (k + 1)) ≡ n = omega (arith, group_there) in
          let b = boxes_behind (k + 1) (n - (k + 1)) groups in
          let f : box_count n groups ≡ box_count (k + 1) groups + box_count (n - (k + 1)) (drop (run_size (k + 1) groups) groups) = ap (λ (m : ℕ). box_count m groups) (sym e) ∙ b in
          let g = length-drop from s in
          omega (arith, c.laid.groups_end, c.laid.whole, c.laid.boxes_are, group_there)

      group_inside : (n : ℕ) → n ≡ count_in (drop (run_size k groups) groups) → run_size k groups + group_size n ≤ length groups
      group_inside n e = omega (arith, run_next k groups n e, run_there)

      pub earlier_inside : run_size k (take (length s - from) groups) ≤ length (take (length s - from) groups)
      earlier_inside = rw (tail_whole s from groups_inside) (omega (arith, group_inside (count_in (drop (run_size k groups) groups)) refl))

      module _ {front : ℕ} (counts : front ≡ box_count k (take (length s - from) groups)) where
        boxes_before : front ≡ box_count k groups
        boxes_before = counts ∙ ap (box_count k) (tail_whole s from groups_inside)

        pub group_front : front ≡ front_of q j
        group_front =
            boxes_before ∙ (ap (λ (x : List (List Region)). length (together x)) (sym (groups_front k l.groups groups (omega (arith, group_there)))) ∙ ap (λ (m : ℕ). length (together (take m q.groups))) earlier_are)

        abbrev start : ℕ
        start = from + count_size * k + box_size * front

        start_is : start ≡ from + run_size k groups
        start_is = omega (arith, boxes_before)

        at_start : drop start s ≡ drop (run_size k groups) groups
        at_start = ap (λ (m : ℕ). drop m s) start_is ∙ sym (drop-drop (run_size k groups) from s)

        module _ {n : ℕ} (told : n ≡ count_in (drop start s)) where
          boxes_inside : start + count_size + box_size * n ≤ length s
          boxes_inside =
              let g = length-drop from s in
              omega (arith, start_is, group_inside n (told ∙ ap count_in at_start), groups_inside)

        pub start_inside : start + count_size ≤ length s
        start_inside = omega (arith, boxes_inside {n = count_in (drop start s)} refl)

        module _ {n : ℕ} (told : n ≡ count_in (drop start s)) where
          boxes_are_lem : each_in box_size box_in n (drop (start + count_size) s) ≡ group_at q j
          boxes_are_lem =
              let g = group_at_lem k l.groups groups group_there in
              let d : drop count_size (drop start s) ≡ drop (start + count_size) s = drop-drop count_size start s in
              let w : group_boxes (drop start s) ≡ get_or q.groups k [] = ap group_boxes at_start ∙ sym g in
              let x : get_or q.groups k [] ≡ group_at q j = ap (λ (m : ℕ). get_or q.groups m []) earlier_are in
              rw (told, ← d) (w ∙ x)

          pub group_run : length s < 2 ^ 64 → Holds box_size box_in s (record { from = start + count_size; step = box_size; count = n }) (group_at q j)
          group_run fits = record { apart = omega arith; inside = boxes_inside told; fits = fits; are = boxes_are_lem; proper = group_proper s q c.checks j }
