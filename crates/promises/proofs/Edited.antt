-- What an accepted edit writes is a pair sheet, whatever the groups were that it kept. Assumes nothing.
use mathlib.Core.Path.{◌≡◌, ap, sym, ◌∙◌}
use mathlib.Core.List.{List, ◌++◌, map, append_assoc}
use mathlib.Core.Bool.{Bool, true, false, cond, not, ◌||◌}
use Prim.Native.Nat.{ℕ, ◌+◌, ◌≤◌}
use native.Mathlib.Omega.{arith}
use lib.ListN.{length, take, drop, length-append, length-map, length-drop}
use lib.Seq.{length-take-le}
use borrow.Author.Tests.{ltb-false}
use Rattle.lists.specs.Lists.{Each}
use Rattle.lists.proofs.Lists.{each_append, each_take, each-drop, map-append, three-parts}
use Rattle.policy.specs.Fields.{Limits}
use Rattle.policy.specs.Ranges.{Region}
use Rattle.policy.specs.Rules.{Rule, complete, denies, allows_in, any_allow}
use Rattle.policy.specs.Refusals.{given, or_else, rules_refusal}
use Rattle.policy.specs.Move.{Slot, kept, slots, start_of, boxes_of, together, work, room, Order, Pair, bad_count}
use Rattle.policy.proofs.Refused.{list_refusal}
use Rattle.policy.specs.Edit.{Kind, out, put, front, gone, back, changed, around, Edit, edited, change_refusal}
use Rattle.policy.proofs.Numbers.{or_else_zero, or_else-both, given_zero}
use Rattle.policy.proofs.Edits.{slots_length, kept_boxes, rules_refusal-append, allows_in-append, changed-rules_refusal, list_accepted}
use Rattle.policy.proofs.Kept.{denies-append}
use Rattle.sheet.proofs.Pairs.{ProperGroup, PairGood}
use Rattle.promises.proofs.Good.{rest_proper}

-- what an edit that is not refused says
record Unrefused (most : ℕ) (k : Kind) (new : List Rule) (rest : ℕ) : Type 0 where
  pub count : given (bad_count most (length new)) 2 ≡ 0
  pub rules : rules_refusal (put k) ≡ 0
  pub full : given (not (complete new)) 5 ≡ 0
  pub room : rest ≡ 0

unrefused : (most : ℕ) (k : Kind) (new : List Rule) (rest : ℕ)
    → or_else (given (bad_count most (length new)) 2) (or_else (rules_refusal (put k)) (or_else (given (not (complete new)) 5) rest)) ≡ 0 → Unrefused most k new rest
unrefused most k new rest h =
    let a = or_else_zero (given (bad_count most (length new)) 2) _ h in
    let b = or_else_zero (rules_refusal (put k)) _ a.1 in
    let c = or_else_zero (given (not (complete new)) 5) rest b.1 in
    record { count = a.0; rules = b.0; full = c.0; room = c.1 }

-- the changed list is readable
changed_good : (most i : ℕ) (k : Kind) (l : List Rule) {rest : ℕ} → list_refusal most l ≡ 0 → Unrefused most k (changed i k l) rest → list_refusal most (changed i k l) ≡ 0
unfolding list_refusal
changed_good most i k l h u =
    let e = three-parts i (out k) l in
    let clean : rules_refusal (front i l ++ (gone i k l ++ back i k l)) ≡ 0 = ap rules_refusal e ∙ (list_accepted most l h).0 in
    let f = changed-rules_refusal (front i l) (gone i k l) (put k) (back i k l) clean ∙ u.rules in
    or_else-both (given (bad_count most (length (changed i k l))) 2) _ u.count (or_else-both (rules_refusal (changed i k l)) _ f u.full)

-- number 7 is not given: all boxes and the own rules are within the total
room_within : (lim : Limits) (o : Order) (l : List Slot) → room lim o l ≡ 0 → length o.own + length (together (map boxes_of l)) ≤ lim.total
unfolding room
room_within lim o l h =
    let r = or_else_zero (work lim l) _ h in
    let t = ltb-false lim.total (length (together (map boxes_of l)) + length o.own) (given_zero _ 6 r.1) in
    omega arith

module _ (lim : Limits) (p : Pair) (good : PairGood lim p) where
  own_good : (i : ℕ) (k : Kind) → change_refusal lim (record { in_gate = false; place = i; kind = k }) p ≡ 0
      → PairGood lim (edited (record { in_gate = false; place = i; kind = k }) p)
  unfolding change_refusal
  own_good i k h =
      let new : List Rule = changed i k p.order.own in
      let o : Order = record { gate = p.order.gate; own = new } in
      let u = unrefused lim.own k new (room lim o (map kept p.groups)) h in
      record {
        gate = good.gate;
        own = changed_good lim.own i k p.order.own good.own u;
        counted = ap length (kept_boxes p.groups) ∙ good.counted;
        groups = record { boxes = rw kept_boxes good.groups.boxes; within = room_within lim o (map kept p.groups) u.room };
      }

  module _ (i : ℕ) (k : Kind) (h : change_refusal lim (record { in_gate = true; place = i; kind = k }) p ≡ 0) where
    abbrev gate : List Rule
    gate = p.order.gate

    abbrev x : List Rule
    x = front i gate

    abbrev m : List Rule
    m = gone i k gate

    abbrev n : List Rule
    n = put k

    abbrev y : List Rule
    y = back i k gate

    abbrev f : Region → List Region
    f = start_of p.order

    abbrev o : Order
    o = record { gate = changed i k gate; own = p.order.own }

    abbrev around_place : List Slot
    around_place = around f x m n y p.groups

    u : Unrefused lim.gate k (changed i k gate) (room lim o around_place)
    unfolding change_refusal
    u = unrefused lim.gate k (changed i k gate) (room lim o around_place) h

    new_good : list_refusal lim.gate (changed i k gate) ≡ 0
    new_good = changed_good lim.gate i k gate good.gate u

    clean : rules_refusal (x ++ (n ++ y)) ≡ 0
    clean = (list_accepted lim.gate (changed i k gate) new_good).0

    -- as many kept groups stand before the place as rules deny there, and as many behind it
    counts : length p.groups ≡ denies x + (denies m + denies y)
    counts = good.counted ∙ (ap denies (sym (three-parts i (out k) gate)) ∙ (denies-append x (m ++ y) ∙ ap (λ (c : ℕ). denies x + c) (denies-append m y)))

    abbrev later : Bool → List Slot
    later t = cond t (slots f (allows_in x ++ allows_in n) y) (map kept (drop (denies x + denies m) p.groups))

    later-length : (t : Bool) → length (map boxes_of (later t)) ≡ denies y
    later-length true = length-map (slots f (allows_in x ++ allows_in n) y) boxes_of ∙ slots_length f (allows_in x ++ allows_in n) y
    later-length false = ap length (kept_boxes (drop (denies x + denies m) p.groups)) ∙ rw (length-drop, counts) (omega arith)

    later_proper : (t : Bool) → Each ProperGroup (map boxes_of (later t))
    later_proper true = rw allows_in-append at (rest_proper p.order (x ++ n) y (rw append_assoc clean))
    later_proper false = rw kept_boxes (each-drop ProperGroup (denies x + denies m) p.groups good.groups.boxes)

    groups_are_lem : map boxes_of around_place ≡ take (denies x) p.groups ++ (map boxes_of (slots f (allows_in x) n) ++ map boxes_of (later (any_allow m || any_allow n)))
    unfolding around
    groups_are_lem = rw (map-append boxes_of (map kept (take (denies x) p.groups)) _, kept_boxes (take (denies x) p.groups), map-append boxes_of (slots f (allows_in x) n) _)

    gate_good : PairGood lim (edited (record { in_gate = true; place = i; kind = k }) p)
    gate_good = record {
      gate = new_good;
      own = good.own;
      counted =
          let a : length (take (denies x) p.groups) ≡ denies x = length-take-le (denies x) p.groups (omega (arith, counts)) in
          let b : length (map boxes_of (slots f (allows_in x) n)) ≡ denies n = length-map (slots f (allows_in x) n) boxes_of ∙ slots_length f (allows_in x) n in
          let c = later-length (any_allow m || any_allow n) in
          ap length groups_are_lem ∙ rw (length-append, length-append, denies-append, denies-append) (omega (arith, a, b, c));
      groups = record {
        boxes = rw groups_are_lem (each_append ProperGroup (take (denies x) p.groups) _ (each_take ProperGroup (denies x) p.groups good.groups.boxes)
            (each_append ProperGroup (map boxes_of (slots f (allows_in x) n)) _ new_proper (later_proper (any_allow m || any_allow n))));
        within = room_within lim o around_place u.room;
      };
    }
      where
        new_proper : Each ProperGroup (map boxes_of (slots f (allows_in x) n))
        new_proper = rest_proper p.order x n (or_else_zero (rules_refusal (x ++ n)) (rules_refusal y) (sym (rules_refusal-append (x ++ n) y) ∙ rw append_assoc clean)).0

  pub edited_good : (e : Edit) → change_refusal lim e p ≡ 0 → PairGood lim (edited e p)
  edited_good e h = go e.in_gate h
    where
      go : (t : Bool) → change_refusal lim (record { in_gate = t; place = e.place; kind = e.kind }) p ≡ 0
          → PairGood lim (edited (record { in_gate = t; place = e.place; kind = e.kind }) p)
      go true r = gate_good e.place e.kind r
      go false r = own_good e.place e.kind r
