-- Demands 2 and 3 of bytes, over the functions that the calls' statements name, for any limits that are small enough.
-- Assumes nothing.
use mathlib.Core.Path.{◌≡◌, refl, ap, sym, subst, ◌∙◌}
use mathlib.Core.List.{List, ◌++◌}
use mathlib.Core.Bool.{Bool, true, false, cond, ◌&&◌}
use Prim.Native.Nat.{ℕ, ◌+◌, ◌<◌, ◌≤◌}
use native.Mathlib.Omega.{arith}
use lib.Dec.{leb, ltb, eqb}
use lib.ListN.{length, take, drop, length-append, length-take, length-drop}
use lib.Seq.{length-take-le}
use borrow.Author.Tests.{le-leb, le-ltb, eqb-true, eqb-false, eq-eqb, ne_eqb}
use Rattle.lists.proofs.Tests.{and_true}
use Rattle.lists.specs.Lists.{Each}
use Rattle.lists.proofs.Lists.{each_append, each_take, each-drop}
use Rattle.policy.specs.Fields.{record_size, Limits, limits}
use Rattle.policy.specs.Rules.{Rule}
use Rattle.policy.specs.Refusals.{accepted, refused, given, unless, or_else}
use Rattle.policy.specs.Move.{slots_of, together, work, room, Order, Pair, moved, gate_list, cell_list}
use Rattle.policy.proofs.Refused.{list_refusal, move_refusal}
use Rattle.policy.specs.Check.{check_refusal}
use Rattle.policy.specs.Edit.{Kind, out, put, changed, has_place, new_order, place_found, edited, change_refusal}
use Rattle.policy.proofs.Answers.{test_accepted, unless_accepted}
use Rattle.policy.proofs.Numbers.{or_else_zero, or_else-both, or_else_assoc}
use Rattle.policy.proofs.Edits.{Accepted, list_accepted, move_accepted, kept_boxes, edit_as_fresh, change_refuses_as_fresh}
use Rattle.policy.specs.Demands.{DenyOnly, OthersKept}
use Rattle.policy.proofs.Kept.{others_kept}
use Rattle.policy.proofs.Checks.{checked_is_moved, moved_is_checked}
use Rattle.policy.proofs.Moves.{moved_pair_forwards, boxes_cover_what_the_gate_dropped, cell_first}
use Rattle.wire.specs.Numbers.{Byte}
use Rattle.wire.specs.Buffers.{filled}
use Rattle.wire.proofs.Buffers.{filled_content, filled_over}
use Rattle.wire.proofs.Records.{RuleFits, rule_in-fits}
use Rattle.sheet.specs.Orders.{order_in, order_bytes}
use Rattle.sheet.specs.Pairs.{pair_in, pair_bytes, pair_size}
use Rattle.sheet.proofs.Outcomes.{through, unless_both, readable}
use Rattle.sheet.proofs.Orders.{ListFits, readable_fits, order_back, order_readable, order_written_back, list_back}
use Rattle.sheet.proofs.Pairs.{pair_back, pair_good, pair_written_back}
use Rattle.sheet.proofs.Lengths.{other_length_refused}
use Rattle.promises.specs.Calls.{plan_of, move_of, checked_of, check_of, gate_bytes, cell_bytes}
use Rattle.promises.specs.Edits.{Asked, kind_of, edit_of, whole_record, change_of, edited_of}
use Rattle.promises.specs.Theorems.{held, DemandTwo, CheckIsMove}
use Rattle.promises.specs.declared.Change.{Change}
use Rattle.promises.specs.declared.Change.TheVariants.{Insert, Delete, Replace}
use Rattle.promises.proofs.Edited.{edited_good}
use Rattle.promises.proofs.Good.{moved_good, pair_short, gate_list_good, cell_list_good}

unless_none : {A : Type 0} (n : ℕ) (a : A) → n ≡ 0 → unless n a ≡ accepted a
unless_none n a e = rw e

-- a list with one rule of bytes put in fits its bytes
put_fits : (c : Change) (s : List ℕ) → whole_record c s ≡ true → Each Byte s → Each RuleFits (put (kind_of c s)) × (length (put (kind_of c s)) ≤ 1)
unfolding Each
put_fits Insert s w b = ((rule_in-fits s (omega (arith, eqb-true (length s) record_size w)) b, tt), omega arith)
put_fits Delete s w b = (tt, omega arith)
put_fits Replace s w b = ((rule_in-fits s (omega (arith, eqb-true (length s) record_size w)) b, tt), omega arith)

pub changed_fits : (i : ℕ) (c : Change) (s : List ℕ) (l : List Rule) → whole_record c s ≡ true → Each Byte s → Each RuleFits l → length l < 65535 → ListFits (changed i (kind_of c s) l)
changed_fits i c s l w b f n =
    let k : Kind = kind_of c s in
    let p = put_fits c s w b in
    record {
      rules = each_append RuleFits (take i l) (put k ++ drop (out k) (drop i l)) (each_take RuleFits i l f)
          (each_append RuleFits (put k) (drop (out k) (drop i l)) p.0 (each-drop RuleFits (out k) (drop i l) (each-drop RuleFits i l f)));
      count = rw (length-append, length-append, length-take, length-drop, length-drop) (omega arith);
    }

-- What is asked of limits: none is above the scope's own, which the sizes are made of, and the own rules, at least one, have room in
-- the total.
pub record Small (lim : Limits) : Type 0 where
  pub gate : lim.gate ≤ limits.gate
  pub own : lim.own ≤ limits.own
  pub total : lim.total ≤ limits.total
  pub one : 1 ≤ lim.total
  pub share : lim.own ≤ lim.total

-- The scope's own limits are such.
pub limits_small : Small limits
limits_small = record { gate = omega arith; own = omega arith; total = omega arith; one = omega arith; share = omega arith }

module _ (lim : Limits) (small : Small lim) where
  -- a move of the bytes of lists that fit them answers as the move of the lists
  move_back : (o : Order) → ListFits o.gate → ListFits o.own → move_of lim (order_bytes o) ≡ unless (move_refusal lim o) (moved o)
  unfolding move_of move_refusal plan_of
  move_back o g w =
      rw (order_back lim o g w, ← or_else_assoc (list_refusal lim.gate o.gate) (list_refusal lim.own o.own) (room lim o (slots_of o)))
      (unless_both (or_else (list_refusal lim.gate o.gate) (list_refusal lim.own o.own)) (room lim o (slots_of o)) o (λ (x : Order). unless (room lim x (slots_of x)) (moved x)) (moved o) refl)

  move_fits : (o : Order) → move_refusal lim o ≡ 0 → ListFits o.gate × ListFits o.own
  move_fits o h =
      let a = move_accepted lim o h in
      (readable_fits lim.gate o.gate (omega (arith, small.gate)) a.gate, readable_fits lim.own o.own (omega (arith, small.own)) a.own)

  pub move_again : (o : Order) → move_refusal lim o ≡ 0 → move_of lim (order_bytes o) ≡ accepted (moved o)
  move_again o h = let f = move_fits o h in move_back o f.0 f.1 ∙ unless_none (move_refusal lim o) (moved o) h

  sheet_back : (o : Order) → move_refusal lim o ≡ 0 → pair_in lim (pair_bytes (moved o)) ≡ accepted (moved o)
  sheet_back o h = pair_back lim (moved o) (omega (arith, small.gate)) (omega (arith, small.own)) (omega (arith, small.total)) (moved_good lim o h)

  pub sheet_short : (o : Order) → move_refusal lim o ≡ 0 → length (pair_bytes (moved o)) ≤ pair_size
  sheet_short o h = pair_short lim (moved o) (omega (arith, small.gate)) (omega (arith, small.own)) (moved_good lim o h) small.gate small.own small.total

  -- what an accepted move of bytes is
  pub record Read (s : List ℕ) (p : Pair) : Type 0 where
    pub order : Order
    pub reads : order_in lim s ≡ accepted order
    pub none : move_refusal lim order ≡ 0
    pub pair : p ≡ moved order

  pub move_read : (s : List ℕ) (p : Pair) → move_of lim s ≡ accepted p → Read s p
  unfolding move_of plan_of move_refusal
  move_read s p e =
      let a = through (order_in lim s) _ p e in
      let o = a.value in
      let u = unless_accepted (room lim o (slots_of o)) a.then in
      let f = order_readable lim s o a.first in
      record {
        order = o;
        reads = a.first;
        none = or_else-both (list_refusal lim.gate o.gate) _ f.0 (or_else-both (list_refusal lim.own o.own) _ f.1 u.0);
        pair = sym u.1;
      }

  moved_demand_two : (s : List ℕ) (o : Order) → Each Byte s → order_in lim s ≡ accepted o → move_refusal lim o ≡ 0 → DemandTwo lim s o (moved o)
  unfolding check_of checked_of gate_bytes cell_bytes
  moved_demand_two s o b e h =
      let f = list_accepted lim.gate o.gate (move_accepted lim o h).gate in
      let k = sheet_back o h in
      let g = gate_list_good lim (moved o) small.one in
      let c = cell_list_good lim o h in
      record {
        order = e;
        bytes = order_written_back lim s o e b;
        pair = refl;
        sheet = k;
        checks = rw k (unless_none (check_refusal lim (moved o)) (moved o) (moved_is_checked lim o h));
        gate = list_back lim.total (gate_list (moved o)) (readable_fits lim.total (gate_list (moved o)) (omega (arith, small.total)) g) ∙ unless_none _ _ g;
        cell = list_back lim.total (cell_list (moved o)) (readable_fits lim.total (cell_list (moved o)) (omega (arith, small.total)) c) ∙ unless_none _ _ c;
        forwarded = λ q. moved_pair_forwards o q f.0 f.1;
        boxes = λ q. boxes_cover_what_the_gate_dropped o q f.0;
        cell_first = λ q. cell_first o q f.0;
      }

  -- Demand 2.
  pub demand_two : (s : List ℕ) (p : Pair) → Each Byte s → move_of lim s ≡ accepted p → (o : Order) × DemandTwo lim s o p
  demand_two s p b e =
      let r = move_read s p e in
      (r.order, subst (λ (q : Pair). DemandTwo lim s r.order q) (sym r.pair) (moved_demand_two s r.order b r.reads r.none))

  -- the sheet that stands in a buffer is read back, and writing another over it leaves nothing of it
  held_taken : (out : List ℕ) (o : Order) → move_refusal lim o ≡ 0 → take (length (pair_bytes (moved o))) (held out (moved o)).buffer ≡ pair_bytes (moved o)
  held_taken out o h = filled_content pair_size out (pair_bytes (moved o)) (length (pair_bytes (moved o))) refl

  held_long : (out : List ℕ) (o : Order) → length (pair_bytes (moved o)) ≤ length (held out (moved o)).buffer
  unfolding filled
  held_long out o = rw length-append (omega arith)

  edits_moved : (out : List ℕ) (o : Order) (a : Asked) → move_refusal lim o ≡ 0
      → edited_of lim (take (held out (moved o)).used (held out (moved o)).buffer) a ≡ change_of lim a (moved o)
  unfolding edited_of
  edits_moved out o a h = rw (held_taken out o h, sheet_back o h)

  held_over : (out : List ℕ) (o : Order) (p : Pair) → move_refusal lim o ≡ 0 → held (held out (moved o)).buffer p ≡ held out p
  held_over out o p h = λ t. record { buffer = filled_over pair_size out (pair_bytes (moved o)) (pair_bytes p) (sheet_short o h) t; used = length (pair_bytes p) }

  -- what an accepted change of a moved pair is
  change_accepted : (a : Asked) (o : Order) (p : Pair) → move_refusal lim o ≡ 0 → change_of lim a (moved o) ≡ accepted p
      → (move_refusal lim (new_order (edit_of a) o) ≡ 0) × (p ≡ moved (new_order (edit_of a) o))
  unfolding change_of
  change_accepted a o p h e =
      let f = test_accepted (leb a.which 1 && place_found (edit_of a) o) 9 _ e in
      let g = test_accepted (whole_record a.change a.bytes) 3 _ f.1 in
      let u = unless_accepted (change_refusal lim (edit_of a) (moved o)) g.1 in
      (sym (change_refuses_as_fresh lim (edit_of a) o h) ∙ u.0, sym u.1 ∙ edit_as_fresh (edit_of a) o)

  -- a buffer that begins with a sheet, told any other length: reading refuses
  pub other_length : (buffer : List ℕ) (n used : ℕ) (p : Pair) (a : Asked) → n ≤ length buffer → pair_in lim (take n buffer) ≡ accepted p → used ≤ length buffer
      → (used ≡ n → ⊥) → edited_of lim (take used buffer) a ≡ refused 3
  unfolding edited_of
  other_length buffer n used p a h e k d =
      let l : length (take n buffer) ≡ n = length-take-le n buffer h in
      let x = other_length_refused lim (take n buffer) p buffer used e (ap (λ (m : ℕ). take m buffer) l) k (λ z. d (z ∙ l)) in
      rw x refl

  -- Demand 3, an accepted edit: it was told the sheet's own length, and leaves the accepted move of the edited lists.
  pub edit_done : (out : List ℕ) (o : Order) (n : ℕ) (a : Asked) (p : Pair) → move_refusal lim o ≡ 0 → n ≤ length (held out (moved o)).buffer
      → edited_of lim (take n (held out (moved o)).buffer) a ≡ accepted p
      → (move_refusal lim (new_order (edit_of a) o) ≡ 0) × (held (held out (moved o)).buffer p ≡ held out (moved (new_order (edit_of a) o)))
  edit_done out o n a p h k e = go (eqb n (length (pair_bytes (moved o)))) refl
    where
      go : (t : Bool) → eqb n (length (pair_bytes (moved o))) ≡ t
          → (move_refusal lim (new_order (edit_of a) o) ≡ 0) × (held (held out (moved o)).buffer p ≡ held out (moved (new_order (edit_of a) o)))
      go true i =
          let same = ap (λ (m : ℕ). edited_of lim (take m (held out (moved o)).buffer) a) (sym (eqb-true n _ i)) in
          let c = change_accepted a o p h (sym (edits_moved out o a h) ∙ (same ∙ e)) in
          (c.0, held_over out o p h ∙ ap (held out) c.1)
      go false i =
          let b : List ℕ = (held out (moved o)).buffer in
          let s = pair_bytes (moved o) in
          let reads : pair_in lim (take (length s) b) ≡ accepted (moved o) = rw (held_taken out o h) (sheet_back o h) in
          let z : ◌≡◌ {A = ℕ} 0 1 = cc (sym (other_length b (length s) n (moved o) a (held_long out o) reads k (eqb-false n _ i)) ∙ e) in
          absurd (omega arith)

  -- Demand 3, one edit with a place that exists and a whole record.
  pub edit_as_fresh_move : (out : List ℕ) (o : Order) (a : Asked) → move_refusal lim o ≡ 0 → a.which ≤ 1 → place_found (edit_of a) o ≡ true
      → whole_record a.change a.bytes ≡ true → Each Byte a.bytes
      → edited_of lim (take (held out (moved o)).used (held out (moved o)).buffer) a ≡ move_of lim (order_bytes (new_order (edit_of a) o))
  unfolding change_of
  edit_as_fresh_move out o a h l p w b =
      edits_moved out o a h
      ∙ rw (le-leb a.which 1 l, p, w, change_refuses_as_fresh lim (edit_of a) o h, edit_as_fresh (edit_of a) o) (sym (move_back (new_order (edit_of a) o) (go (eqb a.which 0)).0 (go (eqb a.which 0)).1))
    where
      f : ListFits o.gate × ListFits o.own
      f = move_fits o h

      m : Accepted lim o
      m = move_accepted lim o h

      new : (l : List Rule) → Each RuleFits l → length l < 65535 → ListFits (changed a.place (kind_of a.change a.bytes) l)
      new l r n = changed_fits a.place a.change a.bytes l w b r n

      go : (t : Bool) → ListFits (cond t (changed a.place (kind_of a.change a.bytes) (cond t o.gate o.own)) o.gate) × ListFits (cond t o.own (changed a.place (kind_of a.change a.bytes) (cond t o.gate o.own)))
      go true = (new o.gate f.0.rules (omega (arith, readable lim.gate o.gate m.gate, small.gate)), f.1)
      go false = (f.0, new o.own f.1.rules (omega (arith, readable lim.own o.own m.own, small.own)))

  -- Demand 3, other rules' boxes: what an accepted edit of bytes is.
  record EditedIs (a : Asked) (p q : Pair) : Type 0 where
    pub place : place_found (edit_of a) p.order ≡ true
    pub none : change_refusal lim (edit_of a) p ≡ 0
    pub is : edited (edit_of a) p ≡ q

  accepted_edit : (s : List ℕ) (a : Asked) (p q : Pair) → pair_in lim s ≡ accepted p → edited_of lim s a ≡ accepted q → EditedIs a p q
  unfolding edited_of change_of
  accepted_edit s a p q r e =
      let f = test_accepted (leb a.which 1 && place_found (edit_of a) p.order) 9 _ (rw r at e) in
      let w = test_accepted (whole_record a.change a.bytes) 3 _ f.1 in
      let u = unless_accepted (change_refusal lim (edit_of a) p) w.1 in
      record { place = (and_true (leb a.which 1) (place_found (edit_of a) p.order) f.0).1; none = u.0; is = u.1 }

  module _ (s : List ℕ) (a : Asked) (p q : Pair) (r : pair_in lim s ≡ accepted p) (e : edited_of lim s a ≡ accepted q) where
    abbrev kind : Kind
    kind = kind_of a.change a.bytes

    abbrev in_list : Bool → Pair
    in_list t = edited (record { in_gate = t; place = a.place; kind = kind }) p

    pub edited_is : edited (edit_of a) p ≡ q
    edited_is = (accepted_edit s a p q r e).is

    pub gate_edit_keeps_others : a.which ≡ 0 → DenyOnly a.place kind p.order.gate → OthersKept a.place kind p q
    gate_edit_keeps_others g d =
        let i : eqb a.which 0 ≡ true = eq-eqb a.which 0 g in
        let place = sym (ap (λ (t : Bool). has_place a.place kind (cond t p.order.gate p.order.own)) i) ∙ (accepted_edit s a p q r e).place in
        subst (λ (x : Pair). OthersKept a.place kind p x) (sym (ap in_list i) ∙ edited_is) (others_kept a.place kind p place (pair_good lim s p r small.share).counted d)

    pub own_edit_keeps_groups : a.which ≡ 1 → q.groups ≡ p.groups
    own_edit_keeps_groups g =
        let i : eqb a.which 0 ≡ false = ne_eqb a.which 0 (λ z. omega arith) in
        (λ t. (sym edited_is t).groups) ∙ (ap (λ (t : Bool). (in_list t).groups) i ∙ kept_boxes p.groups)

    pub edited_sheet : pair_in lim (pair_bytes q) ≡ accepted q
    edited_sheet =
        let g = edited_good lim p (pair_good lim s p r small.share) (edit_of a) (accepted_edit s a p q r e).none in
        subst (λ (x : Pair). pair_in lim (pair_bytes x) ≡ accepted x) edited_is (pair_back lim (edited (edit_of a) p) (omega (arith, small.gate)) (omega (arith, small.own)) (omega (arith, small.total)) g)

  -- What a sheet that check accepts is: it reads, as what a move of its lists gives, and that move is accepted.
  pub record CheckAccepted (s : List ℕ) (p : Pair) : Type 0 where
    pub reads : pair_in lim s ≡ accepted p
    pub moved : p ≡ moved p.order
    pub none : move_refusal lim p.order ≡ 0

  pub check_accepted : (s : List ℕ) (p : Pair) → check_of lim s ≡ accepted p → CheckAccepted s p
  unfolding check_of checked_of check_refusal move_refusal room
  check_accepted s p e =
      let a = through (pair_in lim s) _ p e in
      let u = unless_accepted (check_refusal lim a.value) a.then in
      let r : pair_in lim s ≡ accepted p = a.first ∙ ap accepted u.1 in
      let c : check_refusal lim p ≡ 0 = ap (check_refusal lim) (sym u.1) ∙ u.0 in
      let g = pair_good lim s p r small.share in
      let o = p.order in
      let m : p ≡ moved o = checked_is_moved lim p c in
      let t : length (together p.groups) ≡ length (together (moved o).groups) = λ i. length (together (m i).groups) in
      let w = g.groups.within in
      let n = or_else_zero (work lim (slots_of o)) _ c in
      let l : ltb lim.total (length (together (moved o).groups) + length o.own) ≡ false = le-ltb lim.total _ (omega arith) in
      record {
        reads = r;
        moved = m;
        none = or_else-both (list_refusal lim.gate o.gate) _ g.gate (or_else-both (list_refusal lim.own o.own) _ g.own
            (or_else-both (work lim (slots_of o)) _ n.0 (ap (λ (y : Bool). given y 7) l)));
      }

  -- What check accepts is what a move of its lists writes.
  pub check_is_move : (s : List ℕ) (p : Pair) → Each Byte s → check_of lim s ≡ accepted p → CheckIsMove lim s p
  check_is_move s p b e =
      let c = check_accepted s p e in
      record { sheet = pair_written_back lim s p c.reads b; moves = move_again p.order c.none ∙ ap accepted (sym c.moved) }
