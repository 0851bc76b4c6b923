-- What an accepted move writes is a pair sheet: its groups are proper and counted, it fits its buffer, and its lists are lists.
-- Assumes nothing.
use mathlib.Core.Path.{◌≡◌, refl, ap, ◌∙◌}
use mathlib.Core.List.{List, [], ◌∷◌, ◌++◌, map}
use mathlib.Core.Bool.{true, false≢true}
use Prim.Native.Nat.{ℕ, ◌+◌, ◌*◌, ◌<◌, ◌≤◌}
use native.Mathlib.Omega.{arith}
use lib.ListN.{length, drop, length-append, length-map}
use lib.Seq.{drop_at}
use borrow.Author.Tests.{ltb-false, le-ltb}
use Rattle.lists.specs.Lists.{Each, every_both}
use Rattle.lists.proofs.Lists.{each-drop, each_imp, every_each, map-append}
use Rattle.policy.specs.Fields.{highest, box_size, count_size, Limits, limits}
use Rattle.policy.specs.Ranges.{Region, proper, full_over}
use Rattle.policy.specs.Rules.{Rule, sound, complete, allows_in, Proper}
use Rattle.policy.specs.Refusals.{rules_refusal}
use Rattle.policy.specs.Move.{Slot, slots, slots_of, start_of, boxes_of, together, work, room, Order, Pair, moved, denials, gate_list, cell_list}
use Rattle.policy.proofs.Refused.{list_refusal, move_refusal}
use Rattle.policy.proofs.Numbers.{or_else_zero, or_else-both, given_zero}
use Rattle.policy.proofs.Proper.{moved_proper}
use Rattle.policy.proofs.Places.{cell-length, together_each}
use Rattle.policy.proofs.Edits.{slots-append, move_accepted, list_accepted, slots_length, rules_refusal-append}
use Rattle.wire.proofs.Numbers.{number_bytes-length}
use Rattle.sheet.specs.Orders.{order_bytes}
use Rattle.sheet.specs.Pairs.{pair_bytes, pair_size}
use Rattle.wire.proofs.Lists.{list_bytes-length}
use Rattle.sheet.proofs.Outcomes.{readable}
use Rattle.sheet.proofs.Orders.{readable_fits}
use Rattle.sheet.proofs.Pairs.{groups-length}
use Rattle.sheet.proofs.Pairs.{ProperGroup, PairGood, denies_most}
use Rattle.wire.specs.Lists.{list_size}

pub moved_good : (lim : Limits) (o : Order) → move_refusal lim o ≡ 0 → PairGood lim (moved o)
unfolding room
moved_good lim o h =
    let a = move_accepted lim o h in
    let f = list_accepted lim.gate o.gate a.gate in
    let r = or_else_zero (work lim (slots_of o)) _ a.room in
    let t = ltb-false lim.total (length (together (moved o).groups) + length o.own) (given_zero _ 6 r.1) in
    record {
      gate = a.gate;
      own = a.own;
      counted = length-map (slots_of o) boxes_of ∙ slots_length (start_of o) [] o.gate;
      groups = record {
        boxes = each_imp (Each Proper) ProperGroup (moved o).groups (λ g p. every_each (proper highest) g p) (moved_proper o f.0);
        within = omega arith;
      };
    }

-- the groups of a readable list, behind some of its rules
pub rest_proper : (o : Order) (x l : List Rule) → rules_refusal (x ++ l) ≡ 0 → Each ProperGroup (map boxes_of (slots (start_of o) (allows_in x) l))
unfolding slots
rest_proper o x l h =
    let before : List (List Region) = map boxes_of (slots (start_of o) [] x) in
    let whole : Order = record { gate = x ++ l; own = [] } in
    let e : (moved whole).groups ≡ before ++ map boxes_of (slots (start_of o) (allows_in x) l) =
    ap (λ (y : List Slot). map boxes_of y) (slots-append (start_of o) [] x l) ∙ map-append boxes_of (slots (start_of o) [] x) _ in
    let d : drop (length before) (moved whole).groups ≡ map boxes_of (slots (start_of o) (allows_in x) l) = ap (drop (length before)) e ∙ drop_at before _ (length before) refl in
    rw d at (each-drop ProperGroup (length before) _ (each_imp (Each Proper) ProperGroup _ (λ g q. every_each (proper highest) g q) (moved_proper whole h)))

-- how long the bytes of a pair are
module _ (lim : Limits) (p : Pair) (u : lim.gate < 65536) (v : lim.own < 65536) (good : PairGood lim p) where
  pub pair-length : length (pair_bytes p) ≡ list_size (length p.order.gate) + list_size (length p.order.own) + (count_size + (count_size * length p.groups + box_size * length (together p.groups)))
  unfolding pair_bytes order_bytes
  pair-length =
      let g = list_bytes-length p.order.gate (readable_fits lim.gate p.order.gate u good.gate).rules in
      let w = list_bytes-length p.order.own (readable_fits lim.own p.order.own v good.own).rules in
      let c = groups-length p.groups good.groups.boxes in
      rw (length-append, length-append, length-append, number_bytes-length) (omega arith)

  pub pair_short : lim.gate ≤ limits.gate → lim.own ≤ limits.own → lim.total ≤ limits.total → length (pair_bytes p) ≤ pair_size
  pair_short x y z =
      let a = readable lim.gate p.order.gate good.gate in
      let b = readable lim.own p.order.own good.own in
      let d = denies_most p.order.gate in
      let t = good.groups.within in
      let n = good.counted in
      rw pair-length (omega arith)

-- The lists of an accepted move are readable as lists of the cell's total.
complete_behind : (x l : List Rule) → complete l ≡ true → complete (x ++ l) ≡ true
unfolding complete
complete_behind [] l h = h
complete_behind (r ∷ []) [] h = absurd (false≢true h)
complete_behind (r ∷ []) (q ∷ l) h = h
complete_behind (r ∷ (q ∷ x)) l h = complete_behind (q ∷ x) l h

denials_sound : (bs : List Region) → Each Proper bs → rules_refusal (denials bs) ≡ 0
unfolding denials rules_refusal sound Each
denials_sound [] h = refl
denials_sound (b ∷ bs) h = rw h.0 (denials_sound bs h.1)

list_none : (most : ℕ) (l : List Rule) → 1 ≤ length l → length l ≤ most → rules_refusal l ≡ 0 → complete l ≡ true → list_refusal most l ≡ 0
unfolding list_refusal
list_none most l a b f c = rw (le-ltb (length l) 1 a, le-ltb most (length l) b, f, c)

pub gate_list_good : (lim : Limits) (p : Pair) → 1 ≤ lim.total → list_refusal lim.total (gate_list p) ≡ 0
unfolding rules_refusal sound complete highest every_both full_over
gate_list_good lim p h = list_none lim.total (gate_list p) (omega arith) (omega arith) refl refl

pub cell_list_good : (lim : Limits) (o : Order) → move_refusal lim o ≡ 0 → list_refusal lim.total (cell_list (moved o)) ≡ 0
cell_list_good lim o h =
    let g = moved_good lim o h in
    let a = move_accepted lim o h in
    let f = list_accepted lim.gate o.gate a.gate in
    let w = list_accepted lim.own o.own a.own in
    let b = readable lim.own o.own a.own in
    let bs : List Region = together (moved o).groups in
    let n = cell-length (moved o) in
    let t = g.groups.within in
    list_none lim.total (cell_list (moved o)) (omega arith) (omega arith)
    (rules_refusal-append (denials bs) o.own ∙ or_else-both _ _ (denials_sound bs (together_each Proper (moved o).groups (moved_proper o f.0))) w.0)
    (complete_behind (denials bs) o.own w.1)
