-- What an edit of either list comes to, once the pair sheet is read: the two tests, what reading the changed list gives, and
-- then 6 and 7. Assumes nothing.
use Rattle.std.specs.Prelude.{Err}
use mathlib.Core.Path.{◌≡◌, sym, subst, ◌∙◌}
use mathlib.Core.List.{List, ◌++◌}
use mathlib.Core.Bool.{true, cond, not}
use Prim.Native.Nat.{ℕ, zero, suc, ◌+◌, ◌≤◌, ◌<◌}
use native.Mathlib.Omega.{arith}
use lib.Dec.{leb}
use lib.ListN.{length, drop}
use borrow.Author.Tests.{le-leb, lt-leb}
use Rattle.lists.proofs.Lists.{three-parts}
use Rattle.policy.specs.Fields.{count_size, limits}
use Rattle.policy.specs.Rules.{Rule, complete}
use Rattle.policy.specs.Refusals.{Answer, refused, test, unless, given, or_else, rules_refusal, number_of}
use Rattle.policy.specs.Move.{room, Order, Pair, bad_count}
use Rattle.policy.proofs.Refused.{list_refusal}
use Rattle.policy.specs.Edit.{Kind, out, put, front, gone, back, Edit, target, new_list, new_order, new_slots, edited, change_refusal}
use Rattle.policy.specs.declared.Refusal.{Refusal}
use Rattle.policy.proofs.Numbers.{or_else_assoc}
use Rattle.policy.proofs.Edits.{list_accepted, changed-rules_refusal}
use Rattle.wire.proofs.Records.{rules_in-length}
use Rattle.sheet.specs.Pairs.{pair_in}
use Rattle.sheet.specs.Steps.{rules_of, pair_at}
use Rattle.sheet.specs.declared.PairLayout.{PairLayout}
use Rattle.sheet.proofs.Outcomes.{readable}
use Rattle.sheet.proofs.Orders.{ListFits, readable_fits}
use Rattle.sheet.proofs.Accepted.{PairAccepted}
use Rattle.edit_groups.specs.Steps.{slotted}
use Rattle.promises.specs.Edits.{Asked, asked, edit_of, whole_record, change_of, edited_of}
use Rattle.promises.specs.declared.Change.{Change}
use Rattle.promises.specs.declared.Request.{Request}
use Rattle.edit_list.specs.Steps.{taken_by, changed_bytes, ListChanged}
use Rattle.editing.specs.Steps.{Revised}
use Rattle.edit_list.proofs.Changes.{taken_is, change_refused}

unless_refused : {A B : Type 0} (k r n : ℕ) (y : A) (z : B) → unless k y ≡ refused n → unless (or_else k r) z ≡ refused n
unless_refused zero r n y z e = let q : ◌≡◌ {A = ℕ} 0 1 = cc in absurd (omega arith)
unless_refused (suc k) r n y z e = cc

abbrev most : Edit → ℕ
most e = cond e.in_gate limits.gate limits.own

-- the rules that stay are sound, so that what is asked of the new list is what reading it asks
change_chain : (e : Edit) (p : Pair) → list_refusal (most e) (target e p.order) ≡ 0
    → change_refusal limits e p ≡ or_else (list_refusal (most e) (new_list e p.order)) (room limits (new_order e p.order) (new_slots e p))
unfolding change_refusal list_refusal
change_chain e p clean =
    let l : List Rule = target e p.order in
    let k : Kind = e.kind in
    let i : ℕ = e.place in
    let none : rules_refusal (front i l ++ (gone i k l ++ back i k l)) ≡ 0 = rw (three-parts i (out k) l) (list_accepted (most e) l clean).0 in
    let c : ℕ = given (bad_count (most e) (length (new_list e p.order))) 2 in
    let d : ℕ = given (not (complete (new_list e p.order))) 5 in
    rw (changed-rules_refusal (front i l) (gone i k l) (put k) (back i k l) none, or_else_assoc c (or_else (rules_refusal (put k)) d) (room limits (new_order e p.order) (new_slots e p)), or_else_assoc (rules_refusal (put k)) d (room limits (new_order e p.order) (new_slots e p)))

pub pair_refuses : (s : List ℕ) (q : Asked) (k : ℕ) → pair_in limits s ≡ refused k → edited_of limits s q ≡ refused k
unfolding edited_of
pair_refuses s q k e = rw e

-- What is known of the two lists once a sheet is read well.
pub record ListsKnown (o : Order) (n m : ℕ) : Type 0 where
  pub gate : ListFits o.gate
  pub own : ListFits o.own
  pub gate_count : length o.gate ≡ n
  pub own_count : length o.own ≡ m
  pub gate_some : 1 ≤ n
  pub own_some : 1 ≤ m

pub lists_known : {s : List ℕ} {l : PairLayout} → PairAccepted s l → ListsKnown (pair_at l s).order l.order.gate l.order.own
lists_known {s} {l} a =
    let g : length (rules_of l.order.gate s) ≡ l.order.gate = rules_in-length l.order.gate (drop count_size s) in
    let w : length (rules_of l.order.own (drop l.order.middle s)) ≡ l.order.own = rules_in-length l.order.own (drop count_size (drop l.order.middle s)) in
    record {
      gate = readable_fits limits.gate _ (omega arith) a.good.gate;
      own = readable_fits limits.own _ (omega arith) a.good.own;
      gate_count = g;
      own_count = w;
      gate_some = omega (arith, (readable limits.gate _ a.good.gate).few);
      own_some = omega (arith, (readable limits.own _ a.good.own).few);
    }

-- A list that a sheet does not have.
pub no_list : {s : List ℕ} {l : PairLayout} → PairAccepted s l → (q : Asked) → 1 < q.which → edited_of limits s q ≡ refused 9
unfolding edited_of change_of
no_list a q h = rw (a.reads, lt-leb q.which 1 h)

module _ {s : List ℕ} {l : PairLayout} (a : PairAccepted s l) (r : Request) (new : List ℕ) (there : leb r.which 1 ≡ true) where
  abbrev p : Pair
  p = pair_at l s

  abbrev place : ℕ
  place = r.place

  abbrev change : Change
  change = r.change

  abbrev q : Asked
  q = asked r new

  module _ (count : ℕ) (counted : length (target (edit_of q) p.order) ≡ count) where
    shape : edited_of limits s q ≡ test (leb (place + taken_by change) count) 9 (test (whole_record change new) 3 (unless (change_refusal limits (edit_of q) p) (edited (edit_of q) p)))
    unfolding edited_of change_of
    shape = rw (a.reads, there, taken_is change new, counted)

    pub revised_refused : (t : List ℕ) {out out' : List ℕ} (f : Refusal) → ListChanged (changed_bytes t count place change new) out (Err f) out'
        → edited_of limits s q ≡ refused (number_of f)
    revised_refused t f x = shape ∙ (change_refused (unless (change_refusal limits (edit_of q) p) (edited (edit_of q) p)) t count place change new f x).0

    module _ (found : place + taken_by change ≤ count) (whole : whole_record change new ≡ true) (clean : list_refusal (most (edit_of q)) (target (edit_of q) p.order) ≡ 0) where
      passed : edited_of limits s q ≡ unless (or_else (list_refusal (most (edit_of q)) (new_list (edit_of q) p.order)) (room limits (new_order (edit_of q) p.order) (new_slots (edit_of q) p))) (edited (edit_of q) p)
      passed = shape ∙ rw (le-leb (place + taken_by change) count found, whole, change_chain (edit_of q) p clean)

      -- reading the new list: refused with a number, or readable
      pub revised_refuses : {A : Type 0} (x : A) (k : ℕ) → unless (list_refusal (most (edit_of q)) (new_list (edit_of q) p.order)) x ≡ refused k → edited_of limits s q ≡ refused k
      revised_refuses x k e = passed ∙ unless_refused (list_refusal (most (edit_of q)) (new_list (edit_of q) p.order)) _ k x (edited (edit_of q) p) e

      pub revised_slotted : list_refusal (most (edit_of q)) (new_list (edit_of q) p.order) ≡ 0 → edited_of limits s q ≡ slotted (new_order (edit_of q) p.order) (new_slots (edit_of q) p)
      unfolding slotted
      revised_slotted e = passed ∙ rw e

-- A request for a list that is known to be the one of a number.
pub at_which : (sheet : List ℕ) (used : ℕ) (r : Request) (new : List ℕ) (i : ℕ) → r.which ≡ i → {w w' sheet' : List ℕ} {x : Answer}
    → Revised sheet used (asked (record { which = i; place = r.place; change = r.change }) new) w x sheet' w' → Revised sheet used (asked r new) w x sheet' w'
at_which sheet used r new i e {w} {w'} {sheet'} {x} y =
    subst (λ (j : ℕ). Revised sheet used (asked (record { which = j; place = r.place; change = r.change }) new) w x sheet' w') (sym e) y
