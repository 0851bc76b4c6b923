-- An order sheet, and a list by itself, read back as what was written, and what reads well is what would be written.
-- Assumes nothing.
use mathlib.Core.Path.{◌≡◌, refl, ap, sym, ◌∙◌}
use mathlib.Core.List.{List, [], ◌∷◌, ◌++◌, append_assoc, append-nil}
use Prim.Native.Nat.{ℕ, ◌<◌}
use native.Mathlib.Omega.{arith}
use lib.Dec.{eqb}
use lib.ListN.{length}
use borrow.Author.Tests.{eqb-true}
use Rattle.lists.specs.Lists.{Each}
use Rattle.policy.specs.Fields.{Limits}
use Rattle.policy.specs.Rules.{Rule, sound}
use Rattle.policy.specs.Refusals.{accepted, or_else, unless}
use Rattle.policy.specs.Move.{Order}
use Rattle.policy.proofs.Refused.{list_refusal}
use Rattle.wire.specs.Numbers.{Byte}
use Rattle.wire.proofs.Numbers.{bytes_drop}
use Rattle.wire.proofs.Records.{RuleFits, sound_fits}
use Rattle.sheet.specs.Sections.{Reading, reading, section}
use Rattle.sheet.specs.Orders.{ended, order, order_in, order_bytes, list_in, lists_in}
use Rattle.sheet.proofs.Outcomes.{through, unless_then, unless_both, readable}
use Rattle.sheet.proofs.Sections.{section_good, section_written_back, section_back}
use Rattle.lists.proofs.Lists.{each_every}
use Rattle.policy.proofs.Answers.{test_accepted}
use Rattle.wire.specs.Lists.{list_size, list_bytes}

-- A list whose numbers fit their bytes.
pub record ListFits (l : List Rule) : Type 0 where
  pub rules : Each RuleFits l
  pub count : length l < 65536

pub readable_fits : (most : ℕ) (l : List Rule) → most < 65536 → list_refusal most l ≡ 0 → ListFits l
readable_fits most l h e =
    let g = readable most l e in
    record { rules = each_every sound RuleFits sound_fits l g.sounds; count = omega arith }

nothing_left : {A : Type 0} (l : List A) → length l ≡ 0 → l ≡ []
nothing_left [] e = refl
nothing_left (x ∷ l) e = absurd (omega arith)

pub ended_accepted : {A B : Type 0} (r : Reading A) (v w : B) → ended r v ≡ accepted w → (v ≡ w) × (r.rest ≡ [])
ended_accepted r v w e =
    let a = test_accepted (eqb (length r.rest) 0) 3 _ e in
    (cc a.1, nothing_left r.rest (eqb-true (length r.rest) 0 a.0))

-- A and B that were accepted.
record ListsGood (lim : Limits) (s : List ℕ) (r : Reading Order) : Type 0 where
  pub middle : List ℕ
  pub gate : section lim.gate s ≡ accepted (reading r.value.gate middle)
  pub own : section lim.own middle ≡ accepted (reading r.value.own r.rest)

lists_good : (lim : Limits) (s : List ℕ) (r : Reading Order) → lists_in lim s ≡ accepted r → ListsGood lim s r
unfolding lists_in
lists_good lim s r e =
    let a = through (section lim.gate s) _ r e in
    let b = through (section lim.own a.value.rest) _ r a.then in
    let p : reading (order a.value.value b.value.value) b.value.rest ≡ r = cc b.then in
    record {
      middle = a.value.rest;
      gate = a.first ∙ (λ i. accepted (reading (p i).value.gate a.value.rest));
      own = b.first ∙ (λ i. accepted (reading (p i).value.own (p i).rest));
    }

module _ (lim : Limits) (s : List ℕ) (r : Reading Order) (e : lists_in lim s ≡ accepted r) where
  pub lists_readable : (list_refusal lim.gate r.value.gate ≡ 0) × (list_refusal lim.own r.value.own ≡ 0)
  lists_readable =
      let g = lists_good lim s r e in
      ((section_good lim.gate s (reading r.value.gate g.middle) g.gate).list, (section_good lim.own g.middle (reading r.value.own r.rest) g.own).list)

  pub lists_written_back : Each Byte s → order_bytes r.value ++ r.rest ≡ s
  unfolding order_bytes
  lists_written_back b =
      let g = lists_good lim s r e in
      let a : Reading (List Rule) = reading r.value.gate g.middle in
      let m : Each Byte g.middle = rw (section_good lim.gate s a g.gate).rest (bytes_drop (list_size (length a.value)) s b) in
      append_assoc (list_bytes r.value.gate) (list_bytes r.value.own) r.rest
      ∙ (ap (λ (l : List ℕ). list_bytes r.value.gate ++ l) (section_written_back lim.own g.middle (reading r.value.own r.rest) m g.own)
      ∙ section_written_back lim.gate s a b g.gate)

pub lists_back :
    (lim : Limits) (o : Order) (t : List ℕ) → ListFits o.gate → ListFits o.own
    → lists_in lim (order_bytes o ++ t) ≡ unless (or_else (list_refusal lim.gate o.gate) (list_refusal lim.own o.own)) (reading o t)
unfolding lists_in order_bytes
lists_back lim o t g w =
    let n : ℕ = list_refusal lim.gate o.gate in
    let m : ℕ = list_refusal lim.own o.own in
    let rest : List ℕ = list_bytes o.own ++ t in
    rw (append_assoc, section_back lim.gate o.gate rest g.rules g.count)
    (unless_both n m (reading o.gate rest) _ (reading o t)
    (rw (section_back lim.own o.own t w.rules w.count) (unless_then m (reading o.own t) _ (reading o t) refl)))

-- The order sheet: what is written reads back as itself, or with the first number that its lists are refused with.
pub order_back :
    (lim : Limits) (o : Order) → ListFits o.gate → ListFits o.own
    → order_in lim (order_bytes o) ≡ unless (or_else (list_refusal lim.gate o.gate) (list_refusal lim.own o.own)) o
unfolding order_in
order_back lim o g w =
    let n : ℕ = or_else (list_refusal lim.gate o.gate) (list_refusal lim.own o.own) in
    let e : lists_in lim (order_bytes o) ≡ unless n (reading o []) = rw append-nil at (lists_back lim o [] g w) in
    rw e (unless_then n (reading o []) _ o refl)

pub order_again :
    (lim : Limits) (o : Order) → lim.gate < 65536 → lim.own < 65536 → list_refusal lim.gate o.gate ≡ 0 → list_refusal lim.own o.own ≡ 0
    → order_in lim (order_bytes o) ≡ accepted o
order_again lim o g w e f =
    order_back lim o (readable_fits lim.gate o.gate g e) (readable_fits lim.own o.own w f) ∙ rw (e, f) refl

-- What was accepted: A and B of an order sheet, and nothing behind them.
order_lists : (lim : Limits) (s : List ℕ) (o : Order) → order_in lim s ≡ accepted o → lists_in lim s ≡ accepted (reading o [])
unfolding order_in
order_lists lim s o e =
    let a = through (lists_in lim s) _ o e in
    let b = ended_accepted a.value a.value.value o a.then in
    a.first ∙ (λ i. accepted (reading (b.0 i) (b.1 i)))

module _ (lim : Limits) (s : List ℕ) (o : Order) (e : order_in lim s ≡ accepted o) where
  pub order_readable : (list_refusal lim.gate o.gate ≡ 0) × (list_refusal lim.own o.own ≡ 0)
  order_readable = lists_readable lim s (reading o []) (order_lists lim s o e)

  -- What reads well is what would be written.
  pub order_written_back : Each Byte s → order_bytes o ≡ s
  order_written_back b = sym (append-nil (order_bytes o)) ∙ lists_written_back lim s (reading o []) (order_lists lim s o e) b

-- The same of a list by itself.
pub list_back : (most : ℕ) (l : List Rule) → ListFits l → list_in most (list_bytes l) ≡ unless (list_refusal most l) l
unfolding list_in
list_back most l h =
    let e : section most (list_bytes l) ≡ unless (list_refusal most l) (reading l []) = rw append-nil at (section_back most l [] h.rules h.count) in
    rw e (unless_then (list_refusal most l) (reading l []) _ l refl)

pub list_again : (most : ℕ) (l : List Rule) → most < 65536 → list_refusal most l ≡ 0 → list_in most (list_bytes l) ≡ accepted l
list_again most l h e = list_back most l (readable_fits most l h e) ∙ rw e refl

list_section : (most : ℕ) (s : List ℕ) (l : List Rule) → list_in most s ≡ accepted l → section most s ≡ accepted (reading l [])
unfolding list_in
list_section most s l e =
    let a = through (section most s) _ l e in
    let b = ended_accepted a.value a.value.value l a.then in
    a.first ∙ (λ i. accepted (reading (b.0 i) (b.1 i)))

module _ (most : ℕ) (s : List ℕ) (l : List Rule) (e : list_in most s ≡ accepted l) where
  pub list_readable : list_refusal most l ≡ 0
  list_readable = (section_good most s (reading l []) (list_section most s l e)).list

  pub list_written_back : Each Byte s → list_bytes l ≡ s
  list_written_back b = sym (append-nil (list_bytes l)) ∙ section_written_back most s (reading l []) b (list_section most s l e)
