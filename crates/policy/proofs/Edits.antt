-- Demand 3 on lists: an edit of a freshly moved pair answers and gives what a fresh move of the edited lists does.
-- Assumes nothing.
use mathlib.Core.Path.{◌≡◌, refl, ap, sym, ◌∙◌}
use mathlib.Core.List.{List, [], ◌∷◌, ◌++◌, map, append_assoc}
use mathlib.Core.Bool.{Bool, true, false, cond, not, ◌||◌, true≢false}
use Prim.Native.Nat.{ℕ, suc, ◌+◌}
use lib.ListN.{length, take, drop, length-append, length-map}
use lib.Seq.{take_at, drop_at}
use borrow.Author.Tests.{not-false}
use Rattle.lists.proofs.Tests.{or_false, or_assoc}
use Rattle.lists.proofs.Lists.{map-append, append-none, three-parts}
use Rattle.policy.specs.Fields.{Limits}
use Rattle.policy.specs.Ranges.{Region}
use Rattle.policy.specs.Rules.{Rule, is_allow, sound, complete, denies, allows_in, any_allow}
use Rattle.policy.specs.Refusals.{given, or_else, rules_refusal}
use Rattle.policy.specs.Move.{Slot, kept, anew, start_of, slots, slots_of, boxes_of, over_slot, any_over, together, work, room, Order, moved, bad_count}
use Rattle.policy.proofs.Refused.{list_refusal, move_refusal}
use Rattle.policy.specs.Edit.{Kind, out, put, front, gone, back, changed, around, gate_slots, Edit, new_order, new_slots, edited, change_refusal}
use Rattle.policy.proofs.Numbers.{or_else_zero, or_else_skip, or_else-none, or_else_assoc, given_zero}

-- slots of a list in two parts
pub slots-append : (f : Region → List Region) (before : List Region) (x y : List Rule) → slots f before (x ++ y) ≡ slots f before x ++ slots f (before ++ allows_in x) y
unfolding slots allows_in
slots-append f before [] y = rw (append-none before)
slots-append f before (r ∷ x) y = go (is_allow r) (slots-append f (before ++ (r.region ∷ [])) x y) (slots-append f before x y)
  where
    go : (t : Bool)
        → slots f (before ++ (r.region ∷ [])) (x ++ y) ≡ slots f (before ++ (r.region ∷ [])) x ++ slots f ((before ++ (r.region ∷ [])) ++ allows_in x) y
        → slots f before (x ++ y) ≡ slots f before x ++ slots f (before ++ allows_in x) y
        → cond t (slots f (before ++ (r.region ∷ [])) (x ++ y)) (anew (f r.region) before ∷ slots f before (x ++ y))
        ≡ cond t (slots f (before ++ (r.region ∷ [])) x) (anew (f r.region) before ∷ slots f before x) ++ slots f (before ++ cond t (r.region ∷ allows_in x) (allows_in x)) y
    go true h k = h ∙ rw (append_assoc before (r.region ∷ []) (allows_in x))
    go false h k = ap (λ (l : List Slot). anew (f r.region) before ∷ l) k

pub slots_length : (f : Region → List Region) (before : List Region) (l : List Rule) → length (slots f before l) ≡ denies l
unfolding slots denies
slots_length f before [] = refl
slots_length f before (r ∷ l) = go (is_allow r) (slots_length f (before ++ (r.region ∷ [])) l) (slots_length f before l)
  where
    go : (t : Bool) → length (slots f (before ++ (r.region ∷ [])) l) ≡ denies l → length (slots f before l) ≡ denies l
        → length (cond t (slots f (before ++ (r.region ∷ [])) l) (anew (f r.region) before ∷ slots f before l)) ≡ cond t (denies l) (suc (denies l))
    go true h k = h
    go false h k = ap suc k

abbrev boxes : (Region → List Region) → List Region → List Rule → List (List Region)
boxes f before l = map boxes_of (slots f before l)

boxes-length : (f : Region → List Region) (before : List Region) (l : List Rule) → length (boxes f before l) ≡ denies l
boxes-length f before l = length-map (slots f before l) boxes_of ∙ slots_length f before l

pub no_allow : (l : List Rule) → any_allow l ≡ false → allows_in l ≡ []
unfolding any_allow allows_in
no_allow [] h = refl
no_allow (r ∷ l) h = go (is_allow r) refl (λ (k : any_allow l ≡ false). no_allow l k) h
  where
    go : (t : Bool) → is_allow r ≡ t → (any_allow l ≡ false → allows_in l ≡ []) → (t || any_allow l) ≡ false → cond t (r.region ∷ allows_in l) (allows_in l) ≡ []
    go true e ih k = absurd (true≢false k)
    go false e ih k = ih k

pub kept_boxes : (gs : List (List Region)) → map boxes_of (map kept gs) ≡ gs
unfolding boxes_of
kept_boxes [] = refl
kept_boxes (g ∷ gs) = ap (λ (l : List (List Region)). g ∷ l) (kept_boxes gs)

pub kept_over : (m : ℕ) (gs : List (List Region)) → any_over m (map kept gs) ≡ false
unfolding any_over over_slot
kept_over m [] = refl
kept_over m (g ∷ gs) = kept_over m gs

pub over-append : (m : ℕ) (x y : List Slot) → any_over m (x ++ y) ≡ (any_over m x || any_over m y)
unfolding any_over
over-append m [] y = refl
over-append m (s ∷ x) y = rw (over-append m x y) (or_assoc (over_slot m s) (any_over m x) (any_over m y))

pub rules_refusal-append : (x y : List Rule) → rules_refusal (x ++ y) ≡ or_else (rules_refusal x) (rules_refusal y)
unfolding rules_refusal
rules_refusal-append [] y = refl
rules_refusal-append (r ∷ x) y = rw (rules_refusal-append x y) (sym (or_else_assoc (given (not (sound r)) 4) (rules_refusal x) (rules_refusal y)))

pub together-append : (x y : List (List Region)) → together (x ++ y) ≡ together x ++ together y
unfolding together
together-append [] y = refl
together-append (g ∷ x) y = rw (together-append x y) (sym (append_assoc g (together x) (together y)))

pub allows_in-append : (x y : List Rule) → allows_in (x ++ y) ≡ allows_in x ++ allows_in y
unfolding allows_in
allows_in-append [] y = refl
allows_in-append (r ∷ x) y = go (is_allow r) (allows_in-append x y)
  where
    go : (t : Bool) → allows_in (x ++ y) ≡ allows_in x ++ allows_in y
        → cond t (r.region ∷ allows_in (x ++ y)) (allows_in (x ++ y)) ≡ cond t (r.region ∷ allows_in x) (allows_in x) ++ allows_in y
    go true h = ap (λ (l : List Region). r.region ∷ l) h
    go false h = h

-- the slots and the groups of a list in three parts
slots_three : (f : Region → List Region) (x m y : List Rule) → slots f [] (x ++ (m ++ y)) ≡ slots f [] x ++ (slots f (allows_in x) m ++ slots f (allows_in x ++ allows_in m) y)
slots_three f x m y = slots-append f [] x (m ++ y) ∙ ap (λ (l : List Slot). slots f [] x ++ l) (slots-append f (allows_in x) m y)

groups_three : (f : Region → List Region) (x m y : List Rule) → boxes f [] (x ++ (m ++ y)) ≡ boxes f [] x ++ (boxes f (allows_in x) m ++ boxes f (allows_in x ++ allows_in m) y)
groups_three f x m y =
    ap (λ (l : List Slot). map boxes_of l) (slots_three f x m y)
    ∙ map-append boxes_of (slots f [] x) (slots f (allows_in x) m ++ slots f (allows_in x ++ allows_in m) y)
    ∙ ap (λ (l : List (List Region)). boxes f [] x ++ l) (map-append boxes_of (slots f (allows_in x) m) (slots f (allows_in x ++ allows_in m) y))

-- the groups in front of the place, and those behind it
groups_before : (f : Region → List Region) (x m y : List Rule) → take (denies x) (boxes f [] (x ++ (m ++ y))) ≡ boxes f [] x
groups_before f x m y =
    rw (groups_three f x m y) (take_at (boxes f [] x) (boxes f (allows_in x) m ++ boxes f (allows_in x ++ allows_in m) y) (denies x) (boxes-length f [] x))

groups_after : (f : Region → List Region) (x m y : List Rule) → drop (denies x + denies m) (boxes f [] (x ++ (m ++ y))) ≡ boxes f (allows_in x ++ allows_in m) y
groups_after f x m y =
    rw (groups_three f x m y, ← append_assoc (boxes f [] x) (boxes f (allows_in x) m) (boxes f (allows_in x ++ allows_in m) y))
    (drop_at (boxes f [] x ++ boxes f (allows_in x) m) (boxes f (allows_in x ++ allows_in m) y) (denies x + denies m)
    (length-append (boxes f [] x) (boxes f (allows_in x) m) ∙ rw (boxes-length f [] x, boxes-length f (allows_in x) m)))

-- if neither the rules taken out nor those put in hold an allow, the later rules have the same allows before them
same_before : (x m n : List Rule) → (any_allow m || any_allow n) ≡ false → allows_in x ++ allows_in m ≡ allows_in x ++ allows_in n
same_before x m n h =
    let f = or_false (any_allow m) (any_allow n) h in
    rw (no_allow m f.0, no_allow n f.1)

-- the slots around a change hold the groups of the changed list
pub around_boxes : (f : Region → List Region) (x m n y : List Rule) → map boxes_of (around f x m n y (boxes f [] (x ++ (m ++ y)))) ≡ boxes f [] (x ++ (n ++ y))
unfolding around
around_boxes f x m n y =
    rw (groups_before f x m y, groups_after f x m y, groups_three f x n y, map-append boxes_of (map kept (boxes f [] x)) _, kept_boxes (boxes f [] x), map-append boxes_of (slots f (allows_in x) n) _)
    (ap (λ (l : List (List Region)). boxes f [] x ++ (boxes f (allows_in x) n ++ l)) (go (any_allow m || any_allow n) refl))
  where
    go : (t : Bool) → (any_allow m || any_allow n) ≡ t
        → map boxes_of (cond t (slots f (allows_in x ++ allows_in n) y) (map kept (boxes f (allows_in x ++ allows_in m) y))) ≡ boxes f (allows_in x ++ allows_in n) y
    go true e = refl
    go false e = kept_boxes (boxes f (allows_in x ++ allows_in m) y) ∙ ap (λ (l : List Region). boxes f l y) (same_before x m n e)

-- and exceed the limit exactly if those of the changed list do, where those of the list before did not
over_three : (f : Region → List Region) (q : ℕ) (x m y : List Rule)
    → any_over q (slots f [] (x ++ (m ++ y))) ≡ (any_over q (slots f [] x) || (any_over q (slots f (allows_in x) m) || any_over q (slots f (allows_in x ++ allows_in m) y)))
over_three f q x m y =
    rw (slots_three f x m y, over-append q (slots f [] x) (slots f (allows_in x) m ++ slots f (allows_in x ++ allows_in m) y), over-append q (slots f (allows_in x) m) (slots f (allows_in x ++ allows_in m) y))

pub around_over : (f : Region → List Region) (q : ℕ) (x m n y : List Rule) (gs : List (List Region)) → any_over q (slots f [] (x ++ (m ++ y))) ≡ false
    → any_over q (around f x m n y gs) ≡ any_over q (slots f [] (x ++ (n ++ y)))
unfolding around
around_over f q x m n y gs h =
    let u = or_false (any_over q (slots f [] x)) (any_over q (slots f (allows_in x) m) || any_over q (slots f (allows_in x ++ allows_in m) y)) (sym (over_three f q x m y) ∙ h) in
    let g = or_false (any_over q (slots f (allows_in x) m)) (any_over q (slots f (allows_in x ++ allows_in m) y)) u.1 in
    rw (over_three f q x n y, u.0, over-append q (map kept (take (denies x) gs)) _, kept_over q (take (denies x) gs), over-append q (slots f (allows_in x) n) _)
    (ap (λ (b : Bool). any_over q (slots f (allows_in x) n) || b) (go (any_allow m || any_allow n) refl g.1))
  where
    go : (t : Bool) → (any_allow m || any_allow n) ≡ t → any_over q (slots f (allows_in x ++ allows_in m) y) ≡ false
        → any_over q (cond t (slots f (allows_in x ++ allows_in n) y) (map kept (drop (denies x + denies m) gs))) ≡ any_over q (slots f (allows_in x ++ allows_in n) y)
    go true e k = refl
    go false e k = kept_over q (drop (denies x + denies m) gs) ∙ sym (ap (λ (l : List Region). any_over q (slots f l y)) (sym (same_before x m n e)) ∙ k)

-- a changed list whose rules were sound before is refused as what was put in
pub changed-rules_refusal : (x m n y : List Rule) → rules_refusal (x ++ (m ++ y)) ≡ 0 → rules_refusal (x ++ (n ++ y)) ≡ rules_refusal n
changed-rules_refusal x m n y h =
    let f = or_else_zero (rules_refusal x) (rules_refusal (m ++ y)) (sym (rules_refusal-append x (m ++ y)) ∙ h) in
    let g = or_else_zero (rules_refusal m) (rules_refusal y) (sym (rules_refusal-append m y) ∙ f.1) in
    rw (rules_refusal-append x (n ++ y), rules_refusal-append n y, or_else_skip (rules_refusal x) (or_else (rules_refusal n) (rules_refusal y)) f.0) (or_else-none (rules_refusal n) (rules_refusal y) g.1)

-- what a list that is read without a refusal is
pub list_accepted : (most : ℕ) (l : List Rule) → list_refusal most l ≡ 0 → (rules_refusal l ≡ 0) × (complete l ≡ true)
unfolding list_refusal
list_accepted most l h =
    let f = or_else_zero (given (bad_count most (length l)) 2) (or_else (rules_refusal l) (given (not (complete l)) 5)) h in
    let g = or_else_zero (rules_refusal l) (given (not (complete l)) 5) f.1 in
    (g.0, not-false (complete l) (given_zero (not (complete l)) 4 g.1))

-- what an accepted move says: no refusal in A, none in B, and room
pub record Accepted (lim : Limits) (o : Order) : Type 0 where
  pub gate : list_refusal lim.gate o.gate ≡ 0
  pub own : list_refusal lim.own o.own ≡ 0
  pub room : room lim o (slots_of o) ≡ 0

-- An edit of a freshly moved pair gives the fresh move of the edited lists.
abbrev edit : Bool → ℕ → Kind → Edit
edit b i k = record { in_gate = b; place = i; kind = k }

result : (b : Bool) (i : ℕ) (k : Kind) (o : Order) → edited (edit b i k) (moved o) ≡ moved (new_order (edit b i k) o)
result true i k o =
    let gs = around_boxes (start_of o) (front i o.gate) (gone i k o.gate) (put k) (back i k o.gate) in
    let e = three-parts i (out k) o.gate in
    λ t. record { order = new_order (edit true i k) o; groups = (rw e at gs) t }
result false i k o =
    λ t. record { order = new_order (edit false i k) o; groups = kept_boxes (boxes (start_of o) [] o.gate) t }

pub edit_as_fresh : (e : Edit) (o : Order) → edited e (moved o) ≡ moved (new_order e o)
edit_as_fresh e o = result e.in_gate e.place e.kind o

-- Its refusal is that of the fresh move, after 9.
pub chain_gate : (c f d s r : ℕ) → s ≡ 0 → or_else c (or_else f (or_else d r)) ≡ or_else (or_else c (or_else f d)) (or_else s r)
chain_gate c f d s r h = rw (or_else_skip s r h, or_else_assoc c (or_else f d) r, or_else_assoc f d r)

pub chain_own : (c f d s r : ℕ) → s ≡ 0 → or_else c (or_else f (or_else d r)) ≡ or_else s (or_else (or_else c (or_else f d)) r)
chain_own c f d s r h = rw (or_else_skip s (or_else (or_else c (or_else f d)) r) h, or_else_assoc c (or_else f d) r, or_else_assoc f d r)

module _ (lim : Limits) where
  -- room hangs on the slots only by their boxes and whether one is over
  room_same : (o : Order) (l k : List Slot) → any_over lim.pieces l ≡ any_over lim.pieces k → map boxes_of l ≡ map boxes_of k
      → room lim o l ≡ room lim o k
  unfolding room work
  room_same o l k h e = rw (h, e)

  pub room_light : (o : Order) (l : List Slot) → room lim o l ≡ 0 → any_over lim.pieces l ≡ false
  unfolding room work
  room_light o l h = given_zero (any_over lim.pieces l) 5 (or_else_zero (given (any_over lim.pieces l) 6) _ h).0

  pub move_accepted : (o : Order) → move_refusal lim o ≡ 0 → Accepted lim o
  unfolding move_refusal
  move_accepted o h =
      let f = or_else_zero (list_refusal lim.gate o.gate) (or_else (list_refusal lim.own o.own) (room lim o (slots_of o))) h in
      let g = or_else_zero (list_refusal lim.own o.own) (room lim o (slots_of o)) f.1 in
      record { gate = f.0; own = g.0; room = g.1 }

  refusal : (b : Bool) (i : ℕ) (k : Kind) (o : Order) → Accepted lim o
      → change_refusal lim (edit b i k) (moved o) ≡ move_refusal lim (new_order (edit b i k) o)
  unfolding change_refusal move_refusal list_refusal
  refusal true i k o acc =
      let e = three-parts i (out k) o.gate in
      let x : List Rule = front i o.gate in
      let m : List Rule = gone i k o.gate in
      let y : List Rule = back i k o.gate in
      let new : Order = new_order (edit true i k) o in
      let light : any_over lim.pieces (slots (start_of o) [] (x ++ (m ++ y))) ≡ false = rw e (room_light o (slots_of o) acc.room) in
      let clean : rules_refusal (x ++ (m ++ y)) ≡ 0 = rw e (list_accepted lim.gate o.gate acc.gate).0 in
      let ov = around_over (start_of o) lim.pieces x m (put k) y (boxes (start_of o) [] o.gate) light in
      let bx : map boxes_of (gate_slots (edit true i k) (moved o)) ≡ boxes (start_of o) [] (changed i k o.gate) = rw e at (around_boxes (start_of o) x m (put k) y) in
      rw (room_same new (new_slots (edit true i k) (moved o)) (slots_of new) ov bx, changed-rules_refusal x m (put k) y clean)
      (chain_gate (given (bad_count lim.gate (length (changed i k o.gate))) 2) (rules_refusal (put k)) (given (not (complete (changed i k o.gate))) 5)
      (list_refusal lim.own o.own) (room lim new (slots_of new)) acc.own)
  refusal false i k o acc =
      let e = three-parts i (out k) o.own in
      let new : Order = new_order (edit false i k) o in
      let clean : rules_refusal (front i o.own ++ (gone i k o.own ++ back i k o.own)) ≡ 0 = rw e (list_accepted lim.own o.own acc.own).0 in
      let gs : List (List Region) = boxes (start_of o) [] o.gate in
      rw (
        room_same new (map kept gs) (slots_of new) (kept_over lim.pieces gs ∙ sym (room_light o (slots_of o) acc.room)) (kept_boxes gs),
        changed-rules_refusal (front i o.own) (gone i k o.own) (put k) (back i k o.own) clean,
      )
      (chain_own (given (bad_count lim.own (length (changed i k o.own))) 2) (rules_refusal (put k)) (given (not (complete (changed i k o.own))) 5)
      (list_refusal lim.gate o.gate) (room lim new (slots_of new)) acc.gate)

  pub change_refuses_as_fresh : (e : Edit) (o : Order) → move_refusal lim o ≡ 0 → change_refusal lim e (moved o) ≡ move_refusal lim (new_order e o)
  change_refuses_as_fresh e o h = refusal e.in_gate e.place e.kind o (move_accepted o h)
