-- Whose rule decides: of a moved pair, where the old gate list drops a packet, the first box of the very rule that decided there; where
-- it does not, the own rules. Assumes nothing.
use mathlib.Core.Path.{◌≡◌, refl, ap, sym, ◌∙◌}
use mathlib.Core.List.{List, [], ◌∷◌, ◌++◌, map}
use mathlib.Core.Bool.{Bool, true, false, cond, not, ◌&&◌, ◌||◌, true≢false, false≢true}
use Prim.Native.Nat.{ℕ, zero, suc, ◌+◌, ◌<◌, ◌≤◌}
use native.Mathlib.Omega.{arith}
use lib.Dec.{ltb}
use lib.ListN.{length, get_or, take, length-append}
use borrow.Author.Tests.{ltb-true, ltb-false}
use Rattle.lists.specs.Lists.{Each}
use Rattle.lists.proofs.Tests.{or_false}
use Rattle.lists.proofs.Lists.{each_append}
use Rattle.policy.specs.Fields.{highest}
use Rattle.policy.specs.Ranges.{Region, Packet, inside, Whole}
use Rattle.policy.specs.Rules.{Rule, rule, is_allow, found, nothing, first_from, first, drops, denies}
use Rattle.policy.specs.Cut.{group, any_has}
use Rattle.policy.specs.Refusals.{rules_refusal}
use Rattle.policy.specs.Move.{anew, start_of, slots, boxes_of, together, Order, moved, denials, cell_list}
use Rattle.policy.specs.Demands.{group_at}
use Rattle.policy.specs.Origins.{gate_rule, place_of, HasOrigin}
use Rattle.policy.specs.Steps.{box_number, regions}
use Rattle.policy.proofs.Moves.{Starts, rule_proper, proper_whole, rules_refusal-cons, any_append, group_has, alone_hits, boxes_cover_what_the_gate_dropped}

-- a box that has the packet has a number
pub number_there : (p : Packet) (bs : List Region) → any_has p bs ≡ true → box_number p bs < length bs
unfolding box_number any_has
number_there p [] h = absurd (false≢true h)
number_there p (b ∷ bs) h = go (inside p b) h (number_there p bs)
  where
    go : (t : Bool) → (t || any_has p bs) ≡ true → (any_has p bs ≡ true → box_number p bs < length bs) → cond t 0 (suc (box_number p bs)) < suc (length bs)
    go true h k = omega arith
    go false h k = let i = k h in omega arith

pub number_has : (p : Packet) (bs : List Region) → box_number p bs < length bs → inside p (get_or bs (box_number p bs) []) ≡ true
unfolding box_number
number_has p [] h = absurd (omega arith)
number_has p (b ∷ bs) h = go (inside p b) refl h (number_has p bs)
  where
    go : (t : Bool) → inside p b ≡ t → cond t 0 (suc (box_number p bs)) < suc (length bs) → (box_number p bs < length bs → inside p (get_or bs (box_number p bs) []) ≡ true)
        → inside p (get_or (b ∷ bs) (cond t 0 (suc (box_number p bs))) []) ≡ true
    go true e h k = e
    go false e h k = k (omega arith)

-- boxes as deny rules before a list: the first box that has the packet decides, and where none has, the list
denials_first : (n : ℕ) (p : Packet) (bs : List Region) (l : List Rule)
    → first_from n p (denials bs ++ l) ≡ cond (any_has p bs) (found (n + box_number p bs) 0) (first_from (n + length bs) p l)
unfolding first_from denials any_has box_number
denials_first n p [] l = let e : n + 0 ≡ n = omega arith in rw e
denials_first n p (b ∷ bs) l = go (inside p b) (denials_first (suc n) p bs l)
  where
    go : (t : Bool) → first_from (suc n) p (denials bs ++ l) ≡ cond (any_has p bs) (found (suc n + box_number p bs) 0) (first_from (suc n + length bs) p l)
        → cond t (found n 0) (first_from (suc n) p (denials bs ++ l)) ≡ cond (t || any_has p bs) (found (n + cond t 0 (suc (box_number p bs))) 0) (first_from (n + suc (length bs)) p l)
    go true h = ap (λ (k : ℕ). found k 0) (omega arith)
    go false h =
        let e : n + suc (box_number p bs) ≡ suc n + box_number p bs = omega arith in
        let f : n + suc (length bs) ≡ suc n + length bs = omega arith in
        rw (e, f) h

number_append : (p : Packet) (l k : List Region) → box_number p (l ++ k) ≡ cond (any_has p l) (box_number p l) (length l + box_number p k)
unfolding box_number any_has
number_append p [] k = omega arith
number_append p (b ∷ l) k = go (inside p b) (any_has p l) (number_append p l k)
  where
    go : (t u : Bool) → box_number p (l ++ k) ≡ cond u (box_number p l) (length l + box_number p k)
        → cond t 0 (suc (box_number p (l ++ k))) ≡ cond (t || u) (cond t 0 (suc (box_number p l))) (suc (length l) + box_number p k)
    go true u h = refl
    go false true h = ap suc h
    go false false h = omega arith

-- the first box that has the packet lies in the first group that has one
number_together : (p : Packet) (gs : List (List Region)) (k : ℕ) → any_has p (together (take k gs)) ≡ false → any_has p (get_or gs k []) ≡ true
    → (any_has p (together gs) ≡ true) × (box_number p (together gs) ≡ length (together (take k gs)) + box_number p (get_or gs k []))
unfolding together any_has
number_together p [] zero h e = absurd (false≢true e)
number_together p [] (suc k) h e = absurd (false≢true e)
number_together p (g ∷ gs) zero h e = (rw (any_append p g (together gs), e) refl, rw (number_append p g (together gs), e) (omega arith))
number_together p (g ∷ gs) (suc k) h e =
    let f = or_false (any_has p g) (any_has p (together (take k gs))) (sym (any_append p g (together (take k gs))) ∙ h) in
    let i = number_together p gs k f.1 e in
    let n = length-append g (together (take k gs)) in
    (rw (any_append p g (together gs), f.0) i.0, rw (number_append p g (together gs), f.0) (omega arith))

-- First match by the number of the first rule whose box has the packet.
pub first_found : (n : ℕ) (p : Packet) (l : List Rule) (d : Rule) → box_number p (regions l) < length l
    → first_from n p l ≡ found (n + box_number p (regions l)) (get_or l (box_number p (regions l)) d).action
unfolding first_from box_number
first_found n p [] d h = absurd (omega arith)
first_found n p (r ∷ l) d h = go (inside p r.region) h (first_found (suc n) p l d)
  where
    go : (t : Bool) → cond t 0 (suc (box_number p (regions l))) < suc (length l)
        → (box_number p (regions l) < length l → first_from (suc n) p l ≡ found (suc n + box_number p (regions l)) (get_or l (box_number p (regions l)) d).action)
        → cond t (found n r.action) (first_from (suc n) p l) ≡ found (n + cond t 0 (suc (box_number p (regions l)))) (get_or (r ∷ l) (cond t 0 (suc (box_number p (regions l)))) d).action
    go true h k = ap (λ (m : ℕ). found m r.action) (omega arith)
    go false h k = k (omega arith) ∙ ap (λ (m : ℕ). found m (get_or l (box_number p (regions l)) d).action) (omega arith)

pub first_nothing : (n : ℕ) (p : Packet) (l : List Rule) → length l ≤ box_number p (regions l) → first_from n p l ≡ nothing
unfolding first_from box_number
first_nothing n p [] h = refl
first_nothing n p (r ∷ l) h = go (inside p r.region) h (first_nothing (suc n) p l)
  where
    go : (t : Bool) → suc (length l) ≤ cond t 0 (suc (box_number p (regions l))) → (length l ≤ box_number p (regions l) → first_from (suc n) p l ≡ nothing)
        → cond t (found n r.action) (first_from (suc n) p l) ≡ nothing
    go true h k = absurd (omega arith)
    go false h k = k (omega arith)

-- what first match found, as the number
pub record Numbered (n : ℕ) (p : Packet) (l : List Rule) (d : Rule) (k a : ℕ) : Type 0 where
  pub place : k ≡ n + box_number p (regions l)
  pub there : box_number p (regions l) < length l
  pub action : (get_or l (box_number p (regions l)) d).action ≡ a

pub found_number : (n : ℕ) (p : Packet) (l : List Rule) (d : Rule) (k a : ℕ) → first_from n p l ≡ found k a → Numbered n p l d k a
found_number n p l d k a e = go (ltb (box_number p (regions l)) (length l)) refl
  where
    go : (t : Bool) → ltb (box_number p (regions l)) (length l) ≡ t → Numbered n p l d k a
    go true h =
        let b = ltb-true (box_number p (regions l)) (length l) h in
        let f : found (n + box_number p (regions l)) (get_or l (box_number p (regions l)) d).action ≡ found k a = sym (first_found n p l d b) ∙ e in
        record { place = cc; there = b; action = cc }
    go false h =
        let f : nothing ≡ found k a = sym (first_nothing n p l (ltb-false (box_number p (regions l)) (length l) h)) ∙ e in
        let z : ◌≡◌ {A = ℕ} 0 1 = cc in
        absurd (omega arith)

-- Where a deny rule decides, no group before its own has the packet, and its own has it exactly if the start takes it.
abbrev InGroup : Packet → List (List Region) → ℕ → Bool → Type 0
InGroup p gs k to = (any_has p (together (take k gs)) ≡ false) × (any_has p (get_or gs k []) ≡ to)

decided_in : (f : Region → List Region) (to : Bool) (p : Packet) (before : List Region) (l : List Rule) (d : Rule)
    → Starts p f to → Each Whole before → any_has p before ≡ false → rules_refusal l ≡ 0
    → box_number p (regions l) < length l → is_allow (get_or l (box_number p (regions l)) d) ≡ false
    → InGroup p (map boxes_of (slots f before l)) (denies (take (box_number p (regions l)) l)) to
unfolding box_number slots boxes_of denies together any_has Each
decided_in f to p before [] d st w none clean h deny = absurd (omega arith)
decided_in f to p before (r ∷ l) d st w none clean h deny =
    let z = rules_refusal-cons r l clean in
    let v = proper_whole highest r.region (rule_proper r z.0) in
    go (inside p r.region) refl (is_allow r) refl (box_number p (regions l)) h deny
    (λ e. decided_in f to p (before ++ (r.region ∷ [])) l d st (each_append Whole before (r.region ∷ []) w (v, tt)) (any_append p before (r.region ∷ []) ∙ rw (none, e)) z.1)
    (decided_in f to p before l d st w none z.1)
    (group_has f to p before r.region st w)
  where
    taken : (t : Bool) → ((true && t) && not false) ≡ t
    taken true = refl
    taken false = refl

    go : (u : Bool) → inside p r.region ≡ u → (a : Bool) → is_allow r ≡ a → (m : ℕ) → cond u 0 (suc m) < suc (length l) → is_allow (get_or (r ∷ l) (cond u 0 (suc m)) d) ≡ false
        → (inside p r.region ≡ false → m < length l → is_allow (get_or l m d) ≡ false → InGroup p (map boxes_of (slots f (before ++ (r.region ∷ [])) l)) (denies (take m l)) to)
        → (m < length l → is_allow (get_or l m d) ≡ false → InGroup p (map boxes_of (slots f before l)) (denies (take m l)) to)
        → any_has p (group (f r.region) before) ≡ ((inside p r.region && to) && not (any_has p before))
        → InGroup p (map boxes_of (cond a (slots f (before ++ (r.region ∷ [])) l) (anew (f r.region) before ∷ slots f before l))) (denies (take (cond u 0 (suc m)) (r ∷ l))) to
    go true i true e m h k allowed denied has = absurd (true≢false (sym e ∙ k))
    go true i false e m h k allowed denied has = (refl, has ∙ rw (i, none) (taken to))
    go false i true e m h k allowed denied has = rw e (allowed i (omega arith) k)
    go false i false e m h k allowed denied has =
        let q : any_has p (group (f r.region) before) ≡ false = has ∙ rw i refl in
        let g = denied (omega arith) k in
        rw e (any_append p (group (f r.region) before) (together (take (denies (take m l)) (map boxes_of (slots f before l)))) ∙ rw q g.0, g.1)

module _ (o : Order) (p : Packet) (clean : rules_refusal o.gate ≡ 0) where
  -- The gate did not drop the packet: the own rules decide.
  pub own_decides : drops p o.gate ≡ false → first p (cell_list (moved o)) ≡ first_from (length (together (moved o).groups)) p o.own
  own_decides e =
      denials_first 0 p (together (moved o).groups) o.own ∙ rw (boxes_cover_what_the_gate_dropped o p clean, e)
      (ap (λ (k : ℕ). first_from k p o.own) (omega arith))

  -- The gate dropped it by the rule at a place: the first box of that rule's group that has it decides.
  module _ (j : ℕ) (dropped : first p o.gate ≡ found j 0) where
    rule_there : Numbered 0 p o.gate (rule [] 0) j 0
    rule_there = found_number 0 p o.gate (rule [] 0) j 0 dropped

    number_is : box_number p (regions o.gate) ≡ j
    number_is = omega (arith, rule_there.place)

    deny : is_allow (get_or o.gate (box_number p (regions o.gate)) (rule [] 0)) ≡ false
    deny = rw rule_there.action refl

    in_group : InGroup p (moved o).groups (denies (take j o.gate)) true
    unfolding any_has Each
    in_group = rw number_is at (decided_in (start_of o) true p [] o.gate (rule [] 0) (alone_hits p) tt refl clean rule_there.there deny)

    pub box_there : HasOrigin (moved o) (gate_rule j (box_number p (group_at (moved o) j)))
    unfolding HasOrigin
    box_there = (omega (arith, number_is, rule_there.there), rw number_is at deny, number_there p (group_at (moved o) j) in_group.1)

    pub box_decides : first p (cell_list (moved o)) ≡ found (place_of (moved o) (gate_rule j (box_number p (group_at (moved o) j)))) 0
    unfolding place_of
    box_decides =
        let n = number_together p (moved o).groups (denies (take j o.gate)) in_group.0 in_group.1 in
        denials_first 0 p (together (moved o).groups) o.own ∙ rw n.0 (ap (λ (k : ℕ). found k 0) (omega (arith, n.1)))
