-- Demand 2 on lists: the moved pair forwards what the old pair did, and its boxes have what the old gate dropped.
-- Assumes nothing.
use mathlib.Core.Path.{◌≡◌, refl, ap, sym, ◌∙◌}
use mathlib.Core.List.{List, [], ◌∷◌, ◌++◌, map}
use mathlib.Core.Bool.{Bool, true, false, cond, not, ◌&&◌, ◌||◌, true≢false, false≢true}
use Prim.Native.Nat.{ℕ, suc, ◌+◌}
use native.Mathlib.Omega.{arith}
use lib.Dec.{leb, eqb}
use borrow.Author.Tests.{leb-true, eqb-true, not-false}
use Rattle.lists.specs.Lists.{Each, every_both}
use Rattle.lists.proofs.Tests.{and_true, and_both, or_assoc}
use Rattle.lists.proofs.Lists.{each_append}
use Rattle.policy.specs.Fields.{highest}
use Rattle.policy.specs.Ranges.{range, Region, Packet, within, inside, Whole, proper_range, proper, full_range, is_full, full_over}
use Rattle.policy.specs.Rules.{Rule, is_allow, sound, Found, found, nothing, first_from, first, says_allow, says_drop, allows, drops, in_limits, forwards, complete}
use Rattle.policy.specs.Cut.{group, any_has}
use Rattle.policy.specs.Refusals.{given, rules_refusal}
use Rattle.policy.specs.Move.{
  anew,
  start_of,
  slots,
  boxes_of,
  together,
  Order,
  moved,
  denials,
  gate_list,
  cell_list,
}
use Rattle.policy.proofs.Cuts.{one, hits, within_fact, within_true}
use Rattle.policy.proofs.Groups.{any_once, group_each_hits}
use Rattle.policy.proofs.Numbers.{or_else_zero, given_zero}

-- what a sound rule is
pub rule_proper : (r : Rule) → sound r ≡ true → proper highest r.region ≡ true
unfolding sound
rule_proper r h = (and_true (proper highest r.region) (leb r.action 1) h).0

pub rules_refusal-cons : (r : Rule) (l : List Rule) → rules_refusal (r ∷ l) ≡ 0 → (sound r ≡ true) × (rules_refusal l ≡ 0)
unfolding rules_refusal
rules_refusal-cons r l h =
    let f = or_else_zero (given (not (sound r)) 4) (rules_refusal l) h in
    (not-false (sound r) (given_zero (not (sound r)) 3 f.0), f.1)

pub proper_whole : (hs : List ℕ) (b : Region) → proper hs b ≡ true → Whole b
unfolding every_both Whole
proper_whole [] [] h = tt
proper_whole [] (r ∷ b) h = absurd (false≢true h)
proper_whole (x ∷ hs) [] h = tt
proper_whole (x ∷ hs) (r ∷ b) h =
    let f = and_true (proper_range x r) (proper hs b) h in
    let g = and_true (leb r.low r.high) (leb r.high x) f.0 in
    (leb-true r.low r.high g.0, proper_whole hs b f.1)

pub proper_inside : (hs : List ℕ) (p : Packet) (b : Region) → proper hs b ≡ true → inside p b ≡ true → inside p (full_over hs) ≡ true
unfolding every_both inside full_over
proper_inside [] p [] h k = k
proper_inside [] p (r ∷ b) h k = absurd (false≢true h)
proper_inside (x ∷ hs) p [] h k = absurd (false≢true h)
proper_inside (x ∷ hs) [] (r ∷ b) h k = k
proper_inside (x ∷ hs) (v ∷ p) (r ∷ b) h k =
    let f = and_true (proper_range x r) (proper hs b) h in
    let j = leb-true r.high x (and_true (leb r.low r.high) (leb r.high x) f.0).1 in
    let w = and_true (within v r) (inside p b) k in
    let e = within_fact v r w.0 in
    and_both (within v (range 0 x)) (inside p (full_over hs)) (within_true v (range 0 x) (omega arith) (omega arith)) (proper_inside hs p b f.1 w.1)

pub full_eq : (hs : List ℕ) (b : Region) → is_full hs b ≡ true → b ≡ full_over hs
unfolding every_both full_over
full_eq [] [] h = refl
full_eq [] (r ∷ b) h = absurd (false≢true h)
full_eq (x ∷ hs) [] h = absurd (false≢true h)
full_eq (x ∷ hs) (r ∷ b) h =
    let f = and_true (full_range x r) (is_full hs b) h in
    let g = and_true (eqb r.low 0) (eqb r.high x) f.0 in
    let e = eqb-true r.low 0 g.0 in
    let j = eqb-true r.high x g.1 in
    let i = full_eq hs b f.1 in
    λ t. record { low = e t; high = j t } ∷ i t

-- No sound rule has a packet that is outside the limits.
pub above_from : (p : Packet) (l : List Rule) (n : ℕ) → rules_refusal l ≡ 0 → in_limits p ≡ false → first_from n p l ≡ nothing
unfolding rules_refusal first_from
above_from p [] n h k = refl
above_from p (r ∷ l) n h k =
    let f = rules_refusal-cons r l h in
    go (inside p r.region) refl (above_from p l (suc n) f.1 k) (rule_proper r f.0)
  where
    go : (t : Bool) → inside p r.region ≡ t → first_from (suc n) p l ≡ nothing → proper highest r.region ≡ true
        → cond t (found n r.action) (first_from (suc n) p l) ≡ nothing
    go false e ih q = ih
    go true e ih q = absurd (true≢false (sym (proper_inside highest p r.region q e) ∙ k))

-- A complete list allows, of the packets inside the limits, exactly what it does not drop.
not_not : (t : Bool) → t ≡ not (not t)
not_not true = refl
not_not false = refl

pub complete_allows : (p : Packet) (l : List Rule) (n : ℕ) → rules_refusal l ≡ 0 → complete l ≡ true
    → says_allow (first_from n p l) ≡ (in_limits p && not (says_drop (first_from n p l)))
unfolding rules_refusal first_from complete
complete_allows p [] n h k = absurd (false≢true k)
complete_allows p (r ∷ []) n h k =
    let e = ap (inside p) (full_eq highest r.region k) in
    rw e (go (in_limits p))
  where
    go : (t : Bool) → says_allow (cond t (found n r.action) nothing) ≡ (t && not (says_drop (cond t (found n r.action) nothing)))
    go true = not_not (eqb r.action 1)
    go false = refl
complete_allows p (r ∷ (s ∷ l)) n h k =
    let f = rules_refusal-cons r (s ∷ l) h in
    go (inside p r.region) refl (first_from (suc n) p (s ∷ l)) (complete_allows p (s ∷ l) (suc n) f.1 k) (rule_proper r f.0)
  where
    go : (t : Bool) → inside p r.region ≡ t → (x : Found) → says_allow x ≡ (in_limits p && not (says_drop x)) → proper highest r.region ≡ true
        → says_allow (cond t (found n r.action) x) ≡ (in_limits p && not (says_drop (cond t (found n r.action) x)))
    go true e x ih q = rw (proper_inside highest p r.region q e) (not_not (eqb r.action 1))
    go false e x ih q = ih

-- A packet that no rule of a complete list has is outside the limits.
pub nothing_above : (p : Packet) (l : List Rule) (n : ℕ) → rules_refusal l ≡ 0 → complete l ≡ true → first_from n p l ≡ nothing → in_limits p ≡ false
nothing_above p l n h k e = go (in_limits p) (ap says_allow (sym e) ∙ (complete_allows p l n h k ∙ ap (λ (x : Found). in_limits p && not (says_drop x)) e))
  where
    go : (t : Bool) → false ≡ (t && true) → t ≡ false
    go true h = sym h
    go false h = refl

pub any_append : (p : Packet) (l k : List Region) → any_has p (l ++ k) ≡ (any_has p l || any_has p k)
unfolding any_has
any_append p [] k = refl
any_append p (b ∷ l) k = rw (any_append p l k) (or_assoc (inside p b) (any_has p l) (any_has p k))

-- a start has a packet of the deny box once if a test of the packet holds
abbrev pub Starts : Packet → (Region → List Region) → Bool → Type 0
Starts p f to = (d : Region) → hits p (f d) ≡ one (inside p d && to)

-- a group has a packet of the deny box exactly if the start takes it and no allow has it
pub group_has : (f : Region → List Region) (to : Bool) (p : Packet) (allows : List Region) (d : Region) → Starts p f to → Each Whole allows
    → any_has p (group (f d) allows) ≡ ((inside p d && to) && not (any_has p allows))
group_has f to p allows d st w =
    any_once p (group (f d) allows) ((inside p d && to) && not (any_has p allows)) (group_each_hits p (f d) allows w ∙ rw (st d) (less (inside p d && to) (any_has p allows)))
  where
    less : (u x : Bool) → cond x 0 (one u) ≡ one (u && not x)
    less true true = refl
    less true false = refl
    less false true = refl
    less false false = refl

-- the boxes of the slots have a packet exactly if no earlier allow has it, the start takes it and the rest of the list drops it
pub slots_cover : (f : Region → List Region) (to : Bool) (p : Packet) (before : List Region) (l : List Rule) (n : ℕ) → Starts p f to → Each Whole before → rules_refusal l ≡ 0
    → any_has p (together (map boxes_of (slots f before l))) ≡ (not (any_has p before) && (to && says_drop (first_from n p l)))
unfolding slots together boxes_of first_from rules_refusal any_has Each
slots_cover f to p before [] n st w h = go (any_has p before) to
  where
    go : (t u : Bool) → false ≡ (not t && (u && false))
    go true u = refl
    go false true = refl
    go false false = refl
slots_cover f to p before (r ∷ l) n st w h =
    let z = rules_refusal-cons r l h in
    let v = proper_whole highest r.region (rule_proper r z.0) in
    go (is_allow r) refl (inside p r.region) refl
    (slots_cover f to p (before ++ (r.region ∷ [])) l (suc n) st (each_append Whole before (r.region ∷ []) w (v, tt)) z.1)
    (slots_cover f to p before l (suc n) st w z.1)
    (group_has f to p before r.region st w)
  where
    left : (x u t d : Bool) → (not (x || (u || false)) && (t && d)) ≡ (not x && (t && cond u false d))
    left true u t d = refl
    left false true true d = refl
    left false true false d = refl
    left false false t d = refl

    right : (x u t d : Bool) → ((u && t) && not x || (not x && (t && d))) ≡ (not x && (t && cond u true d))
    right true true true d = refl
    right true true false d = refl
    right true false t d = refl
    right false true true d = refl
    right false true false d = refl
    right false false t d = refl

    go : (a : Bool) → is_allow r ≡ a → (u : Bool) → inside p r.region ≡ u
        → any_has p (together (map boxes_of (slots f (before ++ (r.region ∷ [])) l))) ≡ (not (any_has p (before ++ (r.region ∷ []))) && (to && says_drop (first_from (suc n) p l)))
        → any_has p (together (map boxes_of (slots f before l))) ≡ (not (any_has p before) && (to && says_drop (first_from (suc n) p l)))
        → any_has p (group (f r.region) before) ≡ ((inside p r.region && to) && not (any_has p before))
        → any_has p (together (map boxes_of (cond a (slots f (before ++ (r.region ∷ [])) l) (anew (f r.region) before ∷ slots f before l))))
        ≡ (not (any_has p before) && (to && says_drop (cond u (found n r.action) (first_from (suc n) p l))))
    go true e true i h1 h2 h3 = h1 ∙ rw (any_append p before (r.region ∷ []), i, e) (left (any_has p before) true to (says_drop (first_from (suc n) p l)))
    go true e false i h1 h2 h3 = h1 ∙ rw (any_append p before (r.region ∷ []), i) (left (any_has p before) false to (says_drop (first_from (suc n) p l)))
    go false e true i h1 h2 h3 =
        rw (any_append p (group (f r.region) before) (together (map boxes_of (slots f before l))), h3, i, h2, e)
        (right (any_has p before) true to (says_drop (first_from (suc n) p l)))
    go false e false i h1 h2 h3 =
        rw (any_append p (group (f r.region) before) (together (map boxes_of (slots f before l))), h3, i, h2)
        (right (any_has p before) false to (says_drop (first_from (suc n) p l)))

-- a group that starts with the box alone
pub alone_hits : (p : Packet) → Starts p (λ (d : Region). d ∷ []) true
unfolding hits
alone_hits p d = go (inside p d)
  where
    go : (t : Bool) → one t + 0 ≡ one (t && true)
    go true = refl
    go false = refl

-- The boxes cover exactly what the old gate dropped.
pub boxes_cover_what_the_gate_dropped : (o : Order) (p : Packet) → rules_refusal o.gate ≡ 0 → any_has p (together (moved o).groups) ≡ drops p o.gate
unfolding any_has Each
boxes_cover_what_the_gate_dropped o p h = slots_cover (start_of o) true p [] o.gate 0 (alone_hits p) tt h

-- whether a list allows does not hang on the place that counting starts from
allow_any : (p : Packet) (l : List Rule) (m n : ℕ) → says_allow (first_from m p l) ≡ says_allow (first_from n p l)
unfolding first_from
allow_any p [] m n = refl
allow_any p (r ∷ l) m n = go (inside p r.region) (allow_any p l (suc m) (suc n))
  where
    go : (t : Bool) → says_allow (first_from (suc m) p l) ≡ says_allow (first_from (suc n) p l)
        → says_allow (cond t (found m r.action) (first_from (suc m) p l)) ≡ says_allow (cond t (found n r.action) (first_from (suc n) p l))
    go true h = refl
    go false h = h

-- boxes as deny rules before a list
pub denials_allow : (p : Packet) (bs : List Region) (l : List Rule) (n : ℕ) → says_allow (first_from n p (denials bs ++ l)) ≡ (not (any_has p bs) && allows p l)
unfolding first_from denials any_has
denials_allow p [] l n = allow_any p l n 0
denials_allow p (b ∷ bs) l n = go (inside p b) (denials_allow p bs l (suc n))
  where
    go : (t : Bool) → says_allow (first_from (suc n) p (denials bs ++ l)) ≡ (not (any_has p bs) && allows p l)
        → says_allow (cond t (found n 0) (first_from (suc n) p (denials bs ++ l))) ≡ (not (t || any_has p bs) && allows p l)
    go true h = refl
    go false h = h

-- The moved pair forwards each packet exactly if the old pair did.
pub moved_pair_forwards : (o : Order) (p : Packet) → rules_refusal o.gate ≡ 0 → complete o.gate ≡ true
    → forwards p (gate_list (moved o)) (cell_list (moved o)) ≡ forwards p o.gate o.own
unfolding first_from
moved_pair_forwards o p h k =
    rw (denials_allow p (together (moved o).groups) o.own 0, boxes_cover_what_the_gate_dropped o p h)
    (go (in_limits p) (drops p o.gate) (allows p o.gate) (allows p o.own) (complete_allows p o.gate 0 h k))
  where
    go : (f d a b : Bool) → a ≡ (f && not d) → (says_allow (cond f (found 0 1) nothing) && (not d && b)) ≡ (a && b)
    go true d a b e = rw e
    go false d a b e = rw e

-- The old gate with the new cell list forwards what the old pair did, so the cell list can be loaded first.
pub cell_first : (o : Order) (p : Packet) → rules_refusal o.gate ≡ 0 → forwards p o.gate (cell_list (moved o)) ≡ forwards p o.gate o.own
cell_first o p h =
    rw (denials_allow p (together (moved o).groups) o.own 0, boxes_cover_what_the_gate_dropped o p h) (go (first p o.gate) (allows p o.own))
  where
    go : (x : Found) (b : Bool) → (says_allow x && (not (says_drop x) && b)) ≡ (says_allow x && b)
    go (found n a) b = both (eqb a 1)
      where
        both : (t : Bool) → (t && (not (not t) && b)) ≡ (t && b)
        both true = refl
        both false = refl
    go nothing b = refl
