-- The boxes of groups are proper where the rules are sound. Assumes nothing.
use mathlib.Core.Path.{◌≡◌, refl}
use mathlib.Core.List.{List, [], ◌∷◌, ◌++◌, map}
use mathlib.Core.Bool.{Bool, true, false, cond, false≢true}
use Prim.Native.Nat.{ℕ}
use native.Mathlib.Omega.{arith}
use lib.Dec.{leb}
use borrow.Author.Tests.{leb-true, le-leb}
use Rattle.lists.specs.Lists.{Each, every_both}
use Rattle.lists.proofs.Tests.{and_true, and_both}
use Rattle.lists.proofs.Lists.{each_append, each_imp}
use Rattle.policy.specs.Fields.{highest}
use Rattle.policy.specs.Ranges.{Region, Whole, Within, proper_range, proper}
use Rattle.policy.specs.Rules.{Rule, is_allow, Proper}
use Rattle.policy.specs.Cut.{group}
use Rattle.policy.specs.Refusals.{rules_refusal}
use Rattle.policy.specs.Move.{anew, slots, boxes_of, Order, moved}
use Rattle.policy.specs.Demands.{Piece}
use Rattle.policy.proofs.Groups.{group_inside}
use Rattle.policy.proofs.Moves.{rules_refusal-cons, rule_proper, proper_whole}

-- a piece of a proper box is proper
pub proper_piece : (hs : List ℕ) (d b : Region) → proper hs d ≡ true → Piece d b → proper hs b ≡ true
unfolding every_both Whole Within
proper_piece [] [] [] h p = refl
proper_piece [] [] (r ∷ b) h p = absurd p.1
proper_piece [] (s ∷ d) b h p = absurd (false≢true h)
proper_piece (x ∷ hs) [] b h p = absurd (false≢true h)
proper_piece (x ∷ hs) (s ∷ d) [] h p = absurd p.1
proper_piece (x ∷ hs) (s ∷ d) (r ∷ b) h p =
    let f = and_true (proper_range x s) (proper hs d) h in
    let j = leb-true s.high x (and_true (leb s.low s.high) (leb s.high x) f.0).1 in
    and_both (proper_range x r) (proper hs b)
    (and_both (leb r.low r.high) (leb r.high x) (le-leb r.low r.high (omega arith)) (le-leb r.high x (omega arith)))
    (proper_piece hs d b f.1 (p.0.1, p.1.2))

group_proper : (d : Region) (allows : List Region) → Proper d → Each Whole allows → Each Proper (group (d ∷ []) allows)
group_proper d allows h w =
    each_imp (Piece d) Proper (group (d ∷ []) allows) (λ b p. proper_piece highest d b h p) (group_inside d allows (proper_whole highest d h) w)

slots_proper : (allows : List Region) (l : List Rule) → Each Whole allows → rules_refusal l ≡ 0 → Each (Each Proper) (map boxes_of (slots (λ (d : Region). d ∷ []) allows l))
unfolding Each slots boxes_of
slots_proper allows [] w h = tt
slots_proper allows (r ∷ l) w h =
    let z = rules_refusal-cons r l h in
    let p = rule_proper r z.0 in
    let v = proper_whole highest r.region p in
    go (is_allow r) (slots_proper (allows ++ (r.region ∷ [])) l (each_append Whole allows (r.region ∷ []) w (v, tt)) z.1) (slots_proper allows l w z.1) (group_proper r.region allows p w)
  where
    go : (t : Bool) → Each (Each Proper) (map boxes_of (slots (λ (d : Region). d ∷ []) (allows ++ (r.region ∷ [])) l))
        → Each (Each Proper) (map boxes_of (slots (λ (d : Region). d ∷ []) allows l)) → Each Proper (group (r.region ∷ []) allows)
        → Each (Each Proper) (map boxes_of (cond t (slots (λ (d : Region). d ∷ []) (allows ++ (r.region ∷ [])) l) (anew (r.region ∷ []) allows ∷ slots (λ (d : Region). d ∷ []) allows l)))
    go true a b g = a
    go false a b g = (g, b)

pub moved_proper : (o : Order) → rules_refusal o.gate ≡ 0 → Each (Each Proper) (moved o).groups
unfolding Each
moved_proper o h = slots_proper [] o.gate tt h
