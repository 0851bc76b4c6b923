-- Lookup in a readable list is first match. Assumes nothing.
use Rattle.std.proofs.Common.{◌≡◌, ℕ, suc, ◌<◌, ◌≤◌, Bool, true, false, cond, List, [], ◌∷◌, length, sym, refl, ap, ◌∙◌, arith}
use Rattle.lists.specs.Lists.{Each}
use Rattle.policy.specs.Ranges.{Packet, inside}
use Rattle.policy.specs.Rules.{Rule, Found, found, first_from, first}
use Rattle.policy.specs.Refusals.{Outcome, accepted, rules_refusal}
use Rattle.policy.proofs.Moves.{rules_refusal-cons}
use Rattle.wire.proofs.Records.{RuleFits, sound_fits}
use Rattle.filter.specs.Lookup.{Hit, hit, look_from, LookupTheorem, decided_by}
use Rattle.filter.proofs.Lookups.{good_head}
use Rattle.filter.proofs.Verdicts.{look_small}
use Rattle.wire.specs.Lists.{list_bytes}
use Rattle.wire.proofs.Lists.{list_bytes-length, list_count, list_rules_lem}

-- Sound rules fit their records.
pub readable_fit : (l : List Rule) → rules_refusal l ≡ 0 → Each RuleFits l
unfolding Each
readable_fit [] h = tt
readable_fit (r ∷ l) h = let g = rules_refusal-cons r l h in (sound_fits r g.0, readable_fit l g.1)

-- A turn of first match and of lookup.
turn : (t : Bool) (n a : ℕ) (o : Outcome Hit) (f : Found) → o ≡ decided_by f → cond t (accepted (hit n a)) o ≡ decided_by (cond t (found n a) f)
turn true n a o f e = refl
turn false n a o f e = e

pub look_first : (n : ℕ) (p : Packet) (l : List Rule) → rules_refusal l ≡ 0 → look_from n p l ≡ decided_by (first_from n p l)
unfolding look_from first_from
look_first n p [] h = refl
look_first n p (r ∷ l) h =
    let g = rules_refusal-cons r l h in
    rw g.0 (turn (inside p r.region) n r.action (look_from (suc n) p l) (first_from (suc n) p l) (look_first (suc n) p l g.1))

-- What first match finds there: a place of the list, and an action that is 0 or 1.
pub found_small : (p : Packet) (l : List Rule) (i a : ℕ) → rules_refusal l ≡ 0 → first p l ≡ found i a → (i < length l) × (a ≤ 1)
found_small p l i a h e = let s = look_small 0 p l (hit i a) (look_first 0 p l h ∙ ap decided_by e) in (omega (arith, s.0), s.1)

-- Lookup in the bytes of a readable list answers by first match.
pub lookup_first : LookupTheorem
lookup_first most p l h some few bound =
    let f = readable_fit l h in
    let g = list_bytes-length l f in
    sym (good_head most p (list_bytes l) (omega arith) (length l) (sym (list_count l f (omega arith))) some few g)
    ∙ (ap (look_from 0 p) (list_rules_lem l f) ∙ look_first 0 p l h)
