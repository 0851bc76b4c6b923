-- What is claimed of an origin, each theorem as a type that has one value in proofs/Theorems.antt. A and B are the sheet's lists: those
-- of the two filters before the move, with the edits done since. Assumes nothing.
use Rattle.std.specs.Prelude.{◌≡◌, List, [], true, false, ℕ, get_or}
use Rattle.policy.specs.Fields.{limits}
use Rattle.policy.specs.Ranges.{Packet, inside}
use Rattle.policy.specs.Rules.{found, first, allows, in_limits}
use Rattle.policy.specs.Refusals.{Outcome, accepted, refused}
use Rattle.policy.specs.Move.{Pair}
use Rattle.policy.specs.Demands.{group_at}
use Rattle.policy.specs.Origins.{gate_rule, own_rule, place_of, rule_from, PlaceBack}
use Rattle.filter.specs.Lookup.{Hit, hit, lookup}
use Rattle.promises.specs.Calls.{check_of, cell_bytes}
use Rattle.origins.specs.Origin.{Decision, origin_of}

-- What a decision answers, and the place and the action that the pair and its origin give.
abbrev pub hit_of : Outcome Decision → Outcome Hit
hit_of (accepted d) = accepted d.hit
hit_of (refused n) = refused n

abbrev pub worked_out : Pair → Outcome Decision → Outcome Hit
worked_out q (accepted d) = accepted (hit (place_of q d.origin) (rule_from q d.origin).action)
worked_out q (refused n) = refused n

-- On every sheet that check accepts, and for every packet, both are what a lookup in the cell list's bytes answers, 5 included; and every
-- place of that list and its origin give each other back.
pub record OriginAgrees (p : Packet) (s : List ℕ) (q : Pair) : Type 0 where
  pub answer : hit_of (origin_of limits p s) ≡ lookup limits.total p (cell_bytes q)
  pub origin : worked_out q (origin_of limits p s) ≡ lookup limits.total p (cell_bytes q)
  pub places : PlaceBack q

abbrev pub OriginAgreesTheorem : Type 0
OriginAgreesTheorem = (p : Packet) (s : List ℕ) (q : Pair) → check_of limits s ≡ accepted q → OriginAgrees p s q

-- The gate rule that is named is the one that decides the packet in A, the old gate list: a deny. The box named has the packet.
pub record GateRuleDecided (p : Packet) (q : Pair) (j b : ℕ) : Type 0 where
  pub gate : first p q.order.gate ≡ found j 0
  pub box : inside p (get_or (group_at q j) b []) ≡ true

abbrev pub GateRuleTheorem : Type 0
GateRuleTheorem =
    (p : Packet) (s : List ℕ) (q : Pair) → check_of limits s ≡ accepted q → (d : Decision) → origin_of limits p s ≡ accepted d
    → (j b : ℕ) → d.origin ≡ gate_rule j b → GateRuleDecided p q j b

-- The own rule that is named is the one that decides the packet in B, the old cell list, and A allows it.
pub record OwnRuleDecided (p : Packet) (q : Pair) (i action : ℕ) : Type 0 where
  pub gate : allows p q.order.gate ≡ true
  pub own : first p q.order.own ≡ found i action

abbrev pub OwnRuleTheorem : Type 0
OwnRuleTheorem =
    (p : Packet) (s : List ℕ) (q : Pair) → check_of limits s ≡ accepted q → (d : Decision) → origin_of limits p s ≡ accepted d
    → (i : ℕ) → d.origin ≡ own_rule i → OwnRuleDecided p q i d.hit.action

-- R16: after the check the only refusal is 5, and it is given exactly for a packet that is outside the limits of some field.
pub record NoRule (p : Packet) (s : List ℕ) : Type 0 where
  pub only : (n : ℕ) → origin_of limits p s ≡ refused n → (n ≡ 5) × (in_limits p ≡ false)
  pub exactly : in_limits p ≡ false → origin_of limits p s ≡ refused 5

abbrev pub NoRuleTheorem : Type 0
NoRuleTheorem = (p : Packet) (s : List ℕ) (q : Pair) → check_of limits s ≡ accepted q → NoRule p s
