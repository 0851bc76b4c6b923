-- Where a rule of the cell list comes from (02, W1). Assumes nothing.
use Rattle.std.specs.Prelude.{◌≡◌, List, [], ◌∷◌, false, cond, ℕ, suc, ◌+◌, ◌-◌, ◌<◌, ltb, length, get_or, take}
use Rattle.policy.specs.Ranges.{Region}
use Rattle.policy.specs.Rules.{Rule, rule, is_allow, denies}
use Rattle.policy.specs.Move.{Pair, together, cell_list}
use Rattle.policy.specs.Demands.{group_at}

-- The rule at a place of A, allows counted too, by the box of this number inside its group; or the rule at a place of B. All count
-- from 0.
pub data Origin : Type 0 where
  gate_rule : ℕ → ℕ → Origin
  own_rule : ℕ → Origin

-- The origin of a place, walked to through A from its place j on: an allow rule has no boxes, a deny rule those of the next group, and
-- behind all groups stand the own rules. (Where there are more groups than deny rules, nothing is meant; no sheet reads so.)
unfoldable pub origin_from : ℕ → List Rule → List (List Region) → ℕ → Origin
origin_from j [] gs n = own_rule n
origin_from j (r ∷ l) [] n = own_rule n
origin_from j (r ∷ l) (g ∷ gs) n =
    cond (is_allow r)
    (origin_from (suc j) l (g ∷ gs) n)
    (cond (ltb n (length g)) (gate_rule j n) (origin_from (suc j) l gs (n - length g)))

abbrev pub origin_at : Pair → ℕ → Origin
origin_at s n = origin_from 0 s.order.gate s.groups n

-- The place worked out from the origin: the boxes of the groups before the rule's own and the box's number, or all boxes and the own
-- rule's place.
unfoldable pub place_of : Pair → Origin → ℕ
place_of s (gate_rule j b) = length (together (take (denies (take j s.order.gate)) s.groups)) + b
place_of s (own_rule i) = length (together s.groups) + i

-- The rule that an origin names, as the cell list has it: a box denies.
unfoldable pub rule_from : Pair → Origin → Rule
rule_from s (gate_rule j b) = rule (get_or (group_at s j) b []) 0
rule_from s (own_rule i) = get_or s.order.own i (rule [] 0)

-- There is such a rule: a deny rule of A with more boxes than that number, or a rule of B.
unfoldable pub HasOrigin : Pair → Origin → Type 0
HasOrigin s (gate_rule j b) =
    (j < length s.order.gate) × (is_allow (get_or s.order.gate j (rule [] 0)) ≡ false) × (b < length (group_at s j))
HasOrigin s (own_rule i) = i < length s.order.own

-- 02, W1: in a pair with a group for each deny rule, a place of the cell list gives an origin that gives it back, and an origin a place
-- that gives it back, where the very rule that it names stands.
pub record PlaceBack (s : Pair) : Type 0 where
  pub there : (n : ℕ) → n < length (cell_list s) → HasOrigin s (origin_at s n) × (place_of s (origin_at s n) ≡ n)
  pub back : (x : Origin) → HasOrigin s x → (place_of s x < length (cell_list s)) × (origin_at s (place_of s x) ≡ x)
  pub names : (x : Origin) → HasOrigin s x → get_or (cell_list s) (place_of s x) (rule [] 0) ≡ rule_from s x

abbrev pub PlaceBackTheorem : Type 0
PlaceBackTheorem = (s : Pair) → length s.groups ≡ denies s.order.gate → PlaceBack s
