-- Origin: a packet looked up in the cell list of a pair sheet, and whose rule decides it (02, W1). Assumes nothing.
use Rattle.std.specs.Prelude.{◌≡◌, List, [], ◌∷◌, ℕ}
use Rattle.policy.specs.Fields.{Limits, limits}
use Rattle.policy.specs.Ranges.{Packet}
use Rattle.policy.specs.Rules.{Found, first}
use Rattle.policy.specs.Refusals.{Answer, Outcome, accepted, refused, test, and_then, said}
use Rattle.policy.specs.Move.{Pair, cell_list}
use Rattle.policy.specs.Origins.{Origin, gate_rule, own_rule, origin_at}
use Rattle.wire.specs.Buffers.{written}
use Rattle.filter.specs.Lookup.{Hit, lookup_number, decided_by}
use Rattle.promises.specs.Calls.{work_after, both_lent, check_of}

-- The rule of the cell list that decides, as a lookup there has it, and where it comes from.
pub record Decision : Type 0 where
  pub hit : Hit
  pub origin : Origin

-- What first match in a pair's cell list comes to in a lookup, 5 included, with the origin of the place found.
abbrev pub decision : Pair → Found → Outcome Decision
decision s x = and_then (decided_by x) (λ h. accepted (record { hit = h; origin = origin_at s h.place }))

-- The check's refusals, then 5.
unfoldable pub origin_of : Limits → Packet → List ℕ → Outcome Decision
origin_of lim p s = and_then (check_of lim s) (λ q. decision q (first p (cell_list q)))

-- An origin as numbers: the list (0 the gate's, 1 the cell's own), the rule's place in it, and the box's number inside the rule's group
-- (0 for an own rule).
unfoldable pub origin_numbers : Origin → List ℕ
origin_numbers (gate_rule j b) = 0 ∷ j ∷ b ∷ []
origin_numbers (own_rule i) = 1 ∷ i ∷ 0 ∷ []

-- A call writes so many numbers: those of the decision's origin.
abbrev pub origin_size : ℕ
origin_size = 3

abbrev pub decision_numbers : Decision → List ℕ
decision_numbers d = origin_numbers d.origin

-- The answer: the number that a lookup gives for the place and the action.
unfoldable pub value_of : Outcome Decision → Outcome ℕ
value_of (accepted d) = accepted (lookup_number (accepted d.hit))
value_of (refused n) = refused n

-- 1 unless both buffers are long enough, then what the packet and the sheet come to.
unfoldable pub origin_call : Packet → List ℕ → List ℕ → List ℕ → Outcome Decision
origin_call p s ns w = test (both_lent origin_size ns w) 1 (origin_of limits p s)

-- The call: it determines the answer, the numbers and the work buffer.
pub record Origins (p : Packet) (s ns w : List ℕ) (r : Answer) (ns' w' : List ℕ) : Type 0 where
  pub answer : said r ≡ value_of (origin_call p s ns w)
  pub numbers : ns' ≡ written decision_numbers origin_size ns (origin_call p s ns w)
  pub work : w' ≡ work_after (both_lent origin_size ns w) w
