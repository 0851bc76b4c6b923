-- The groups of a gate list, the moved pair, and when a move is refused (01, Cutting one box from another and Numbers given
-- back). Assumes nothing.
use Rattle.std.specs.Prelude.{List, [], ◌∷◌, ◌++◌, map, Bool, false, cond, ◌||◌, ℕ, ◌+◌, ltb, length}
use Rattle.policy.specs.Fields.{Limits}
use Rattle.policy.specs.Ranges.{Region}
use Rattle.policy.specs.Cut.{cut_each, group}
use Rattle.policy.specs.Rules.{Rule, rule, is_allow, full}
use Rattle.policy.specs.Refusals.{given, or_else}

-- What an order sheet holds, and what a pair sheet holds.
pub record Order : Type 0 where
  pub gate : List Rule
  pub own : List Rule

pub record Pair : Type 0 where
  pub order : Order
  pub groups : List (List Region)

-- Where a deny rule's group comes from: it is kept, or it is made of the pieces that it starts with and the allows to take.
pub data Slot : Type 0 where
  kept : List Region → Slot
  anew : List Region → List Region → Slot

-- A slot for each deny rule, in list order: its start, and every allow rule before it. Deny rules play no part in later slots.
unfoldable pub slots : (Region → List Region) → List Region → List Rule → List Slot
slots start allows [] = []
slots start allows (r ∷ l) =
    cond (is_allow r) (slots start (allows ++ (r.region ∷ [])) l) (anew (start r.region) allows ∷ slots start allows l)

-- A group starts with the deny rule's box alone.
abbrev pub alone : Region → List Region
alone d = d ∷ []

abbrev pub start_of : Order → Region → List Region
start_of o = alone

abbrev pub slots_of : Order → List Slot
slots_of o = slots (start_of o) [] o.gate

-- The boxes that a slot comes to.
unfoldable pub boxes_of : Slot → List Region
boxes_of (kept g) = g
boxes_of (anew ds allows) = group ds allows

abbrev pub groups_of : List Slot → List (List Region)
groups_of l = map boxes_of l

-- The boxes of all groups, in gate order.
unfoldable pub together : List (List Region) → List Region
together [] = []
together (g ∷ gs) = g ++ together gs

-- Number 6: some allow, taken from every piece of a deny rule, leaves more of them than the limit. Only groups that are made
-- anew are asked, and what later allows would take away does not count.
unfoldable pub over : ℕ → List Region → List Region → Bool
over most ds [] = false
over most ds (a ∷ allows) = ltb most (length (cut_each ds a)) || over most (cut_each ds a) allows

unfoldable pub over_slot : ℕ → Slot → Bool
over_slot most (kept g) = false
over_slot most (anew ds allows) = over most ds allows

unfoldable pub any_over : ℕ → List Slot → Bool
any_over most [] = false
any_over most (s ∷ l) = over_slot most s || any_over most l

unfoldable pub work : Limits → List Slot → ℕ
work lim l = given (any_over lim.pieces l) 6

-- 6, then number 7: all boxes and the own rules together exceed the limit.
unfoldable pub room : Limits → Order → List Slot → ℕ
room lim o l = or_else (work lim l) (given (ltb lim.total (length (together (groups_of l)) + length o.own)) 7)

-- The moved pair keeps the two lists and holds every group.
abbrev pub moved : Order → Pair
moved o = record { order = o; groups = groups_of (slots_of o) }

-- The boxes as deny rules.
unfoldable pub denials : List Region → List Rule
denials [] = []
denials (b ∷ bs) = rule b 0 ∷ denials bs

-- The lists to load: for the gate one full allow rule, for the cell a deny rule for each box, group by group, and the own rules.
abbrev pub gate_list : Pair → List Rule
gate_list s = rule full 1 ∷ []

abbrev pub cell_list : Pair → List Rule
cell_list s = denials (together s.groups) ++ s.order.own

-- Number 2: a list has no rule, or more than the most.
abbrev pub bad_count : ℕ → ℕ → Bool
bad_count most n = ltb n 1 || ltb most n
