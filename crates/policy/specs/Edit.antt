-- Edits of a pair, on any pair, also one whose groups are not what A gives (01, Calls and Numbers given back).
-- Assumes nothing.
use Rattle.std.specs.Prelude.{List, [], ◌∷◌, ◌++◌, map, Bool, cond, not, ◌||◌, ℕ, ◌+◌, leb, length, take, drop}
use Rattle.policy.specs.Fields.{Limits}
use Rattle.policy.specs.Ranges.{Region}
use Rattle.policy.specs.Rules.{Rule, complete, denies, allows_in, any_allow}
use Rattle.policy.specs.Refusals.{given, or_else, rules_refusal}
use Rattle.policy.specs.Move.{start_of, Slot, kept, slots, groups_of, room, Order, Pair, bad_count}

pub data Kind : Type 0 where
  insert : Rule → Kind
  delete : Kind
  replace : Rule → Kind

-- How many rules are taken out at the place, and what is put in there.
abbrev pub out : Kind → ℕ
out (insert r) = 0
out delete = 1
out (replace r) = 1

abbrev pub put : Kind → List Rule
put (insert r) = r ∷ []
put delete = []
put (replace r) = r ∷ []

-- A list around a place: the rules before it, those taken out, those after them; and the list as the edit leaves it.
abbrev pub front : ℕ → List Rule → List Rule
front i l = take i l

abbrev pub gone : ℕ → Kind → List Rule → List Rule
gone i k l = take (out k) (drop i l)

abbrev pub back : ℕ → Kind → List Rule → List Rule
back i k l = drop (out k) (drop i l)

abbrev pub changed : ℕ → Kind → List Rule → List Rule
changed i k l = front i l ++ (put k ++ back i k l)

-- Number 9: an insert has the places 0 to the count, the others 0 to the count less one.
abbrev pub has_place : ℕ → Kind → List Rule → Bool
has_place i k l = leb (i + out k) (length l)

-- Kept are the groups of the deny rules before the place and, unless an allow is taken out or put in, of those after it.
-- All others are worked out anew.
unfoldable pub around :
    (Region → List Region) → List Rule → List Rule → List Rule → List Rule → List (List Region) → List Slot
around start earlier taken new later gs =
    map kept (take (denies earlier) gs)
    ++ (slots start (allows_in earlier) new
    ++ cond (any_allow taken || any_allow new)
    (slots start (allows_in earlier ++ allows_in new) later)
    (map kept (drop (denies earlier + denies taken) gs)))

-- An edit: in A or in B, at a place.
pub record Edit : Type 0 where
  pub in_gate : Bool
  pub place : ℕ
  pub kind : Kind

abbrev pub target : Edit → Order → List Rule
target e o = cond e.in_gate o.gate o.own

abbrev pub new_list : Edit → Order → List Rule
new_list e o = changed e.place e.kind (target e o)

abbrev pub new_order : Edit → Order → Order
new_order e o = record {
  gate = cond e.in_gate (new_list e o) o.gate;
  own = cond e.in_gate o.own (new_list e o);
}

abbrev pub gate_slots : Edit → Pair → List Slot
gate_slots e s =
    around (start_of s.order) (front e.place s.order.gate) (gone e.place e.kind s.order.gate)
    (put e.kind) (back e.place e.kind s.order.gate) s.groups

-- Where every group comes from; those of an edit of B all from the sheet.
abbrev pub new_slots : Edit → Pair → List Slot
new_slots e s = cond e.in_gate (gate_slots e s) (map kept s.groups)

abbrev pub edited : Edit → Pair → Pair
edited e s = record { order = new_order e s.order; groups = groups_of (new_slots e s) }

abbrev pub place_found : Edit → Order → Bool
place_found e o = has_place e.place e.kind (target e o)

-- Once the place is found: 2 for the new count, 4 for the record, 5 unless the edited list is complete, then 6 over the
-- groups worked out anew and 7 over all.
unfoldable pub change_refusal : Limits → Edit → Pair → ℕ
change_refusal lim e s =
    or_else (given (bad_count (cond e.in_gate lim.gate lim.own) (length (new_list e s.order))) 2)
    (or_else (rules_refusal (put e.kind))
    (or_else (given (not (complete (new_list e s.order))) 5)
    (room lim (new_order e s.order) (new_slots e s))))

-- Lists with edits done on them one after another.
unfoldable pub all_done : List Edit → Order → Order
all_done [] o = o
all_done (e ∷ es) o = all_done es (new_order e o)
