-- The order sheet, and a list read whole (01, Sheets and Numbers given back). Assumes nothing.
use Rattle.std.specs.Prelude.{List, ◌++◌, ℕ, ◌+◌, eqb, length}
use Rattle.policy.specs.Fields.{Limits, limits}
use Rattle.policy.specs.Rules.{Rule}
use Rattle.policy.specs.Refusals.{Outcome, accepted, test, and_then}
use Rattle.policy.specs.Move.{Order}
use Rattle.sheet.specs.Sections.{Reading, reading, section}
use Rattle.wire.specs.Lists.{list_size, list_bytes}

-- Nothing may be left over (3), and this is asked last.
abbrev pub ended : {A B : Type 0} → Reading A → B → Outcome B
ended r v = test (eqb (length r.rest) 0) 3 (accepted v)

abbrev pub order : List Rule → List Rule → Order
order a b = record { gate = a; own = b }

-- What every sheet begins with: section A, the gate's rules; then section B, the cell's own rules, which begins where A ends.
unfoldable pub lists_in : Limits → List ℕ → Outcome (Reading Order)
lists_in lim s =
    and_then (section lim.gate s)
    (λ a. and_then (section lim.own a.rest) (λ b. accepted (reading (order a.value b.value) b.rest)))

-- An order sheet is that and nothing behind it.
unfoldable pub order_in : Limits → List ℕ → Outcome Order
order_in lim s = and_then (lists_in lim s) (λ r. ended r r.value)

unfoldable pub order_bytes : Order → List ℕ
order_bytes o = list_bytes o.gate ++ list_bytes o.own

-- A list by itself, with nothing behind it.
unfoldable pub list_in : ℕ → List ℕ → Outcome (List Rule)
list_in most s = and_then (section most s) (λ a. ended a a.value)

-- The largest A list, B list and order sheet.
abbrev pub gate_size : ℕ
gate_size = list_size limits.gate

abbrev pub own_size : ℕ
own_size = list_size limits.own

abbrev pub order_size : ℕ
order_size = gate_size + own_size
