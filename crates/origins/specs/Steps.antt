-- What the inner parts of origin answer and leave. Assumes nothing.
use Rattle.std.specs.Prelude.{◌≡◌, List, [], false, ℕ, ◌+◌, ◌*◌, ◌^◌, ◌<◌, ◌≤◌, length, get_or, take, drop}
use Rattle.lists.specs.Lists.{Each}
use Rattle.policy.specs.Fields.{limits}
use Rattle.policy.specs.Ranges.{Region, Packet}
use Rattle.policy.specs.Rules.{Rule, rule, Proper, is_allow, denies, found, nothing, first}
use Rattle.policy.specs.Refusals.{Answer, Outcome, accepted, refused, said}
use Rattle.policy.specs.Move.{Pair, together, cell_list}
use Rattle.policy.specs.Origins.{gate_rule, own_rule}
use Rattle.wire.specs.Buffers.{written}
use Rattle.wire.specs.Records.{each_in}
use Rattle.sheet.specs.Steps.{pair_at, PairLaid}
use Rattle.sheet.specs.declared.PairLayout.{PairLayout}
use Rattle.filter.specs.Lookup.{hit}
use Rattle.promises.specs.Calls.{check_of}
use Rattle.origins.specs.Origin.{Decision, decision, decision_numbers, origin_size, value_of}
use Rattle.origins.specs.declared.Run.{Run}
use Rattle.origins.specs.declared.Trace.{Trace}
use Rattle.origins.specs.declared.Trace.TheVariants.{Gate, Own, Nowhere}

-- The sheet passes check, and its parts lie so.
pub record Checked (s : List ℕ) (l : PairLayout) : Type 0 where
  pub checks : check_of limits s ≡ accepted (pair_at l s)
  pub laid : PairLaid s l

-- The rule at a place of a list.
abbrev pub place_in : List Rule → ℕ → Rule
place_in l i = get_or l i (rule [] 0)

-- A deny rule stands at a place of A.
abbrev pub Denies : Pair → ℕ → Type 0
Denies q j = (j < length q.order.gate) × (is_allow (place_in q.order.gate j) ≡ false)

-- A front: how many boxes stand before the group of the rule at a place of A; at A's end, how many boxes there are.
abbrev pub front_of : Pair → ℕ → ℕ
front_of q j = length (together (take (denies (take j q.order.gate)) q.groups))

-- A run of boxes read in numbers.
abbrev pub run_boxes : (List ℕ → Region) → List ℕ → Run → List Region
run_boxes read s run = each_in run.step read run.count (drop run.from s)

-- A run of boxes in numbers, of which so many make a box: it lies inside, and is these boxes, each of them proper.
pub record Holds (size : ℕ) (read : List ℕ → Region) (s : List ℕ) (run : Run) (boxes : List Region) : Type 0 where
  pub apart : size ≤ run.step
  pub inside : run.from + run.step * run.count ≤ length s
  pub fits : length s < 2 ^ 64
  pub are : run_boxes read s run ≡ boxes
  pub proper : Each Proper boxes

-- What the code's trace of a packet says of the cell list, and of A: the rule that decides it there.
unfoldable pub trace_heard : Trace → Outcome Decision
trace_heard (Gate rule number place) = accepted (record { hit = hit place 0; origin = gate_rule rule number })
trace_heard (Own passed rule place action) = accepted (record { hit = hit place action; origin = own_rule rule })
trace_heard Nowhere = refused 5

unfoldable pub GateTraced : Packet → List Rule → Trace → Type 0
GateTraced p a (Gate rule number place) = first p a ≡ found rule 0
GateTraced p a (Own passed rule place action) = first p a ≡ found passed 1
GateTraced p a Nowhere = first p a ≡ nothing

-- Both are so.
pub record Traced (p : Packet) (q : Pair) (r : Trace) : Type 0 where
  pub says : trace_heard r ≡ decision q (first p (cell_list q))
  pub gate : GateTraced p q.order.gate r

-- The numbers are within the limits of the lists.
unfoldable pub TraceSmall : Trace → Type 0
TraceSmall (Gate rule number place) = (rule < limits.gate) × (number < limits.total) × (place < limits.total)
TraceSmall (Own passed rule place action) = (passed < limits.gate) × (rule < limits.own) × (place < limits.total) × (action ≤ 1)
TraceSmall Nowhere = Unit {0}

-- A trace told: the answer, and the numbers written.
pub record TraceTold (t : Trace) (ns : List ℕ) (r : Answer) (ns' : List ℕ) : Type 0 where
  pub answer : said r ≡ value_of (trace_heard t)
  pub numbers : ns' ≡ written decision_numbers origin_size ns (trace_heard t)
