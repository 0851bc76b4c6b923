-- Move, check, cell list and gate list: each as a function from everything given to everything left (01, Calls and Numbers
-- given back). Assumes nothing.
use Rattle.std.specs.Prelude.{◌≡◌, List, Bool, cond, ◌&&◌, ℕ}
use Rattle.policy.specs.Fields.{box_size, record_size, Limits, limits, work_size}
use Rattle.policy.specs.Refusals.{Answer, Outcome, test, and_then, unless, said}
use Rattle.policy.specs.Move.{slots_of, room, Order, Pair, moved, gate_list, cell_list}
use Rattle.policy.specs.Check.{check_refusal}
use Rattle.wire.specs.Buffers.{room_for, zeroed, written, length_of, answered}
use Rattle.sheet.specs.Orders.{order_in, gate_size, own_size, order_size}
use Rattle.sheet.specs.Pairs.{pair_in, pair_bytes, pair_size}
use Rattle.wire.specs.Lists.{list_size, list_bytes}

-- What is left of the work buffer: 1 leaves it alone, any other answer leaves its front zero.
unfoldable pub work_after : Bool → List ℕ → List ℕ
work_after lent work = cond lent (zeroed 0 work_size work) work

-- A call that writes: number 1, which is first, unless all that is lent is long enough; then what it comes to. It determines
-- the answer, the buffer that is written and the work buffer.
pub record Call {A : Type 0} (bytes : A → List ℕ) (size : ℕ) (lent : Bool) (x : Outcome A) (out w : List ℕ) (r : Answer) (out' w' : List ℕ) : Type 0 where
  pub answer : said r ≡ length_of bytes (test lent 1 x)
  pub result : out' ≡ written bytes size out (test lent 1 x)
  pub work : w' ≡ work_after lent w

-- Move: what reading the order sheet gives, then 6 and 7; accepted, the moved pair.
unfoldable pub plan_of : Limits → Order → Outcome Pair
plan_of lim o = unless (room lim o (slots_of o)) (moved o)

unfoldable pub move_of : Limits → List ℕ → Outcome Pair
move_of lim s = and_then (order_in lim s) (plan_of lim)

abbrev pub both_lent : ℕ → List ℕ → List ℕ → Bool
both_lent size out w = room_for size out && room_for work_size w

abbrev pub Moves : List ℕ → List ℕ → List ℕ → Answer → List ℕ → List ℕ → Type 0
Moves s out w r out' w' = Call pair_bytes pair_size (both_lent pair_size out w) (move_of limits s) out w r out' w'

-- Check: what reading the pair sheet gives, then 6 and 8.
unfoldable pub checked_of : Limits → Pair → Outcome Pair
checked_of lim p = unless (check_refusal lim p) p

unfoldable pub check_of : Limits → List ℕ → Outcome Pair
check_of lim s = and_then (pair_in lim s) (checked_of lim)

-- Nothing is written, so a length of 0 says yes.
pub record Checks (s w : List ℕ) (r : Answer) (w' : List ℕ) : Type 0 where
  pub answer : said r ≡ answered 0 (test (room_for work_size w) 1 (check_of limits s))
  pub work : w' ≡ work_after (room_for work_size w) w

-- Cell list and gate list: check, then the list that is wanted.
unfoldable pub cell_bytes : Pair → List ℕ
cell_bytes p = list_bytes (cell_list p)

unfoldable pub gate_bytes : Pair → List ℕ
gate_bytes p = list_bytes (gate_list p)

abbrev pub cell_list_size : ℕ
cell_list_size = list_size limits.total

abbrev pub gate_list_size : ℕ
gate_list_size = list_size 1

abbrev pub Lists : (Pair → List ℕ) → ℕ → List ℕ → List ℕ → List ℕ → Answer → List ℕ → List ℕ → Type 0
Lists bytes size s out w r out' w' = Call bytes size (both_lent size out w) (check_of limits s) out w r out' w'

-- 01, Sheets and Calls: the printed sizes are what the table and the limits come to. A box, a record; the A list, the B list, the
-- order sheet; the pair sheet, the cell list, the gate list; the work buffer.
abbrev pub SizesTheorem : Type 0
SizesTheorem =
    ((box_size ≡ 26) × (record_size ≡ 27))
    × ((gate_size ≡ 1730) × (own_size ≡ 6914) × (order_size ≡ 8644))
    × ((pair_size ≡ 28742) × (cell_list_size ≡ 27650) × (gate_list_size ≡ 29))
    × (work_size ≡ 53248)
