-- Split: an order sheet into its A list and its B list (01, Calls). Assumes nothing.
use Rattle.std.specs.Prelude.{◌≡◌, List, ℕ}
use Rattle.policy.specs.Fields.{Limits, limits}
use Rattle.policy.specs.Refusals.{Answer, Outcome, test, said}
use Rattle.policy.specs.Move.{Order}
use Rattle.wire.specs.Buffers.{room_for, written, length_of}
use Rattle.sheet.specs.Orders.{order_in, gate_size, own_size}
use Rattle.wire.specs.Lists.{list_bytes}

-- 1 is first: both buffers are long enough. Then the whole order sheet is read.
unfoldable pub split_of : Limits → List ℕ → List ℕ → List ℕ → Outcome Order
split_of lim s a b = test (room_for gate_size a) 1 (test (room_for own_size b) 1 (order_in lim s))

-- The bytes of the two lists.
abbrev pub first_bytes : Order → List ℕ
first_bytes o = list_bytes o.gate

abbrev pub second_bytes : Order → List ℕ
second_bytes o = list_bytes o.own

-- The answer is the A list's length; both lists are zero behind their content; a refusal leaves them as they were.
pub record Split (s a b : List ℕ) (r : Answer) (a' b' : List ℕ) : Type 0 where
  pub answer : said r ≡ length_of first_bytes (split_of limits s a b)
  pub gate : a' ≡ written first_bytes gate_size a (split_of limits s a b)
  pub own : b' ≡ written second_bytes own_size b (split_of limits s a b)
