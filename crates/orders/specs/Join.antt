-- Join: an order sheet from its A list and its B list (01, Calls). Assumes nothing.
use Rattle.std.specs.Prelude.{◌≡◌, List, ℕ}
use Rattle.policy.specs.Fields.{Limits, limits}
use Rattle.policy.specs.Refusals.{Answer, Outcome, accepted, test, and_then, said}
use Rattle.policy.specs.Move.{Order}
use Rattle.wire.specs.Buffers.{room_for, written, length_of}
use Rattle.sheet.specs.Orders.{order, order_bytes, list_in, order_size}

-- 1 is first; then A is read whole, its left-over bytes last, and then B.
unfoldable pub join_of : Limits → List ℕ → List ℕ → List ℕ → Outcome Order
join_of lim a b out =
    test (room_for order_size out) 1
    (and_then (list_in lim.gate a) (λ g. and_then (list_in lim.own b) (λ w. accepted (order g w))))

-- The answer is the sheet's length; it is zero behind its content; a refusal leaves it as it was.
pub record Join (a b out : List ℕ) (r : Answer) (out' : List ℕ) : Type 0 where
  pub answer : said r ≡ length_of order_bytes (join_of limits a b out)
  pub sheet : out' ≡ written order_bytes order_size out (join_of limits a b out)
