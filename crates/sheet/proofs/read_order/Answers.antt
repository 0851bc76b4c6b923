-- `read_order` is A and B with nothing left behind. Assumes nothing.
use borrow.Author.Rules.{rules}
use Rattle.sheet.proofs.OrderReader.{order_refusal, order_over, order_read}
use Rattle.sheet.proofs.read_order.Goals as goal

pub returns-in_err-order : goal.returns-in_err-order
returns-in_err-order c = search (rules, order_refusal)

pub returns-then-order-s : goal.returns-then-order-s
returns-then-order-s c = search (rules, order_over)

pub returns : goal.returns
returns c = search (rules, order_read)
