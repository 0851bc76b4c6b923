-- `read_group` answers at each of its tests what the definition gives of one group. Assumes nothing.
use borrow.Author.Rules.{rules}
use Rattle.sheet.proofs.GroupReader.{no_count, too_many, no_boxes, bad_box, group_read}
use Rattle.sheet.proofs.read_group.Goals as goal

pub returns-then-s-lt-COUNT_BYTES : goal.returns-then-s-lt-COUNT_BYTES
returns-then-s-lt-COUNT_BYTES c = search (rules, no_count)

pub returns-then-most-total : goal.returns-then-most-total
returns-then-most-total c = search (rules, too_many)

pub returns-then-s-next : goal.returns-then-s-next
returns-then-s-next c = search (rules, no_boxes)

pub returns-then-not-all_proper : goal.returns-then-not-all_proper
returns-then-not-all_proper c = search (rules, bad_box)

pub returns : goal.returns
returns c = search (rules, group_read)
