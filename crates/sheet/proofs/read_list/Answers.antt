-- `read_list` is the section reader with nothing left behind. Assumes nothing.
use borrow.Author.Rules.{rules}
use Rattle.sheet.proofs.SectionReader.{list_refusal_lem, list_over, list_read}
use Rattle.sheet.proofs.read_list.Goals as goal

pub returns-in_err-section : goal.returns-in_err-section
returns-in_err-section c = search (rules, list_refusal_lem)

pub returns-then-section-s : goal.returns-then-section-s
returns-then-section-s c = search (rules, list_over)

pub returns : goal.returns
returns c = search (rules, list_read)
