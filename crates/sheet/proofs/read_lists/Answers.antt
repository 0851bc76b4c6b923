-- `read_lists` hands the part behind A on to the section reader. Assumes nothing.
use borrow.Author.Rules.{rules}
use Rattle.sheet.proofs.OrderReader.{middle_inside, gate_refusal, own_refusal, lists_read}
use Rattle.sheet.proofs.read_lists.Goals as goal

pub slice_bounds-read_section-start : goal.slice_bounds-read_section-start
slice_bounds-read_section-start c = search (rules, middle_inside)

pub returns-in_err-gate : goal.returns-in_err-gate
returns-in_err-gate c = search (rules, gate_refusal)

pub returns-in_err-own : goal.returns-in_err-own
returns-in_err-own c = search (rules, own_refusal)

pub returns : goal.returns
returns c = lists_read c.read_section.ensures c.in_ok-gate.gate c.in_ok-gate.was c.read_section-2.ensures c.in_ok-own.own c.in_ok-own.was
