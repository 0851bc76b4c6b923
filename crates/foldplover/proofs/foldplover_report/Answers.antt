-- `foldplover_report` meets its contract: it hands over to `report`. Assumes nothing.
use borrow.Author.Rules.{rules}
use Rattle.foldplover.proofs.Plain.{report_plain}
use Rattle.foldplover.proofs.foldplover_report.Goals as goal

pub answer_number-requires : goal.answer_number-requires
answer_number-requires c = report_plain c.report.ensures (search rules)

pub returns : goal.returns
returns c =
    let k = c.report in
    record { answer = k.result; below = k.ensures; number = c.answer_number.ensures; plain = report_plain k.ensures (search rules) }
