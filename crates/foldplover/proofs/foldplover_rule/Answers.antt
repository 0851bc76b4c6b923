-- `foldplover_rule` meets its contract: it hands over to `rule`. Assumes nothing.
use Rattle.foldplover.proofs.Plain.{read_plain}
use Rattle.foldplover.proofs.foldplover_rule.Goals as goal

pub answer_number-requires : goal.answer_number-requires
answer_number-requires c = read_plain c.rule.ensures

pub returns : goal.returns
returns c =
    let k = c.rule in
    record { answer = k.result; below = k.ensures; number = c.answer_number.ensures; plain = read_plain k.ensures }
