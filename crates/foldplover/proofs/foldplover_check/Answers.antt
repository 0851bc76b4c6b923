-- `foldplover_check` meets its contract: it hands over to `check`. Assumes nothing.
use Rattle.foldplover.proofs.Plain.{check_plain}
use Rattle.foldplover.proofs.foldplover_check.Goals as goal

pub answer_number-requires : goal.answer_number-requires
answer_number-requires c = check_plain c.check.ensures

pub returns : goal.returns
returns c =
    let k = c.check in
    record { answer = k.result; below = k.ensures; number = c.answer_number.ensures; plain = check_plain k.ensures }
