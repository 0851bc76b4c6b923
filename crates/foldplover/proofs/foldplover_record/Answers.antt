-- `foldplover_record` meets its contract: it hands over to `record`. Assumes nothing.
use Rattle.foldplover.proofs.Plain.{written_plain}
use Rattle.foldplover.proofs.foldplover_record.Goals as goal

pub answer_number-requires : goal.answer_number-requires
answer_number-requires c = written_plain c.«record».ensures

pub returns : goal.returns
returns c =
    let k = c.«record» in
    record { answer = k.result; below = k.ensures; number = c.answer_number.ensures; plain = written_plain k.ensures }
