-- `foldplover_origin` meets its contract: it hands over to `origin`. Assumes nothing.
use Rattle.foldplover.proofs.Plain.{origin_plain}
use Rattle.foldplover.proofs.foldplover_origin.Goals as goal

pub answer_number-requires : goal.answer_number-requires
answer_number-requires c = origin_plain c.origin.ensures

pub returns : goal.returns
returns c =
    record {
      answer = c.origin.result;
      below = rw c.packet_of-p.ensures at c.origin.ensures;
      number = c.answer_number.ensures;
      plain = origin_plain c.origin.ensures;
    }
