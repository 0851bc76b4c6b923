-- `foldplover_split` meets its contract: it hands over to `split`. Assumes nothing.
use borrow.Author.Rules.{rules}
use Rattle.foldplover.proofs.Plain.{split_plain}
use Rattle.foldplover.proofs.foldplover_split.Goals as goal

pub answer_number-requires : goal.answer_number-requires
answer_number-requires c = split_plain c.split.ensures (search rules)

pub returns : goal.returns
returns c =
    let k = c.split in
    record { answer = k.result; below = k.ensures; number = c.answer_number.ensures; plain = split_plain k.ensures (search rules) }
