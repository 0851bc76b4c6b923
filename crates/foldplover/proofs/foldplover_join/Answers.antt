-- `foldplover_join` meets its contract: it hands over to `join`. Assumes nothing.
use borrow.Author.Rules.{rules}
use Rattle.foldplover.proofs.Plain.{join_plain}
use Rattle.foldplover.proofs.foldplover_join.Goals as goal

pub answer_number-requires : goal.answer_number-requires
answer_number-requires c = join_plain c.join.ensures (search rules)

pub returns : goal.returns
returns c =
    let k = c.join in
    record { answer = k.result; below = k.ensures; number = c.answer_number.ensures; plain = join_plain k.ensures (search rules) }
