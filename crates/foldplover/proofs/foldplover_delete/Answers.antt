-- `foldplover_delete` meets its contract: it hands over to `edit`. Assumes nothing.
use borrow.Author.Rules.{rules}
use Rattle.foldplover.proofs.Plain.{pair_plain}
use Rattle.foldplover.proofs.foldplover_delete.Goals as goal

pub answer_number-requires : goal.answer_number-requires
answer_number-requires c = pair_plain _ c.edit.ensures (search rules)

pub returns : goal.returns
returns c =
    let k = c.edit in
    record { answer = k.result; below = k.ensures; number = c.answer_number.ensures; plain = pair_plain _ k.ensures (search rules) }
