-- `edit` meets its contract. Assumes nothing.
use lib.ListN.{take}
use Rattle.policy.specs.Fields.{limits}
use Rattle.sheet.specs.Pairs.{pair_bytes, pair_size}
use Rattle.promises.specs.Edits.{edited_of, asked}
use Rattle.promises.proofs.Calls.{call_short, call_done}
use Rattle.editing.proofs.Calls.{edit_short, edit_lent_lem}
use Rattle.editing.proofs.edit.Goals as goal

pub returns-then-sheet-lt-PAIR_BYTES : goal.returns-then-sheet-lt-PAIR_BYTES
returns-then-sheet-lt-PAIR_BYTES c =
    let a = c.args in
    call_short pair_bytes pair_size _ (edited_of limits (take a.used a.sheet.now) (asked a.request a.new.now)) a.sheet.now a.work.now (edit_short a.sheet.now a.used a.work.now c.then-sheet-lt-PAIR_BYTES.either)

pub returns : goal.returns
returns c =
    let a = c.args in
    call_done pair_bytes pair_size _ (edited_of limits (take a.used a.sheet.now) (asked a.request a.new.now)) a.sheet.now a.work.now
    (edit_lent_lem a.sheet.now a.used a.work.now c.if-sheet-lt-PAIR_BYTES.false c.if-sheet-used.false c.if-work-lt-WORK_BYTES.false)
    c.revise-answer.ensures c.zero.ensures
