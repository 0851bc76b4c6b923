-- `move_order` meets its contract. Assumes nothing.
use mathlib.Core.Path.{◌≡◌}
use mathlib.Core.Bool.{false}
use mathlib.Core.Logic.{inl, inr}
use Rattle.policy.specs.Fields.{limits, work_size}
use Rattle.sheet.specs.Pairs.{pair_bytes, pair_size}
use Rattle.promises.specs.Calls.{both_lent, move_of}
use Rattle.promises.proofs.Calls.{room_short, work_short, both_there, call_short, call_done}
use Rattle.moving.proofs.move_order.Goals as goal

pub returns-then-sheet-lt-PAIR_BYTES : goal.returns-then-sheet-lt-PAIR_BYTES
returns-then-sheet-lt-PAIR_BYTES c =
    let a = c.args in
    let short : both_lent pair_size a.sheet.now a.work.now ≡ false =
    elim c.then-sheet-lt-PAIR_BYTES.either [ inl h ↦ room_short pair_size a.sheet.now _ h | inr h ↦ work_short pair_size work_size a.sheet.now a.work.now h.0 h.1 ] in
    call_short pair_bytes pair_size _ (move_of limits a.order.now) a.sheet.now a.work.now short

pub returns : goal.returns
returns c =
    let a = c.args in
    let there = both_there pair_size work_size a.sheet.now a.work.now c.if-sheet-lt-PAIR_BYTES.false c.if-work-lt-WORK_BYTES.false in
    call_done pair_bytes pair_size _ (move_of limits a.order.now) a.sheet.now a.work.now there c.plan-answer.ensures c.zero.ensures
