-- `checked_with_room` meets its contract. Assumes nothing.
use mathlib.Core.Path.{◌≡◌}
use mathlib.Core.Bool.{false}
use mathlib.Core.Logic.{inl, inr}
use Rattle.policy.specs.Fields.{work_size}
use Rattle.promises.specs.Calls.{both_lent}
use Rattle.promises.proofs.Calls.{room_short, work_short}
use Rattle.listing.proofs.Listing.{room_missing, room_checked}
use Rattle.listing.proofs.checked_with_room.Goals as goal

pub returns-then-out-room : goal.returns-then-out-room
returns-then-out-room c =
    let a = c.args in
    let short : both_lent a.room a.out.now a.work.now ≡ false =
    elim c.then-out-room.either [ inl h ↦ room_short a.room a.out.now _ h | inr h ↦ work_short a.room work_size a.out.now a.work.now h.0 h.1 ] in
    room_missing a.sheet.now a.out.now a.room a.work.now short

pub returns : goal.returns
returns c = room_checked _ _ _ _ c.if-out-room.false c.if-work-lt-WORK_BYTES.false c.checked.ensures.0 c.checked.ensures.1
