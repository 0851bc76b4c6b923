-- `make_room` meets its contract: one record more, one less, or as many. Assumes nothing.
use Rattle.edit_sheet.proofs.Rooms.{room_up, room_down, room_kept}
use Rattle.edit_sheet.proofs.make_room.Goals as goal

pub returns-then-from-to : goal.returns-then-from-to
returns-then-from-to c = room_up c.requires c.if-from-to.true _ c.copy_up.ensures

pub returns-then-to-from : goal.returns-then-to-from
returns-then-to-from c = room_down c.requires c.if-to-from.true _ c.copy_down.ensures

pub returns-else-to-from : goal.returns-else-to-from
returns-else-to-from c = room_kept c.requires c.if-from-to.false c.if-to-from.false
