-- `put_own` meets its contract. Assumes nothing.
use mathlib.Core.Path.{refl}
use Rattle.edit_sheet.proofs.Puts.{own_room, own_put}
use Rattle.edit_sheet.proofs.put_own.Goals as goal

pub make_room-requires : goal.make_room-requires
make_room-requires c = own_room c.requires

pub returns : goal.returns
returns c = own_put c.requires _ _ _ _ c.make_room.ensures c.put_bytes.ensures.1 refl c.zero.ensures
