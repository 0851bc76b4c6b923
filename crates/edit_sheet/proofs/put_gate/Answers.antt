-- `put_gate` meets its contract. Assumes nothing.
use mathlib.Core.Path.{refl}
use Rattle.edit_sheet.proofs.Rooms.{gate_room, gate_put}
use Rattle.edit_sheet.proofs.put_gate.Goals as goal

pub make_room-requires : goal.make_room-requires
make_room-requires c = gate_room c.requires

pub returns : goal.returns
returns c = gate_put c.requires _ _ _ _ _ _ _ _ c.make_room.ensures c.put_bytes.ensures.1 refl c.put_count.ensures refl c.put_groups.ensures refl c.zero.ensures
