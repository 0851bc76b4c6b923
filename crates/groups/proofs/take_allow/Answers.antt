-- `take_allow` meets its contract, by the laws on what the pieces come to. Assumes nothing.
use native.Mathlib.Omega.{arith}
use Rattle.groups.proofs.Taken.{taken_none, taken_over, taken}
use Rattle.groups.proofs.take_allow.Goals as goal

pub returns-then-m-gt-PIECES_MOST : goal.returns-then-m-gt-PIECES_MOST
returns-then-m-gt-PIECES_MOST c =
    taken_over c.requires.standing.0 c.requires.standing.1 c.requires.room.0 c.requires.room.1 c.requires.room.2 c.first_touched-first.ensures c.cut_pieces-m.ensures (omega arith)

pub returns-then-first-m : goal.returns-then-first-m
returns-then-first-m c =
    taken c.requires.standing.0 c.requires.standing.1 c.requires.room.0 c.requires.room.1 c.requires.room.2 c.first_touched-first.ensures c.cut_pieces-m.ensures (omega arith) c.copy_from_slice.ensures.after

pub returns-else-first-m : goal.returns-else-first-m
returns-else-first-m c =
    taken_none c.requires.standing.0 c.requires.standing.1 c.requires.room.0 c.requires.room.1 c.requires.room.2 c.first_touched-first.ensures c.cut_pieces-m.ensures (omega arith) c.if-first-m.false
