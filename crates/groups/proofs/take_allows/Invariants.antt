-- `take_allows` meets its contract: the loop's invariant says that the pieces and the allows left come to what the start and all
-- allows come to. Assumes nothing.
use Rattle.wire.specs.Records.{boxes_in}
use Rattle.groups.proofs.Works.{Working}
use Rattle.groups.proofs.take_allows.Given as goal

abbrev pub invariant-loop-j : goal.invariant-loop-j
invariant-loop-j l = Working (boxes_in l.n l.initial.pieces) l.rules l.i l.initial.pieces l.initial.out l.pieces l.out l.left l.j
