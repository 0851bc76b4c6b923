-- `cut_pieces` meets its contract: the loop's invariant says what is left of the pieces from piece i on. Assumes nothing.
use Rattle.policy.specs.Values.{region_of}
use Rattle.groups.proofs.Passes.{Passing}
use Rattle.groups.proofs.cut_pieces.Given as goal

abbrev pub invariant-loop-i : goal.invariant-loop-i
invariant-loop-i l = Passing l.pieces l.first l.n (region_of l.a) l.initial.out l.out l.m l.i
