-- `cut_box` meets its contract: the loop's invariant says what is left of the cut from field k on. Assumes nothing.
use Rattle.policy.specs.Values.{region_of}
use Rattle.groups.proofs.Cutting.{Cutting}
use Rattle.groups.proofs.cut_box.Given as goal

abbrev pub invariant-loop-k : goal.invariant-loop-k
invariant-loop-k l = Cutting l.initial.out l.n (region_of l.d) (region_of l.a) l.out l.done.stored (region_of l.done.rest) l.k
