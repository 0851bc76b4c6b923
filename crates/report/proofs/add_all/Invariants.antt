-- `add_all` adds to a load that another block can be added to. Assumes nothing.
use Rattle.load.specs.Steps.{load_value, Bounded}
use Rattle.report.proofs.add_all.Given as goal

abbrev pub invariant-loop : goal.invariant-loop
invariant-loop g l = Bounded (load_value l.sum)
