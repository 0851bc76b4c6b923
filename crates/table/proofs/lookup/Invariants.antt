-- `lookup` meets its contract: the rules from the place on decide. Assumes nothing.
use Rattle.policy.specs.Values.{packet_of}
use Rattle.table.proofs.Turns.{Left}
use Rattle.table.proofs.lookup.Given as goal

abbrev pub invariant-loop-place : goal.invariant-loop-place
invariant-loop-place l = Left (packet_of l.p) l.rules l.place
