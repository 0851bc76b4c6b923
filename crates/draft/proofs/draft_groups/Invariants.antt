-- `draft_groups` meets its contract. Assumes nothing.
use Rattle.policy.specs.Move.{alone}
use Rattle.draft.proofs.Turns.{Going}
use Rattle.draft.proofs.draft_groups.Given as goal

abbrev pub invariant-loop-i : goal.invariant-loop-i
invariant-loop-i l = Going alone l.rules l.from l.to l.initial.draft l.boxes l.initial.work l.draft l.work l.i l.done.groups l.done.end l.done.boxes
