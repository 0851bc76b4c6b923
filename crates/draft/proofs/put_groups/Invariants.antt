-- `put_groups` meets its contract: the groups up to a byte of the draft stand in the sheet. Assumes nothing.
use mathlib.Core.Path.{◌≡◌}
use Prim.Native.Nat.{◌-◌, ◌≤◌}
use lib.ListN.{length, take, drop}
use lib.Seq.{sets}
use Rattle.draft.specs.Steps.{Laid}
use Rattle.draft.proofs.put_groups.Given as goal

abbrev pub invariant-loop : goal.invariant-loop
invariant-loop l =
    (l.from ≤ length l.draft) × (l.sheet ≡ sets l.initial.sheet l.at (take l.from l.draft)) × Laid (l.groups - l.counter) (drop l.from l.draft)
