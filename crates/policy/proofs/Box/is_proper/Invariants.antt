-- `Box::is_proper` meets its contract: the loop's invariant says that every field passed is proper. Assumes nothing.
use Rattle.std.proofs.Common.{◌≡◌, true, ◌≤◌, ◌<◌, get_or, ℕ, length}
use Rattle.policy.specs.Fields.{fields, highest}
use Rattle.policy.specs.Ranges.{Region, proper_range}
use Rattle.policy.specs.Values.{region_of}
use Rattle.policy.specs.Steps.{range_at}
use Rattle.policy.proofs.Box.is_proper.Given as goal

abbrev pub ProperAt : Region → ℕ → Type 0
ProperAt b k = proper_range (get_or highest k 0) (range_at b k) ≡ true

abbrev pub invariant-loop-k : goal.invariant-loop-k
invariant-loop-k l = (length (region_of l.self) ≡ fields) × ((j : ℕ) → l.k ≤ j → j < fields → ProperAt (region_of l.self) j)
