-- The words in which the code counts fields that miss and tells a verdict. Assumes nothing.
use Rattle.std.specs.Prelude.{ℕ, cond, ◌<◌, ◌≤◌}
use Rattle.policy.specs.Fields.{limits}
use Rattle.policy.specs.Ranges.{Range, within}
use Rattle.filter.specs.declared.Decision.{Decision}

-- 1 for a value outside a range, 0 for one inside it.
abbrev pub miss_of : ℕ → Range → ℕ
miss_of x r = cond (within x r) 0 1

-- A place that a list can have, and one of the two actions.
abbrev pub InTotal : Decision → Type 0
InTotal d = (d.place < limits.total) × (d.action ≤ 1)
