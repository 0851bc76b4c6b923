-- Groups that stand in bytes one behind another (01, Sheets). Assumes nothing.
use Rattle.std.specs.Prelude.{◌≡◌, List, true, ℕ, ◌+◌, ◌*◌, ◌≤◌, length, take}
use Rattle.lists.specs.Lists.{every, Each}
use Rattle.policy.specs.Fields.{box_size, count_size, limits, highest}
use Rattle.policy.specs.Ranges.{Region, proper}
use Rattle.sheet.specs.Pairs.{groups_bytes}
use Rattle.sheet.specs.Steps.{groups_from, box_count}

-- The bytes that the first n groups of these take.
abbrev pub run_size : ℕ → List ℕ → ℕ
run_size n s = count_size * n + box_size * box_count n s

-- Groups that were accepted stand at the front of these bytes.
pub record GroupsHeld (s : List ℕ) (n : ℕ) : Type 0 where
  pub boxes : Each (λ (g : List Region). every (proper highest) g ≡ true) (groups_from n s)
  pub bytes : groups_bytes (groups_from n s) ≡ take (run_size n s) s
  pub there : run_size n s ≤ length s
  pub few : box_count n s ≤ limits.total
