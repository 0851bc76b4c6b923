-- What the inner parts of move answer and leave, once everything lent is long enough. Assumes nothing.
use Rattle.std.specs.Prelude.{List, ℕ, ◌+◌, ◌≤◌, ◌<◌, length}
use Rattle.policy.specs.Refusals.{Answer}
use Rattle.policy.specs.Fields.{count_size, limits}
use Rattle.sheet.specs.Pairs.{pair_bytes, pair_size}
use Rattle.draft.specs.Steps.{Laid}
use Rattle.promises.specs.Calls.{move_of}
use Rattle.promises.specs.Steps.{Writes}

-- What writing the pair sheet asks for: the groups lie one behind another in the draft, and all of it fits.
pub record PairPut (sheet order : List ℕ) (groups : ℕ) (draft : List ℕ) : Type 0 where
  pub laid : Laid groups draft
  pub few : groups < 65536
  pub fits : length order + count_size + length draft ≤ pair_size
  pub room : pair_size ≤ length sheet

-- The order sheet read and planned.
abbrev pub Planned : List ℕ → List ℕ → List ℕ → Answer → List ℕ → List ℕ → Type 0
Planned s out w r out' w' = Writes pair_bytes pair_size (move_of limits s) out w r out' w'
