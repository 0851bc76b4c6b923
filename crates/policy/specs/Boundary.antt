-- The first twelve lines of the boundary table, as one table under one statement (01, Boundary table; the second line as 02, W2,
-- has it); and the second line as it was moved before. Assumes nothing.
use Rattle.std.specs.Prelude.{◌≡◌, List, [], ◌∷◌, ◌++◌, true, ℕ, ◌-◌, length, drop}
use Rattle.policy.specs.Fields.{limits}
use Rattle.policy.specs.Ranges.{range, Region, Packet, inside, Whole}
use Rattle.policy.specs.Cut.{cut, group}
use Rattle.policy.specs.Rules.{full, Rule, rule, Found, found, first}
use Rattle.policy.specs.Move.{Pair, moved}
use Rattle.policy.specs.Check.{check_refusal}

-- The table's M, the highest address.
abbrev M : ℕ
M = 4294967295

-- Fields that a line does not show are full.
abbrev shown : Region → Region
shown b = b ++ drop (length b) full

abbrev box : ℕ → ℕ → ℕ → ℕ → Region
box a b c d = shown (range a b ∷ range c d ∷ [])

abbrev source : ℕ → ℕ → Region
source a b = shown (range a b ∷ [])

-- A packet's source, and what decides of it.
pub record Sent : Type 0 where
  pub from : ℕ
  pub decided : Found

abbrev sent : ℕ → Found → Sent
sent s f = record { from = s; decided = f }

-- The kinds of line: a box less some others; every box less itself; packets and a list; a gate and its groups.
pub data Line : Type 0 where
  less : Region → List Region → List Region → Line
  less_itself : Line
  decides : List Rule → List Sent → Line
  gives : List Rule → List (List Region) → Line

abbrev pub boundary_table : List Line
boundary_table =
    less (box 1 8 2 7) (box 4 6 4 6 ∷ []) (box 1 3 2 7 ∷ box 7 8 2 7 ∷ box 4 6 2 3 ∷ box 4 6 7 7 ∷ [])
    ∷ less (box 0 9 0 4) (box 3 5 6 9 ∷ []) (box 0 9 0 4 ∷ [])
    ∷ less (box 4 6 4 6) (box 1 8 2 7 ∷ []) []
    ∷ less_itself
    ∷ less (box 0 3 0 9) (box 4 9 0 9 ∷ []) (box 0 3 0 9 ∷ [])
    ∷ less (box 0 4 0 9) (box 4 9 0 9 ∷ []) (box 0 3 0 9 ∷ [])
    ∷ less (source 0 M) (source M M ∷ []) (source 0 (M - 1) ∷ [])
    ∷ less (source 0 M) (source 0 0 ∷ []) (source 1 M ∷ [])
    ∷ less (source 0 9) (source 2 3 ∷ source 5 6 ∷ []) (source 0 1 ∷ source 4 4 ∷ source 7 9 ∷ [])
    ∷ decides (rule (source 5 9) 0 ∷ rule (source 0 5) 1 ∷ rule full 0 ∷ [])
    (sent 5 (found 0 0) ∷ sent 0 (found 1 1) ∷ sent 10 (found 2 0) ∷ [])
    ∷ gives (rule full 1 ∷ []) []
    ∷ gives (rule full 0 ∷ []) ((full ∷ []) ∷ [])
    ∷ []

-- Every packet from the source whose other values are in their limits is decided so.
unfoldable pub Decides : List Rule → List Sent → Type 0
Decides l [] = Unit {0}
Decides l (s ∷ ss) =
    ((p : Packet) → inside p (drop 1 full) ≡ true → first (s.from ∷ p) l ≡ s.decided) × Decides l ss

unfoldable pub Holds : Line → Type 0
Holds (less d allows left) = group (d ∷ []) allows ≡ left
Holds less_itself = (b : Region) → Whole b → cut b b ≡ []
Holds (decides l ss) = Decides l ss
Holds (gives gate groups) = (moved (record { gate = gate; own = [] })).groups ≡ groups

unfoldable pub Right : List Line → Type 0
Right [] = Unit {0}
Right (l ∷ ls) = Holds l × Right ls

abbrev pub BoundaryTheorem : Type 0
BoundaryTheorem = Right boundary_table

-- The second line as a gate, with the three boxes that were made of its deny before W2.
abbrev pub moved_before : Pair
moved_before = record {
  order = record { gate = rule (box 3 5 6 9) 1 ∷ rule (box 0 9 0 4) 0 ∷ rule full 1 ∷ []; own = rule full 1 ∷ [] };
  groups = (box 0 2 0 4 ∷ box 6 9 0 4 ∷ box 3 5 0 4 ∷ []) ∷ [];
}

-- 02, W2: check refuses it with 8.
abbrev pub OldCutTheorem : Type 0
OldCutTheorem = check_refusal limits moved_before ≡ 8
