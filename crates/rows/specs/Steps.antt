-- A pair sheet's rules as rows of numbers: what a row says, and what a table of rows has. Assumes nothing.
use Rattle.std.specs.Prelude.{◌≡◌, List, [], ◌∷◌, ◌++◌, ℕ, ◌+◌, ◌*◌, ◌-◌, ◌≤◌, length, get_or}
use Rattle.policy.specs.Fields.{fields, highest, limits}
use Rattle.policy.specs.Ranges.{range, Region}
use Rattle.policy.specs.Move.{Pair, together}
use Rattle.policy.specs.Steps.{regions}
use Rattle.wire.specs.Records.{each_bytes, each_in}
use Rattle.sheet.specs.Steps.{pair_at}
use Rattle.sheet.specs.declared.PairLayout.{PairLayout}
use Rattle.origins.specs.Steps.{front_of}

-- The numbers of a row. A table has room for those of A and of the cell list; behind them stands a front for each rule of A and one more.
abbrev pub row_size : ℕ
row_size = 2 * fields

abbrev pub fronts_at : ℕ
fronts_at = row_size * (limits.gate + limits.total)

abbrev pub table_size : ℕ
table_size = fronts_at + (limits.gate + 1)

-- A row written: for each field its low, and how far its high lies above it.
unfoldable pub row_numbers : Region → List ℕ
row_numbers [] = []
row_numbers (r ∷ b) = r.low ∷ (r.high - r.low) ∷ row_numbers b

-- A row read: a range for each field, of which there are as many as numbers in the first list.
unfoldable pub spans_in : List ℕ → List ℕ → Region
spans_in [] t = []
spans_in (h ∷ hs) [] = []
spans_in (h ∷ hs) (low ∷ []) = []
spans_in (h ∷ hs) (low ∷ (span ∷ t)) = range low (low + span) ∷ spans_in hs t

abbrev pub row_in : List ℕ → Region
row_in t = spans_in highest t

-- Rows one after another, written and read.
abbrev pub rows_numbers : List Region → List ℕ
rows_numbers bs = each_bytes row_numbers bs

abbrev pub rows_in : ℕ → List ℕ → List Region
rows_in n t = each_in row_size row_in n t

-- The boxes of a pair: A's, in order, and those of the cell list, in order: of every group, then of the own rules.
unfoldable pub all_boxes : Pair → List Region
all_boxes q = regions q.order.gate ++ (together q.groups ++ regions q.order.own)

-- The front of each rule of A and of A's end.
abbrev pub Fronts : Pair → List ℕ → Type 0
Fronts q table = (j : ℕ) → j ≤ length q.order.gate → get_or table (fronts_at + j) 0 ≡ front_of q j

-- A table's first rows are the boxes of a sheet, and its fronts are there.
pub record Tabled (s : List ℕ) (l : PairLayout) (table : List ℕ) : Type 0 where
  pub long : table_size ≤ length table
  pub rows : rows_in (length (all_boxes (pair_at l s))) table ≡ all_boxes (pair_at l s)
  pub fronts : Fronts (pair_at l s) table
