-- The pair sheet that an edit writes around what stands in its buffer already (01, Calls). Assumes nothing.
use Rattle.std.specs.Prelude.{◌≡◌, List, ◌++◌, ℕ, ◌+◌, ◌-◌, ◌≤◌, ◌<◌, length, take, drop}
use Rattle.policy.specs.Fields.{count_size, record_size}
use Rattle.sheet.specs.Pairs.{pair_size}
use Rattle.sheet.specs.declared.PairLayout.{PairLayout}
use Rattle.draft.specs.Steps.{Laid, sheet_of}
use Rattle.edit_sheet.specs.declared.Kept.{Kept}

-- Bytes that are moved by one record, up or down, or not at all.
pub record OneRecord (from to : ℕ) : Type 0 where
  pub up : from < to → to ≡ from + record_size
  pub down : to < from → from ≡ to + record_size

-- What moving n bytes asks for: a record's distance at most, and room where they are and where they go.
pub record RoomReady (sheet : List ℕ) (from to n : ℕ) : Type 0 where
  pub apart : OneRecord from to
  pub old : from + n ≤ length sheet
  pub new : to + n ≤ length sheet

-- The bytes from `from` up to `to`.
abbrev pub part_of : ℕ → ℕ → List ℕ → List ℕ
part_of from to s = take (to - from) (drop from s)

-- The new order sheet: the bytes of the new A, and B as it stands in the sheet.
abbrev pub order_with : List ℕ → PairLayout → List ℕ → List ℕ
order_with list l s = list ++ part_of l.order.middle l.order.end s

-- The groups that stand in the sheet, behind their count.
abbrev pub groups_at : PairLayout → List ℕ → List ℕ
groups_at l s = part_of l.from l.end s

-- The pair sheet of a new A, B, the first groups that stand in the sheet, of so many bytes, and the groups handed over.
abbrev pub with_gate : List ℕ → PairLayout → List ℕ → ℕ → ℕ → List ℕ → List ℕ
with_gate s l list size groups behind = sheet_of (order_with list l s) groups (take size (drop l.from s) ++ behind)

-- How many groups there are with so many new ones.
abbrev pub group_count : Kept → ℕ → ℕ
group_count kept fresh = kept.before + (fresh + kept.behind)

-- What writing it asks for: what stands in the sheet is one record at most from where it goes, the groups handed over lie one behind
-- another, and all of it fits.
pub record GatePut (sheet : List ℕ) (l : PairLayout) (list : List ℕ) (kept : Kept) (fresh : ℕ) (behind : List ℕ) : Type 0 where
  pub apart : OneRecord l.order.middle (length list)
  pub up_to : l.order.middle ≤ l.order.end
  pub begin : l.from ≡ l.order.end + count_size
  pub old : l.from + kept.size ≤ length sheet
  pub laid : Laid (fresh + kept.behind) behind
  pub few : group_count kept fresh < 65536
  pub fits : length list + (l.order.end - l.order.middle) + count_size + kept.size + length behind ≤ pair_size
  pub room : pair_size ≤ length sheet

-- The pair sheet with another B.
abbrev pub with_own : List ℕ → PairLayout → List ℕ → List ℕ
with_own s l list = take l.order.middle s ++ (list ++ part_of l.order.end l.end s)

-- What writing it asks for: section C is one record at most from where it goes, and the sheet fits before and after.
pub record OwnPut (sheet : List ℕ) (l : PairLayout) (list : List ℕ) : Type 0 where
  pub apart : OneRecord l.order.end (l.order.middle + length list)
  pub up_to : l.order.middle ≤ l.order.end
  pub inside : l.order.end ≤ l.end
  pub old : l.end ≤ pair_size
  pub new : l.order.middle + length list + (l.end - l.order.end) ≤ pair_size
  pub room : pair_size ≤ length sheet
