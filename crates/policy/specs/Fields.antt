-- The fields' table and the limits of the two filters. Every other size is derived from these rows.
-- Assumes nothing.
use Rattle.std.specs.Prelude.{List, [], ◌∷◌, map, ℕ, ◌+◌, ◌*◌, length}

-- A field: the highest value that it takes, and the bytes that hold it.
pub record Field : Type 0 where
  pub highest : ℕ
  pub width : ℕ

abbrev field : ℕ → ℕ → Field
field h w = record { highest = h; width = w }

-- 01, The five fields: source address, destination address, source port, destination port, protocol.
abbrev pub field_table : List Field
field_table = field 4294967295 4 ∷ field 4294967295 4 ∷ field 65535 2 ∷ field 65535 2 ∷ field 255 1 ∷ []

abbrev highest_of : Field → ℕ
highest_of f = f.highest

abbrev width_of : Field → ℕ
width_of f = f.width

-- How many fields there are, the table's highest values, and its widths.
abbrev pub fields : ℕ
fields = length field_table

unfoldable pub highest : List ℕ
highest = map highest_of field_table

abbrev pub widths : List ℕ
widths = map width_of field_table

-- The bytes that ranges of given widths take: a low and a high each.
abbrev pub size_of : List ℕ → ℕ
size_of [] = 0
size_of (w ∷ ws) = w + w + size_of ws

-- 01, Sheets: a record is a box and the action's byte.
abbrev pub box_size : ℕ
box_size = size_of widths

abbrev pub action_size : ℕ
action_size = 1

abbrev pub record_size : ℕ
record_size = box_size + action_size

-- 01, Sheets: how many bytes a count takes.
abbrev pub count_size : ℕ
count_size = 2

-- What a call is bound by: the most rules of A, the most rules of B, the most pieces of one deny rule while its group is
-- worked out (number 6), and the most boxes and own rules together (number 7), which is the most rules of a list too.
pub record Limits : Type 0 where
  pub gate : ℕ
  pub own : ℕ
  pub pieces : ℕ
  pub total : ℕ

-- 01, Sheets and Numbers given back.
abbrev pub limits : Limits
limits = record { gate = 64; own = 256; pieces = 1024; total = 1024 }

-- 01, Calls: the work buffer holds two lists of as many boxes as one deny rule may have pieces.
abbrev pub work_size : ℕ
work_size = 2 * limits.pieces * box_size
