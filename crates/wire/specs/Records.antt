-- Boxes and records as bytes (01, Sheets): field by field of the table, the low and the high in the field's width, and for a
-- record the action's byte behind them. Assumes nothing.
use Rattle.std.specs.Prelude.{List, [], ◌∷◌, ◌++◌, ℕ, zero, suc, ◌+◌, ◌^◌, ◌<◌, take, drop}
use Rattle.policy.specs.Fields.{widths, box_size, action_size, record_size}
use Rattle.policy.specs.Ranges.{range, Region}
use Rattle.policy.specs.Rules.{Rule, rule}
use Rattle.wire.specs.Numbers.{number_bytes, number_in}

-- Ranges written in these widths, and read.
unfoldable pub ranges_bytes : List ℕ → Region → List ℕ
ranges_bytes [] b = []
ranges_bytes (w ∷ ws) [] = []
ranges_bytes (w ∷ ws) (r ∷ b) = number_bytes w r.low ++ (number_bytes w r.high ++ ranges_bytes ws b)

unfoldable pub ranges_in : List ℕ → List ℕ → Region
ranges_in [] s = []
ranges_in (w ∷ ws) s = range (number_in (take w s)) (number_in (take w (drop w s))) ∷ ranges_in ws (drop (w + w) s)

-- A box, written and read.
abbrev pub box_bytes : Region → List ℕ
box_bytes b = ranges_bytes widths b

abbrev pub box_in : List ℕ → Region
box_in s = ranges_in widths s

-- A record, written and read.
unfoldable pub record_bytes : Rule → List ℕ
record_bytes r = box_bytes r.region ++ number_bytes action_size r.action

unfoldable pub rule_in : List ℕ → Rule
rule_in s = rule (box_in s) (number_in (take action_size (drop box_size s)))

-- Items one after another: written, and n of them read, each of the same size.
unfoldable pub each_bytes : {A : Type 0} → (A → List ℕ) → List A → List ℕ
each_bytes write [] = []
each_bytes write (a ∷ l) = write a ++ each_bytes write l

unfoldable pub each_in : {A : Type 0} → ℕ → (List ℕ → A) → ℕ → List ℕ → List A
each_in size read zero s = []
each_in size read (suc n) s = read s ∷ each_in size read n (drop size s)

-- So for boxes and for records.
abbrev pub boxes_bytes : List Region → List ℕ
boxes_bytes bs = each_bytes box_bytes bs

abbrev pub boxes_in : ℕ → List ℕ → List Region
boxes_in n s = each_in box_size box_in n s

abbrev pub records_bytes : List Rule → List ℕ
records_bytes rs = each_bytes record_bytes rs

abbrev pub rules_in : ℕ → List ℕ → List Rule
rules_in n s = each_in record_size rule_in n s

-- Every number of the box fits its field's width, and there are as many as the table has.
unfoldable pub Fits : List ℕ → Region → Type 0
Fits [] [] = Unit {0}
Fits [] (r ∷ b) = ⊥
Fits (w ∷ ws) [] = ⊥
Fits (w ∷ ws) (r ∷ b) = (r.low < 256 ^ w) × (r.high < 256 ^ w) × Fits ws b
