-- An order sheet as it is written, and a list's length after an edit. Assumes nothing.
use Rattle.std.specs.Prelude.{List, ℕ, ◌+◌, ◌-◌, ◌≤◌, ◌<◌, ◌≡◌, ◌++◌, length, take, replicate, flat_map}
use Rattle.std.proofs.lemmas.List.Edits.{sets}
use Rattle.policy.specs.Fields.{count_size, record_size}
use Rattle.policy.specs.Rules.{Rule}
use Rattle.promises.specs.declared.Change.{Change}
use Rattle.promises.specs.declared.Change.TheVariants.{Insert, Delete, Replace}
use Rattle.wire.specs.Numbers.{number_bytes}
use Rattle.wire.specs.Records.{record_bytes}

-- A count and a record, written over zeros.
abbrev pub count_put : ℕ → List ℕ
count_put n = sets (replicate count_size 0) 0 (number_bytes count_size n)

abbrev pub record_put : Rule → List ℕ
record_put r = sets (replicate record_size 0) 0 (record_bytes r)

-- A list: its count, and so many records.
abbrev pub list_put : ℕ → List (List ℕ) → List ℕ
list_put count records = count_put count ++ flat_map (λ r. r) (take count records)

-- Bytes put behind the first `used` ones: there they stand where there is room for them, and else nothing has changed.
unfoldable pub Added : ℕ → List ℕ → List ℕ → ℕ → List ℕ → Type 0
Added used bytes more end after =
    (used + length more ≤ length bytes → (end ≡ used + length more) × (take end after ≡ take used bytes ++ more))
    × (length bytes < used + length more → (end ≡ used) × (after ≡ bytes))
    × (length after ≡ length bytes)

-- How many rules a list of so many has after an edit.
unfoldable pub count_after : Change → ℕ → ℕ
count_after Insert n = n + 1
count_after Delete n = n - 1
count_after Replace n = n
