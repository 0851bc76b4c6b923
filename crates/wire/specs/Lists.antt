-- A list in bytes: its count and its records (01, Sheets). The sections A and B of a sheet are lists too. Assumes nothing.
use Rattle.std.specs.Prelude.{List, ◌++◌, ℕ, ◌+◌, ◌*◌, length, take, drop}
use Rattle.policy.specs.Fields.{count_size, record_size}
use Rattle.policy.specs.Rules.{Rule}
use Rattle.wire.specs.Numbers.{number_bytes, number_in}
use Rattle.wire.specs.Records.{records_bytes, rules_in}

-- The count that bytes begin with.
abbrev pub count_in : List ℕ → ℕ
count_in s = number_in (take count_size s)

-- The rules of the list that bytes begin with.
abbrev pub list_rules : List ℕ → List Rule
list_rules s = rules_in (count_in s) (drop count_size s)

-- The bytes that a list of n rules takes.
abbrev pub list_size : ℕ → ℕ
list_size n = count_size + record_size * n

-- A list written: the count, then the records.
unfoldable pub list_bytes : List Rule → List ℕ
list_bytes l = number_bytes count_size (length l) ++ records_bytes l
