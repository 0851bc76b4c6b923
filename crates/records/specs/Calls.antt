-- Record: bytes to a rule given as numbers, and back (01, Calls). Assumes nothing.
use Rattle.std.specs.Prelude.{◌≡◌, List, [], ◌∷◌, ◌++◌, map, ℕ, ◌+◌, eqb, length, take, drop, get_or}
use Rattle.policy.specs.Fields.{fields, record_size}
use Rattle.policy.specs.Ranges.{Range}
use Rattle.policy.specs.Rules.{Rule, rule, sound}
use Rattle.policy.specs.Refusals.{Answer, Outcome, accepted, test, said}
use Rattle.policy.specs.Values.{ranges}
use Rattle.wire.specs.Buffers.{room_for, written, answered}
use Rattle.wire.specs.Records.{record_bytes, rule_in}

-- A rule given as numbers: the lows, the highs, the action.
abbrev pub numbers_size : ℕ
numbers_size = fields + fields + 1

abbrev pub low_of : Range → ℕ
low_of r = r.low

abbrev pub high_of : Range → ℕ
high_of r = r.high

unfoldable pub rule_numbers : Rule → List ℕ
rule_numbers r = map low_of r.region ++ (map high_of r.region ++ (r.action ∷ []))

unfoldable pub numbers_rule : List ℕ → Rule
numbers_rule ns = rule (ranges (take fields ns) (take fields (drop fields ns))) (get_or ns (fields + fields) 0)

-- Bytes to numbers: room for the numbers (1), exactly a record's bytes (3), a rule that may stand (4).
unfoldable pub reading_of : List ℕ → List ℕ → Outcome Rule
reading_of s ns = test (room_for numbers_size ns) 1 (test (eqb (length s) record_size) 3 (test (sound (rule_in s)) 4 (accepted (rule_in s))))

-- Numbers to bytes: all the numbers and room for the record (1), a rule that may stand (4).
unfoldable pub writing_of : List ℕ → List ℕ → Outcome Rule
writing_of ns out =
    test (room_for numbers_size ns) 1
    (test (room_for record_size out) 1
    (test (sound (numbers_rule ns)) 4 (accepted (numbers_rule ns))))

pub record RecordRead (s ns : List ℕ) (r : Answer) (ns' : List ℕ) : Type 0 where
  pub answer : said r ≡ answered 0 (reading_of s ns)
  pub numbers : ns' ≡ written rule_numbers numbers_size ns (reading_of s ns)

pub record RecordWritten (ns out : List ℕ) (r : Answer) (out' : List ℕ) : Type 0 where
  pub answer : said r ≡ answered record_size (writing_of ns out)
  pub bytes : out' ≡ written record_bytes record_size out (writing_of ns out)
