-- What the inner parts of the list calls answer and leave. Assumes nothing.
use Rattle.std.specs.Prelude.{◌≡◌, List, ℕ, ◌≤◌, length}
use Rattle.policy.specs.Fields.{limits}
use Rattle.policy.specs.Refusals.{Answered, Gives, test}
use Rattle.policy.specs.Move.{together, denials}
use Rattle.wire.specs.Records.{records_bytes, boxes_in}
use Rattle.wire.specs.Buffers.{filled}
use Rattle.sheet.specs.Steps.{groups_from, pair_at, PairLaid}
use Rattle.sheet.specs.declared.PairLayout.{PairLayout}
use Rattle.promises.specs.Calls.{both_lent, check_of, work_after}

-- The deny records of n boxes, which begin the bytes.
abbrev pub box_records : ℕ → List ℕ → List ℕ
box_records n s = records_bytes (denials (boxes_in n s))

-- Those of n groups, which begin the bytes.
abbrev pub group_records : ℕ → List ℕ → List ℕ
group_records n s = records_bytes (denials (together (groups_from n s)))

-- A list written: its length is answered, and zeros stand behind it.
pub record ListPut (content : List ℕ) (size : ℕ) (out : List ℕ) (r : ℕ) (out' : List ℕ) : Type 0 where
  pub answer : r ≡ length content
  pub result : out' ≡ filled size out content

-- A list call up to its writing: number 1 unless all that is lent is long enough, then check.
pub record CheckedWithRoom (s out : List ℕ) (room : ℕ) (w : List ℕ) (r : Answered PairLayout) (w' : List ℕ) : Type 0 where
  pub read : Gives (λ l. pair_at l s) (test (both_lent room out w) 1 (check_of limits s)) (λ l. PairLaid s l × (room ≤ length out)) r
  pub work : w' ≡ work_after (both_lent room out w) w
