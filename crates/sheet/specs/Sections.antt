-- A section of a sheet, read from left to right (01, Sheets and Numbers given back).
-- Assumes nothing.
use Rattle.std.specs.Prelude.{List, ℕ, leb, length, drop}
use Rattle.lists.specs.Lists.{every}
use Rattle.policy.specs.Fields.{count_size}
use Rattle.policy.specs.Rules.{Rule, sound, complete}
use Rattle.policy.specs.Refusals.{Outcome, accepted, test}
use Rattle.wire.specs.Lists.{count_in, list_rules, list_size}

-- What was read, and the bytes behind it.
pub record Reading (A : Type 0) : Type 0 where
  pub value : A
  pub rest : List ℕ

abbrev pub reading : {A : Type 0} → A → List ℕ → Reading A
reading v t = record { value = v; rest = t }

-- The first refusal decides: no count (3), a count outside its limits (2), too few bytes for so many records (3), a record that
-- is no rule (4), a last one that is not full (5).
unfoldable pub section : ℕ → List ℕ → Outcome (Reading (List Rule))
section most s =
    test (leb count_size (length s)) 3
    (test (leb 1 (count_in s)) 2
    (test (leb (count_in s) most) 2
    (test (leb (list_size (count_in s)) (length s)) 3
    (test (every sound (list_rules s)) 4
    (test (complete (list_rules s)) 5
    (accepted (reading (list_rules s) (drop (list_size (count_in s)) s))))))))
