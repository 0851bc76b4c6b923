-- `record` meets its contract, return by return. Assumes nothing.
use native.Mathlib.Omega.{arith}
use Rattle.records.proofs.Calls.{few_numbers, few_bytes, bad_numbers, record_written}
use Rattle.records.proofs.record.Goals as goal
use Rattle.records.proofs.record.Goals.{then-numbers-lt-NUMBERS-via-then-numbers-lt-NUMBERS, then-numbers-lt-NUMBERS-via-else-numbers-lt-NUMBERS+then-bytes-lt-RECORD_BYTES}

pub returns-then-numbers-lt-NUMBERS : goal.returns-then-numbers-lt-NUMBERS
returns-then-numbers-lt-NUMBERS c =
    elim c.then-numbers-lt-NUMBERS.branch [ then-numbers-lt-NUMBERS-via-then-numbers-lt-NUMBERS w ↦ few_numbers _ _ (omega arith) | then-numbers-lt-NUMBERS-via-else-numbers-lt-NUMBERS+then-bytes-lt-RECORD_BYTES w ↦ few_bytes _ _ (omega arith) (omega arith) ]

pub returns-then-not-is_sound : goal.returns-then-not-is_sound
returns-then-not-is_sound c = bad_numbers _ _ (omega arith) (omega arith) _ c.rule_of-r.ensures _ c.is_sound.ensures c.if-not-is_sound.true

pub returns : goal.returns
returns c = record_written _ _ (omega arith) (omega arith) _ c.rule_of-r.ensures _ c.is_sound.ensures c.if-not-is_sound.false _ c.put_rule.ensures
