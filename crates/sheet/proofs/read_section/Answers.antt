-- `read_section` answers at each of its tests what the definition gives there. Assumes nothing.
use borrow.Author.Rules.{rules}
use native.Mathlib.Omega.{arith}
use Rattle.sheet.proofs.SectionReader.{no_count, too_few, too_many, no_records, bad_rule, not_full, section_read}
use Rattle.sheet.proofs.read_section.Goals as goal
use Rattle.sheet.proofs.read_section.Goals.{then-count-lt1-via-then-count-lt1, then-count-lt1-via-else-count-lt1+then-most-count}

pub returns-then-s-lt-COUNT_BYTES : goal.returns-then-s-lt-COUNT_BYTES
returns-then-s-lt-COUNT_BYTES c = search (rules, no_count)

pub returns-then-count-lt1 : goal.returns-then-count-lt1
returns-then-count-lt1 c =
    elim c.then-count-lt1.branch [ then-count-lt1-via-then-count-lt1 w ↦ too_few _ _ (omega arith) _ c.count_at-count.ensures.0 (omega arith) | then-count-lt1-via-else-count-lt1+then-most-count w ↦ too_many _ _ (omega arith) _ c.count_at-count.ensures.0 (omega arith) (omega arith) ]

pub returns-then-s-next : goal.returns-then-s-next
returns-then-s-next c = search (rules, no_records)

pub returns-then-not-all_sound : goal.returns-then-not-all_sound
returns-then-not-all_sound c = search (rules, bad_rule)

pub returns-then-not-is_full : goal.returns-then-not-is_full
returns-then-not-is_full c =
    not_full _ _ (omega arith) _ c.count_at-count.ensures.0 (omega arith) (omega arith) (omega arith) _
    c.all_sound.ensures c.if-not-all_sound.false _ _ c.is_full.ensures c.box_at.ensures c.if-not-is_full.true

pub returns : goal.returns
returns c =
    section_read _ _ (omega arith) _ c.count_at-count.ensures.0 (omega arith) (omega arith) (omega arith) _
    c.all_sound.ensures c.if-not-all_sound.false _ _ c.is_full.ensures c.box_at.ensures c.if-not-is_full.false
