-- Edit: a pair sheet in its buffer changed at one place (01, Calls and Numbers given back). Assumes nothing.
use Rattle.std.specs.Prelude.{List, Bool, true, ◌&&◌, ℕ, leb, eqb, length, take}
use Rattle.policy.specs.Fields.{record_size, Limits, limits, work_size}
use Rattle.policy.specs.Refusals.{Answer, Outcome, test, and_then, unless}
use Rattle.policy.specs.Move.{Pair}
use Rattle.policy.specs.Edit.{Kind, insert, delete, replace, Edit, place_found, edited, change_refusal}
use Rattle.wire.specs.Records.{rule_in}
use Rattle.sheet.specs.Pairs.{pair_in, pair_bytes, pair_size}
use Rattle.promises.specs.Calls.{Call}
use Rattle.wire.specs.Buffers.{room_for}
use Rattle.promises.specs.declared.Change.{Change}
use Rattle.promises.specs.declared.Request.{Request}
use Rattle.promises.specs.declared.Change.TheVariants.{Insert, Delete, Replace}

-- An edit as it is asked for: which list (0 is A, 1 is B), the place, what to do there, and the record's bytes, which a delete does
-- not look at.
pub record Asked : Type 0 where
  pub which : ℕ
  pub place : ℕ
  pub change : Change
  pub bytes : List ℕ

-- The request that a call for C makes of its arguments.
abbrev pub request : ℕ → ℕ → Change → Request
request which place change = record { which = which; place = place; change = change }

abbrev pub asked : Request → List ℕ → Asked
asked r new = record { which = r.which; place = r.place; change = r.change; bytes = new }

abbrev pub kind_of : Change → List ℕ → Kind
kind_of Insert s = insert (rule_in s)
kind_of Delete s = delete
kind_of Replace s = replace (rule_in s)

abbrev pub edit_of : Asked → Edit
edit_of a = record { in_gate = eqb a.which 0; place = a.place; kind = kind_of a.change a.bytes }

-- 3: the record, where one is put in, has a record's length.
abbrev pub whole_record : Change → List ℕ → Bool
whole_record Insert s = eqb (length s) record_size
whole_record Delete s = true
whole_record Replace s = eqb (length s) record_size

-- On a pair that was read: 9 (also where there is no such list), 3 for the record's length, then 2, 4, 5, 6, 7.
unfoldable pub change_of : Limits → Asked → Pair → Outcome Pair
change_of lim a p =
    test (leb a.which 1 && place_found (edit_of a) p.order) 9
    (test (whole_record a.change a.bytes) 3 (unless (change_refusal lim (edit_of a) p) (edited (edit_of a) p)))

-- What reading the bytes of a pair sheet gives, then the change.
unfoldable pub edited_of : Limits → List ℕ → Asked → Outcome Pair
edited_of lim s a = and_then (pair_in lim s) (change_of lim a)

-- Number 1: the sheet's buffer and the work buffer are long enough, and the stated length is not above the former.
abbrev pub edit_lent : List ℕ → ℕ → List ℕ → Bool
edit_lent buffer used w = room_for pair_size buffer && (leb used (length buffer) && room_for work_size w)

abbrev pub Edits : List ℕ → ℕ → Asked → List ℕ → Answer → List ℕ → List ℕ → Type 0
Edits buffer used a w r buffer' w' = Call pair_bytes pair_size (edit_lent buffer used w) (edited_of limits (take used buffer) a) buffer w r buffer' w'
