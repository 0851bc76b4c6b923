-- `rule` meets its contract, return by return. Assumes nothing.
use borrow.Author.Rules.{rules}
use native.Mathlib.Omega.{arith}
use mathlib.Core.Path.{◌≡◌}
use lib.ListN.{length}
use Rattle.policy.specs.Fields.{record_size}
use Rattle.records.proofs.Calls.{no_room, not_a_record, bad_record, record_read}
use Rattle.records.proofs.rule.Goals as goal

pub returns-then-numbers-lt-NUMBERS : goal.returns-then-numbers-lt-NUMBERS
returns-then-numbers-lt-NUMBERS c = search (rules, no_room)

pub returns-then-bytes-ne-RECORD_BYTES : goal.returns-then-bytes-ne-RECORD_BYTES
returns-then-bytes-ne-RECORD_BYTES c =
    let n : length c.args.bytes.now ≡ record_size → ⊥ = λ e. omega arith in
    search (rules, not_a_record)

pub returns-then-not-is_sound : goal.returns-then-not-is_sound
returns-then-not-is_sound c =
    let long : length c.args.bytes.now ≡ record_size = omega arith in
    search (rules, bad_record)

pub returns : goal.returns
returns c =
    let long : length c.args.bytes.now ≡ record_size = omega arith in
    search (rules, record_read)
