-- `find_around` meets its contract. Assumes nothing.
use native.Mathlib.Omega.{arith}
use lib.ListN.{drop}
use Rattle.policy.specs.Fields.{count_size}
use Rattle.wire.proofs.Records.{rules_in-length}
use Rattle.sheet.specs.Steps.{rules_of}
use Rattle.sheet.proofs.Pairs.{denies_most}
use Rattle.edit_groups.proofs.Touched.{touched_is, around_all, around_kept}
use Rattle.edit_groups.proofs.find_around.Goals as goal

pub overflow_add-later : goal.overflow_add-later
overflow_add-later c =
    let a = c.args in
    omega (arith, c.taken_and_put-taken.ensures, c.count_denies-earlier.ensures, denies_most (rules_of a.request.place a.pair.now), rules_in-length a.request.place (drop count_size a.pair.now), c.requires.gate_there, c.requires.taken)

pub returns-then-touched : goal.returns-then-touched
returns-then-touched c =
    let by = c.taken_and_put-taken.ensures in
    around_all c.requires c.count_denies-earlier.ensures by (touched_is c.requires c.count_denies-earlier.ensures by c.is_touched-touched.ensures) c.if-touched.true

pub returns-else-touched : goal.returns-else-touched
returns-else-touched c =
    let by = c.taken_and_put-taken.ensures in
    around_kept c.requires c.count_denies-earlier.ensures by (touched_is c.requires c.count_denies-earlier.ensures by c.is_touched-touched.ensures) c.if-touched.false
