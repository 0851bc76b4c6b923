-- `lookup` meets its contract: the rules from the place on decide. Assumes nothing.
use Rattle.std.proofs.Common.{arith, rules, tests, sym, ◌∙◌}
use Rattle.policy.specs.Fields.{highest}
use Rattle.policy.specs.Values.{packet_of}
use Rattle.policy.proofs.Moves.{rule_proper, proper_whole}
use Rattle.table.proofs.Turns.{too_few, too_many, left_all, bad_rule, rule_fits, rule_misses, none_fits}
use Rattle.table.proofs.lookup.Goals as goal
use Rattle.table.proofs.lookup.Goals.{then-is_empty-via-then-is_empty, then-is_empty-via-else-is_empty+then-rules-gt-TOTAL_MOST}

pub returns-then-is_empty : goal.returns-then-is_empty
returns-then-is_empty c =
    let p = packet_of c.args.p in
    let table = c.args.rules.now in
    elim c.then-is_empty.branch [ then-is_empty-via-then-is_empty w ↦ too_few p table (search (rules, tests)) | then-is_empty-via-else-is_empty+then-rules-gt-TOTAL_MOST w ↦ too_many p table (search (rules, tests)) (omega arith) ]

pub loop-place-init : goal.loop-place-init
loop-place-init c = left_all (packet_of c.args.p) c.args.rules.now (search (rules, tests)) (omega arith)

pub returns-then-not-is_sound : goal.returns-then-not-is_sound
returns-then-not-is_sound c =
    bad_rule (packet_of c.args.p) c.args.rules.now c.loop-place.place c.loop-place.invariant c.loop-place-test.true _ (sym c.is_sound.ensures ∙ c.if-not-is_sound.true)

pub is_inside-requires : goal.is_inside-requires
is_inside-requires c = proper_whole highest _ (rule_proper _ (sym c.is_sound.ensures ∙ c.if-not-is_sound.false))

pub returns-then-is_inside : goal.returns-then-is_inside
returns-then-is_inside c =
    rule_fits (packet_of c.args.p) c.args.rules.now c.loop-place.place c.loop-place.invariant c.loop-place-test.true _
    (sym c.is_sound.ensures ∙ c.if-not-is_sound.false) (sym c.is_inside.ensures ∙ c.if-is_inside.true)

pub loop-place-preserved : goal.loop-place-preserved
loop-place-preserved c =
    rule_misses (packet_of c.args.p) c.args.rules.now c.loop-place.place c.loop-place.invariant c.loop-place-test.true _
    (sym c.is_sound.ensures ∙ c.if-not-is_sound.false) (sym c.is_inside.ensures ∙ c.if-is_inside.false)

pub returns : goal.returns
returns c = none_fits (packet_of c.args.p) c.args.rules.now c.loop-place.place c.loop-place.invariant c.loop-place-test.false
