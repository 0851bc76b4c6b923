-- `scan` meets its contract: the outer invariant says what is left of the search, the inner one that every field passed is in
-- its range, whatever the order. Assumes nothing.
use Rattle.std.proofs.Common.{◌≡◌, ◌≤◌, ◌-◌, true, length, get_or, sym, refl, ap, subst, ◌∙◌, arith, rules}
use Rattle.lists.proofs.Both.{above_more}
use Rattle.policy.specs.Fields.{fields, widths, highest}
use Rattle.policy.specs.Ranges.{Range, Region, within, Whole}
use Rattle.policy.specs.Rules.{sound}
use Rattle.policy.specs.Values.{region_of, rule_of}
use Rattle.policy.specs.declared.Rule.{Rule}
use Rattle.policy.proofs.Moves.{rule_proper, proper_whole}
use Rattle.wire.proofs.Records.{sound-length}
use Rattle.filter.proofs.Insides.{InRange, range_whole, outside_at, all_inside}
use Rattle.filter.proofs.Lookups.{left_all, bad_rule, rule_fits, rule_misses, none_fits_lem}
use Rattle.filter.proofs.scan.Goals as goal

pub rules-init : goal.rules-init
rules-init c = left_all c.args.p.values c.args.list.now c.args.count

pub returns-then-not-is_sound : goal.returns-then-not-is_sound
returns-then-not-is_sound c =
    let a = c.args in
    bad_rule a.p.values a.list.now a.count c.rules.i c.rules.invariant c.rules-test.true (rule_of c.rule_at-r.result) c.rule_at-r.ensures
    (sym c.is_sound.ensures ∙ c.if-not-is_sound.true)

pub fields-init : goal.fields-init
fields-init c = (refl, λ j l h. absurd (omega arith))

pub is_within-requires : goal.is_within-requires
is_within-requires c =
    let value : Rule = c.rule_at-r.result in
    let region : Region = region_of value.bounds in
    let is_sound : sound (rule_of value) ≡ true = search rules in
    let region_long : length region ≡ fields = sound-length (rule_of value) is_sound in
    let region_whole : Whole region = proper_whole highest region (rule_proper (rule_of value) is_sound) in
    let h = range_whole region (c.fields.k - 1) region_whole (omega (arith, region_long)) in
    subst (λ (r : Range). r.low ≤ r.high) (sym c.range.ensures) h

pub rules-preserved : goal.rules-preserved
rules-preserved c =
    let value : Rule = c.rule_at-r.result in
    let region : Region = region_of value.bounds in
    let is_sound : sound (rule_of value) ≡ true = search rules in
    let region_long : length region ≡ fields = sound-length (rule_of value) is_sound in
    let packet_long : length c.args.p.values ≡ fields = search rules in
    let missed = sym (c.is_within.ensures ∙ ap (within (get_or c.args.p.values (c.fields.k - 1) 0)) c.range.ensures) ∙ c.if-not-is_within.true in
    let outside = outside_at c.args.p.values region (c.fields.k - 1) (omega (arith, packet_long)) (omega (arith, region_long)) missed in
    rule_misses c.args.p.values c.args.list.now c.args.count c.rules.i c.rules.invariant c.rules-test.true (rule_of value) c.rule_at-r.ensures is_sound outside

pub fields-preserved : goal.fields-preserved
fields-preserved c =
    let region : Region = region_of c.rule_at-r.result.bounds in
    let h = sym (c.is_within.ensures ∙ ap (within (get_or c.args.p.values (c.fields.k - 1) 0)) c.range.ensures) ∙ c.if-not-is_within.false in
    (c.fields.invariant.0, above_more (InRange c.args.p.values region) fields c.fields.k c.fields.invariant.1 h)

pub returns-in-rules : goal.returns-in-rules
returns-in-rules c =
    let value : Rule = c.rule_at-r.result in
    let region : Region = region_of value.bounds in
    let is_sound : sound (rule_of value) ≡ true = search rules in
    let region_long : length region ≡ fields = sound-length (rule_of value) is_sound in
    let packet_long : length c.args.p.values ≡ fields = search rules in
    rw c.fields.invariant.0 (
    rule_fits c.args.p.values c.args.list.now c.args.count c.rules.i c.rules.invariant c.rules-test.true (rule_of value) c.rule_at-r.ensures is_sound
    (all_inside c.args.p.values region (packet_long ∙ sym region_long) (λ j h. c.fields.invariant.1 j (omega arith) (omega (arith, packet_long)))))

pub returns : goal.returns
returns c =
    let a = c.args in
    none_fits_lem a.p.values a.list.now a.count c.rules.i c.rules.invariant c.rules-test.false
