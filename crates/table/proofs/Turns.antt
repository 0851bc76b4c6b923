-- A turn of the lookup in a table: what the rule at a place says of the lookup, and what is left behind it. Assumes nothing.
use Rattle.std.proofs.Common.{◌≡◌, ℕ, suc, ◌+◌, ◌<◌, ◌≤◌, true, false, cond, List, length, get_or, drop, map, refl, sym, ◌∙◌, arith, leb, le-leb, leb-true}
use native.Mathlib.Numerals.{add-one}
use lib.ListN.{length-map, get_or-map, drop_of_length-le}
use lib.Seq.{drop-cons}
use borrow.Author.Tests.{lt-leb}
use Rattle.policy.specs.Fields.{limits}
use Rattle.policy.specs.Ranges.{Packet, inside}
use Rattle.policy.specs.Rules.{Rule, sound}
use Rattle.policy.specs.Refusals.{accepted, refused, test}
use Rattle.policy.specs.Values.{rule_of}
use Rattle.policy.specs.declared.Rule.{Rule as RuleValue}
use Rattle.policy.proofs.Answers.{test_accepted}
use Rattle.filter.specs.Lookup.{hit, look_from, Verdict, verdict}
use Rattle.filter.specs.Steps.{InTotal}
use Rattle.filter.proofs.Verdicts.{look_small}
use Rattle.std.specs.Prelude.{Ok, Err, IfOk}
use Rattle.table.specs.Table.{lookup_table}

module _ (p : Packet) (table : List RuleValue) where
  abbrev rules : List Rule
  rules = map rule_of table

  pub too_few : length table < 1 → refused 2 ≡ lookup_table limits.total p rules
  unfolding lookup_table
  too_few h = rw (length-map table rule_of, lt-leb 1 (length table) h) refl

  module _ (some : 1 ≤ length table) where
    pub too_many : limits.total < length table → refused 2 ≡ lookup_table limits.total p rules
    unfolding lookup_table
    too_many h = rw (length-map table rule_of, le-leb 1 (length table) some, lt-leb (length table) limits.total h) refl

    -- The rules from a place on decide.
    pub left_all : length table ≤ limits.total → look_from 0 p rules ≡ lookup_table limits.total p rules
    unfolding lookup_table
    left_all h = rw (length-map table rule_of, le-leb 1 (length table) some, le-leb (length table) limits.total h) refl

  abbrev pub Left : ℕ → Type 0
  Left i = look_from i p (drop i rules) ≡ lookup_table limits.total p rules

  module _ (i : ℕ) (left : Left i) where
    module _ (here : i < length table) (blank : RuleValue) where
      abbrev rule : Rule
      rule = rule_of (get_or table i blank)

      turn : look_from i p (drop i rules) ≡ test (sound rule) 4 (cond (inside p rule.region) (accepted (hit i rule.action)) (look_from (suc i) p (drop (suc i) rules)))
      unfolding look_from
      turn = rw (drop-cons rules i (rule_of blank) (rw length-map here), get_or-map rule_of table i blank) refl

      pub bad_rule : sound rule ≡ false → refused 4 ≡ lookup_table limits.total p rules
      bad_rule e = sym (turn ∙ rw e refl) ∙ left

      module _ (well : sound rule ≡ true) where
        pub rule_fits : inside p rule.region ≡ true → accepted (hit i rule.action) ≡ lookup_table limits.total p rules
        rule_fits e = sym (turn ∙ rw (well, e) refl) ∙ left

        pub rule_misses : inside p rule.region ≡ false → Left (i + 1)
        rule_misses e = rw (add-one i) (sym (turn ∙ rw (well, e) refl) ∙ left)

    pub none_fits : length table ≤ i → refused 5 ≡ lookup_table limits.total p rules
    unfolding look_from
    none_fits h = sym (rw (drop_of_length-le rules {i = i} (rw length-map h)) refl) ∙ left

-- What the lookup answers is small.
pub lookup_in_total : (p : Packet) (l : List Rule) (v : Verdict) → verdict v ≡ lookup_table limits.total p l → IfOk v InTotal
unfolding lookup_table
lookup_in_total p l (Ok d) e =
    let a = test_accepted (leb 1 (length l)) 2 _ (sym e) in
    let b = test_accepted (leb (length l) limits.total) 2 _ a.1 in
    let h = look_small 0 p l (hit d.place d.action) b.1 in
    let m = leb-true (length l) limits.total b.0 in
    (omega (arith, h.0), h.1)
lookup_in_total p l (Err f) e = tt
