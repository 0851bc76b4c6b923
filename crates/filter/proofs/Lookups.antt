-- Laws of lookup: one turn of the loop over the rules, and the tests of a list's head in their order. Assumes nothing.
use Rattle.std.proofs.Common.{◌≡◌, ℕ, suc, ◌+◌, ◌-◌, ◌<◌, ◌≤◌, true, false, cond, List, length, take, drop, sym, refl, ap, ◌∙◌, add-one, arith, drop-drop, eq-eqb, ne_eqb, le-leb}
use borrow.Author.Tests.{lt-leb}
use Rattle.policy.specs.Fields.{count_size, record_size}
use Rattle.policy.specs.Ranges.{Packet, inside}
use Rattle.policy.specs.Rules.{Rule, sound}
use Rattle.policy.specs.Refusals.{Outcome, accepted, refused, test}
use Rattle.wire.specs.Numbers.{number_in}
use Rattle.wire.specs.Records.{rule_in, rules_in, each_in}
use Rattle.filter.specs.Lookup.{Hit, hit, look_from, lookup}
use Rattle.wire.specs.Lists.{list_size}

-- What is left of the search of a list's n rules once it has come to place i.
abbrev pub Left : Packet → List ℕ → ℕ → ℕ → Type 0
Left p s n i = look_from 0 p (rules_in n (drop count_size s)) ≡ look_from i p (rules_in (n - i) (drop (list_size i) s))

pub left_all : (p : Packet) (s : List ℕ) (n : ℕ) → Left p s n 0
left_all p s n = let e : n - 0 ≡ n = omega arith in rw e refl

module _ (p : Packet) (s : List ℕ) (n i : ℕ) (left : Left p s n i) where
  abbrev whole : Outcome Hit
  whole = look_from 0 p (rules_in n (drop count_size s))

  -- With the rule there in hand.
  module _ (more : i < n) (r : Rule) (is : r ≡ rule_in (drop (list_size i) s)) where
    at_rule : whole ≡ test (sound r) 4 (cond (inside p r.region) (accepted (hit i r.action)) (look_from (suc i) p (rules_in (n - (i + 1)) (drop (list_size (i + 1)) s))))
    unfolding look_from each_in
    at_rule =
        let e : n - i ≡ suc (n - (i + 1)) = omega arith in
        let d : list_size (i + 1) ≡ list_size i + record_size = omega arith in
        left ∙ rw (e, d, is, ← drop-drop record_size (list_size i) s) refl

    pub bad_rule : sound r ≡ false → refused 4 ≡ whole
    bad_rule e = sym (at_rule ∙ rw e refl)

    module _ (well : sound r ≡ true) where
      pub rule_fits : inside p r.region ≡ true → accepted (hit i r.action) ≡ whole
      rule_fits f = sym (at_rule ∙ rw (well, f) refl)

      pub rule_misses : inside p r.region ≡ false → Left p s n (i + 1)
      rule_misses f = at_rule ∙ rw (well, f) (ap (λ (m : ℕ). look_from m p (rules_in (n - (i + 1)) (drop (list_size (i + 1)) s))) (sym (add-one i)))

  pub none_fits_lem : n ≤ i → refused 5 ≡ whole
  unfolding look_from each_in
  none_fits_lem h = let e : n - i ≡ 0 = omega arith in sym (left ∙ rw e refl)

-- The tests of a list's head, in their order.
module _ (most : ℕ) (p : Packet) (s : List ℕ) where
  pub no_count : length s < count_size → refused 3 ≡ lookup most p s
  unfolding lookup
  no_count h = rw (lt-leb count_size (length s) h) refl

  module _ (there : count_size ≤ length s) (n : ℕ) (is : n ≡ number_in (take count_size s)) where
    pub no_rules : n < 1 → refused 2 ≡ lookup most p s
    unfolding lookup
    no_rules h = rw (le-leb count_size (length s) there, ← is, lt-leb 1 n h) refl

    module _ (some : 1 ≤ n) where
      pub too_many : most < n → refused 2 ≡ lookup most p s
      unfolding lookup
      too_many h = rw (le-leb count_size (length s) there, ← is, le-leb 1 n some, lt-leb n most h) refl

      module _ (few : n ≤ most) where
        pub wrong_length : (length s ≡ list_size n → ⊥) → refused 3 ≡ lookup most p s
        unfolding lookup
        wrong_length h = rw (le-leb count_size (length s) there, ← is, le-leb 1 n some, le-leb n most few, ne_eqb (length s) (list_size n) h) refl

        pub good_head : length s ≡ list_size n → look_from 0 p (rules_in n (drop count_size s)) ≡ lookup most p s
        unfolding lookup
        good_head h = rw (le-leb count_size (length s) there, ← is, le-leb 1 n some, le-leb n most few, eq-eqb (length s) (list_size n) h) refl
