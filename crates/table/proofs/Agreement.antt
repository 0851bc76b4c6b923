-- The lookup in a table answers as the lookup in list bytes does, by first match where no rule is bad, and its number for C
-- tells its whole outcome. Assumes nothing.
use mathlib.Core.Path.{◌≡◌, refl}
use mathlib.Core.List.{List}
use mathlib.Core.Bool.{Bool, true, false}
use Prim.Native.Nat.{ℕ, ◌*◌, ◌^◌, ◌<◌, ◌≤◌}
use native.Mathlib.Omega.{arith}
use lib.Dec.{leb}
use lib.ListN.{length, take, drop}
use borrow.Author.Tests.{le-leb, leb-true, eq-eqb}
use Rattle.lists.specs.Lists.{Each}
use Rattle.policy.specs.Fields.{count_size}
use Rattle.policy.specs.Ranges.{Packet}
use Rattle.policy.specs.Rules.{Rule, sound, first}
use Rattle.policy.specs.Refusals.{refusal_base, Outcome, accepted, test, rules_refusal}
use Rattle.policy.proofs.Answers.{test_accepted}
use Rattle.wire.specs.Numbers.{number_in}
use Rattle.wire.specs.Records.{rules_in}
use Rattle.wire.proofs.Records.{RuleFits, sound_fits, rules_in-length}
use Rattle.filter.specs.Lookup.{Hit, look_from, lookup, lookup_number, decided_by}
use Rattle.filter.proofs.Lists.{look_first}
use Rattle.wire.proofs.Lists.{list_bytes-length, list_count, list_rules_lem}
use Rattle.filter.proofs.Verdicts.{InList, look_small, tells}
use Rattle.table.specs.Table.{lookup_table, Storable, AgreesTheorem}
use Rattle.wire.specs.Lists.{list_bytes, list_size}

-- From rules to bytes.
rules_agree : (most : ℕ) (p : Packet) (l : List Rule) → Each RuleFits l → length l < 256 ^ count_size → lookup most p (list_bytes l) ≡ lookup_table most p l
unfolding lookup lookup_table
rules_agree most p l fit few =
    let e = list_bytes-length l fit in
    rw (
      le-leb count_size (length (list_bytes l)) (omega arith),
      list_count l fit few,
      eq-eqb (length (list_bytes l)) (list_size (length l)) e,
      list_rules_lem l fit,
    ) refl

-- From bytes to rules.
bytes_agree : (most : ℕ) (p : Packet) (s : List ℕ) (n : ℕ) → n ≡ number_in (take count_size s) → length s ≡ list_size n
    → lookup_table most p (rules_in n (drop count_size s)) ≡ lookup most p s
unfolding lookup lookup_table
bytes_agree most p s n is e =
    rw (
      rules_in-length n (drop count_size s),
      le-leb count_size (length s) (omega arith),
      ← is,
      eq-eqb (length s) (list_size n) e,
    ) refl

pub table_agrees : AgreesTheorem
table_agrees most p = record { as_bytes = rules_agree most p; as_rules = bytes_agree most p }

-- A rule with a number that its bytes could not hold is bad.
unfit : (r : Rule) (t : Bool) → sound r ≡ t → (RuleFits r → ⊥) → t ≡ false
unfit r true e h = absurd (h (sound_fits r e))
unfit r false e h = refl

pub unfit_bad : (r : Rule) → (Storable r → ⊥) → sound r ≡ false
unfit_bad r h = unfit r (sound r) refl h

module _ (most : ℕ) (p : Packet) (l : List Rule) where
  -- Where no rule is bad and the count is within its limits, first match decides.
  pub table_first : rules_refusal l ≡ 0 → 1 ≤ length l → length l ≤ most → lookup_table most p l ≡ decided_by (first p l)
  unfolding lookup_table
  table_first h some few = rw (le-leb 1 (length l) some, le-leb (length l) most few) (look_first 0 p l h)

  -- The rule that decides is one of the table, and its action is 0 or 1.
  table_small : (h : Hit) → lookup_table most p l ≡ accepted h → InList most h
  unfolding lookup_table
  table_small h e =
      let rules : Outcome Hit = look_from 0 p l in
      let a = test_accepted (leb 1 (length l)) 2 (test (leb (length l) most) 2 rules) e in
      let b = test_accepted (leb (length l) most) 2 rules a.1 in
      let s = look_small 0 p l h b.1 in
      let m = leb-true (length l) most b.0 in
      (omega arith, s.1)

-- No two outcomes of lookups in tables have the same number for C.
pub table_number_tells : (most : ℕ) → 2 * most ≤ refusal_base → (p q : Packet) (l m : List Rule)
    → lookup_number (lookup_table most p l) ≡ lookup_number (lookup_table most q m) → lookup_table most p l ≡ lookup_table most q m
table_number_tells most b p q l m e = tells most b (lookup_table most p l) (lookup_table most q m) (table_small most p l) (table_small most q m) e
