-- The readers of a section and of a list: what the code answers at each of its tests is what the definition gives there.
-- Assumes nothing.
use mathlib.Core.Path.{◌≡◌, refl, ap, sym, ◌∙◌}
use mathlib.Core.List.{List}
use mathlib.Core.Bool.{Bool, true, false, not}
use Prim.Native.Nat.{ℕ, zero, suc, ◌+◌, ◌*◌, ◌-◌, ◌<◌, ◌≤◌}
use native.Mathlib.Omega.{arith}
use lib.ListN.{length, drop, length-drop}
use lib.Seq.{drop-drop}
use borrow.Author.Tests.{not-true, not-false, le-leb, lt-leb, eq-eqb, ne_eqb}
use Rattle.std.specs.Prelude.{Ok, Err}
use Rattle.lists.specs.Lists.{every}
use Rattle.policy.specs.Fields.{count_size, record_size, highest}
use Rattle.policy.specs.Ranges.{Region, is_full}
use Rattle.policy.specs.Rules.{sound, complete}
use Rattle.policy.specs.Refusals.{Answered, accepted, test}
use Rattle.policy.specs.declared.Refusal.{Refusal}
use Rattle.policy.specs.declared.Refusal.TheVariants.{CountOutside, LengthWrong, RuleBad, NotComplete}
use Rattle.wire.specs.Records.{box_in, rule_in, rules_in, each_in}
use Rattle.sheet.specs.Sections.{reading, section}
use Rattle.sheet.specs.Orders.{list_in}
use Rattle.sheet.specs.Steps.{rules_of, SectionRead, ListRead}
use Rattle.sheet.specs.declared.Section.{Section}
use Rattle.policy.proofs.Answers.{gives_refusal, given_refusal, given_value, given_laid}
use Rattle.wire.specs.Lists.{count_in, list_size}

-- The last of n rules, where the code finds it.
complete_at : (n : ℕ) (s : List ℕ) → complete (rules_in (suc n) s) ≡ is_full highest (box_in (drop (record_size * n) s))
unfolding complete each_in rule_in
complete_at zero s = refl
complete_at (suc n) s =
    let e : record_size + record_size * n ≡ record_size * suc n = omega arith in
    complete_at n (drop record_size s) ∙ rw (drop-drop (record_size * n) record_size s, e) refl

complete_last : (n : ℕ) (s : List ℕ) → 1 ≤ n → complete (rules_of n s) ≡ is_full highest (box_in (drop (list_size n - record_size) s))
complete_last zero s h = absurd (omega arith)
complete_last (suc n) s h =
    let e : count_size + record_size * n ≡ list_size (suc n) - record_size = omega arith in
    complete_at n (drop count_size s) ∙ rw (drop-drop (record_size * n) count_size s, e) refl

module _ (most : ℕ) (s : List ℕ) where
  pub no_count : length s < count_size → SectionRead most s (Err LengthWrong)
  unfolding section
  no_count h = gives_refusal LengthWrong (rw (lt-leb count_size (length s) h) refl)

  module _ (a : count_size ≤ length s) (n : ℕ) (e : n ≡ count_in s) where
    pub too_few : n < 1 → SectionRead most s (Err CountOutside)
    unfolding section
    too_few h = gives_refusal CountOutside (rw (le-leb count_size (length s) a, ← e, lt-leb 1 n h) refl)

    module _ (b : 1 ≤ n) where
      pub too_many : most < n → SectionRead most s (Err CountOutside)
      unfolding section
      too_many h = gives_refusal CountOutside (rw (le-leb count_size (length s) a, ← e, le-leb 1 n b, lt-leb n most h) refl)

      module _ (d : n ≤ most) where
        pub no_records : length s < list_size n → SectionRead most s (Err LengthWrong)
        unfolding section
        no_records h =
            gives_refusal LengthWrong (rw (le-leb count_size (length s) a, ← e, le-leb 1 n b, le-leb n most d, lt-leb (list_size n) (length s) h) refl)

        module _ (g : list_size n ≤ length s) where
          there :
              section most s ≡ test (every sound (rules_of n s)) 4
              (test (complete (rules_of n s)) 5 (accepted (reading (rules_of n s) (drop (list_size n) s))))
          unfolding section
          there = rw (le-leb count_size (length s) a, ← e, le-leb 1 n b, le-leb n most d, le-leb (list_size n) (length s) g) refl

          pub bad_rule : (v : Bool) → v ≡ every sound (rules_of n s) → v ≡ false → SectionRead most s (Err RuleBad)
          bad_rule v k h = gives_refusal RuleBad (there ∙ rw (sym k ∙ h) refl)

          -- what the code finds of the records and of the last rule
          module _ (v : Bool) (k : v ≡ every sound (rules_of n s)) (h : v ≡ true) (u : Bool) (x : Region) (q : u ≡ is_full highest x)
              (y : x ≡ box_in (drop (list_size n - record_size) s)) where
            last_is : complete (rules_of n s) ≡ u
            last_is = complete_last n s b ∙ (sym (ap (is_full highest) y) ∙ sym q)

            pub not_full : u ≡ false → SectionRead most s (Err NotComplete)
            not_full l = gives_refusal NotComplete (there ∙ rw (sym k ∙ h, last_is ∙ l) refl)

            pub section_read : u ≡ true → SectionRead most s (Ok (record { count = n; next = list_size n }))
            section_read l = record {
              says = sym (there ∙ rw (sym k ∙ h, last_is ∙ l) refl);
              laid = record { end = refl; inside = g; limit = d };
            }

-- A list by itself.
module _ {most : ℕ} {s : List ℕ} {r : Answered Section} (x : SectionRead most s r) where
  pub list_refusal_lem : (f : Refusal) → r ≡ Err f → ListRead most s (Err f)
  unfolding list_in
  list_refusal_lem f e = gives_refusal f (rw (given_refusal x f e) refl)

  module _ (l : Section) (e : r ≡ Ok l) where
    pub list_over : l.next < length s → ListRead most s (Err LengthWrong)
    unfolding list_in
    list_over h =
        gives_refusal LengthWrong (rw (given_value x l e, ne_eqb (length (drop l.next s)) 0 (λ z. omega (arith, length-drop l.next s))) refl)

    pub list_read : length s ≤ l.next → ListRead most s (Ok l)
    unfolding list_in
    list_read h =
        let p = given_laid x l e in
        let i = p.inside in
        record {
          says = sym (rw (given_value x l e, eq-eqb (length (drop l.next s)) 0 (omega (arith, length-drop l.next s))) refl);
          laid = record { section = p; whole = omega arith };
        }
