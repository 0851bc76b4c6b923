-- A section reads back as what was written, and what reads well is what would be written. Assumes nothing.
use mathlib.Core.Path.{◌≡◌, refl, ap, sym, ◌∙◌}
use mathlib.Core.List.{List, ◌++◌}
use Prim.Native.Nat.{ℕ, ◌+◌, ◌<◌, ◌≤◌}
use native.Mathlib.Omega.{arith}
use lib.Dec.{leb}
use lib.ListN.{length, take, drop, take-append-drop}
use borrow.Author.Tests.{le-leb, leb-true}
use Rattle.lists.specs.Lists.{Each, every}
use Rattle.policy.specs.Fields.{count_size, record_size}
use Rattle.policy.specs.Rules.{Rule, sound, complete}
use Rattle.policy.specs.Refusals.{accepted, unless}
use Rattle.policy.proofs.Refused.{list_refusal}
use Rattle.wire.specs.Numbers.{Byte}
use Rattle.wire.specs.Records.{records_bytes, rules_in}
use Rattle.wire.proofs.Records.{RuleFits, rules_in-length, records_bytes-length, rules_back}
use Rattle.sheet.specs.Sections.{Reading, reading, section}
use Rattle.wire.specs.Lists.{list_rules, count_in, list_size, list_bytes}
use Rattle.wire.proofs.Counts.{counted}
use Rattle.wire.proofs.Lists.{list_front}
use Rattle.sheet.proofs.Outcomes.{list_outcome}
use Rattle.policy.proofs.Answers.{test_accepted, unless_accepted}

-- What an accepted section is.
pub record SectionGood (most : ℕ) (s : List ℕ) (r : Reading (List Rule)) : Type 0 where
  pub list : list_refusal most r.value ≡ 0
  pub count : count_in s ≡ length r.value
  pub there : list_size (length r.value) ≤ length s
  pub rules : r.value ≡ rules_in (length r.value) (drop count_size s)
  pub rest : r.rest ≡ drop (list_size (length r.value)) s

pub section_good : (most : ℕ) (s : List ℕ) (r : Reading (List Rule)) → section most s ≡ accepted r → SectionGood most s r
unfolding section
section_good most s r e =
    let a = test_accepted (leb count_size (length s)) 3 _ e in
    let b = test_accepted (leb 1 (count_in s)) 2 _ a.1 in
    let c = test_accepted (leb (count_in s) most) 2 _ b.1 in
    let d = test_accepted (leb (list_size (count_in s)) (length s)) 3 _ c.1 in
    let f = test_accepted (every sound (list_rules s)) 4 _ d.1 in
    let g = test_accepted (complete (list_rules s)) 5 _ f.1 in
    let p : reading (list_rules s) (drop (list_size (count_in s)) s) ≡ r = cc g.1 in
    let v : list_rules s ≡ r.value = λ i. (p i).value in
    let l : count_in s ≡ length r.value = sym (rules_in-length (count_in s) (drop count_size s)) ∙ ap length v in
    let m : length (list_rules s) ≡ count_in s = rules_in-length (count_in s) (drop count_size s) in
    record {
      list =
          ap (list_refusal most) (sym v)
          ∙ (unless_accepted (list_refusal most (list_rules s)) {a = r} (sym (list_outcome most (list_rules s) r) ∙ rw (m, b.0, c.0, f.0, g.0) refl)).0;
      count = l;
      there = omega (arith, leb-true (list_size (count_in s)) (length s) d.0);
      rules = sym v ∙ ap (λ (n : ℕ). rules_in n (drop count_size s)) l;
      rest = (λ i. (sym p i).rest) ∙ ap (λ (n : ℕ). drop (list_size n) s) l;
    }

-- What reads well is what would be written.
pub section_written_back :
    (most : ℕ) (s : List ℕ) (r : Reading (List Rule)) → Each Byte s → section most s ≡ accepted r → list_bytes r.value ++ r.rest ≡ s
section_written_back most s r b e =
    let a = section_good most s r e in
    let h = a.there in
    let c = a.count in
    let g : rules_in (count_in s) (drop count_size s) ≡ r.value = ap (λ (n : ℕ). rules_in n (drop count_size s)) c ∙ sym a.rules in
    rw (← g, list_front s b (omega arith)) (ap (λ (t : List ℕ). take (list_size (count_in s)) s ++ t) (a.rest ∙ ap (λ (n : ℕ). drop (list_size n) s) (sym c)) ∙ take-append-drop (list_size (count_in s)) s)

-- What is written reads back as itself, or with the number that the list is refused with.
pub section_back :
    (most : ℕ) (rs : List Rule) (t : List ℕ) → Each RuleFits rs → length rs < 65536
    → section most (list_bytes rs ++ t) ≡ unless (list_refusal most rs) (reading rs t)
unfolding section list_bytes
section_back most rs t h g =
    let n : ℕ = length rs in
    let c = counted record_size n (records_bytes rs) t g (records_bytes-length rs h) in
    rw (
      c.count,
      c.long,
      c.behind,
      c.rest,
      rules_back rs t h,
      le-leb count_size (list_size n + length t) (omega arith),
      le-leb (list_size n) (list_size n + length t) (omega arith),
    )
    (list_outcome most rs (reading rs t))
