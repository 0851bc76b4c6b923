-- The readers of one group and of groups one after another: what the code answers is what the definition gives.
-- Assumes nothing.
use mathlib.Core.Path.{◌≡◌, refl, ap, sym, ◌∙◌}
use mathlib.Core.List.{List, [], ◌∷◌, append-nil}
use mathlib.Core.Bool.{Bool, true, false, not}
use Prim.Native.Nat.{ℕ, suc, ◌+◌, ◌*◌, ◌-◌, ◌<◌, ◌≤◌}
use native.Mathlib.Omega.{arith}
use lib.Dec.{leb}
use lib.ListN.{length, take, drop, length-append, length-drop}
use lib.Seq.{drop-drop}
use borrow.Author.Tests.{not-true, not-false, le-leb, lt-leb}
use Rattle.std.specs.Prelude.{Ok, Err}
use Rattle.lists.specs.Lists.{every}
use Rattle.policy.specs.Fields.{Limits, highest, box_size, count_size}
use Rattle.policy.specs.Ranges.{Region, proper}
use Rattle.policy.specs.Refusals.{Answered, Outcome, accepted, refused, test, and_then, number_of}
use Rattle.policy.specs.Move.{together}
use Rattle.policy.specs.declared.Refusal.{Refusal}
use Rattle.policy.specs.declared.Refusal.TheVariants.{LengthWrong, RuleBad, TooManyBoxes}
use Rattle.wire.specs.Records.{boxes_in}
use Rattle.wire.proofs.Records.{boxes_in-length}
use Rattle.sheet.specs.Sections.{Reading, reading}
use Rattle.sheet.specs.Pairs.{group_size, group_boxes, behind, groups_in}
use Rattle.sheet.specs.Steps.{with_total, groups_from, GroupsRead}
use Rattle.sheet.specs.declared.Groups.{Groups}
use Rattle.policy.proofs.Answers.{gives_refusal, given_refusal, given_value, given_laid}
use Rattle.sheet.proofs.Parts.{part_from}
use Rattle.wire.specs.Lists.{count_in}

one_group_lem : (s : List ℕ) → length (together (groups_from 1 s)) ≡ count_in s
unfolding together groups_from
one_group_lem s = rw append-nil (boxes_in-length (count_in s) (drop count_size s))

-- One group.
module _ (most total : ℕ) (s : List ℕ) where
  pub no_count : length s < count_size → GroupsRead most 1 total s (Err LengthWrong)
  unfolding groups_in
  no_count h = gives_refusal LengthWrong (rw (lt-leb count_size (length s) h) refl)

  module _ (w : total ≤ most) (a : count_size ≤ length s) (n : ℕ) (e : n ≡ count_in s) where
    pub too_many : most - total < n → GroupsRead most 1 total s (Err TooManyBoxes)
    unfolding groups_in
    too_many h = gives_refusal TooManyBoxes (rw (le-leb count_size (length s) a, ← e, lt-leb (total + n) most (omega arith)) refl)

    module _ (b : n ≤ most - total) where
      pub no_boxes : length s < group_size n → GroupsRead most 1 total s (Err LengthWrong)
      unfolding groups_in
      no_boxes h =
          gives_refusal LengthWrong
          (rw (le-leb count_size (length s) a, ← e, le-leb (total + n) most (omega arith), lt-leb (group_size n) (length s) h) refl)

      module _ (g : group_size n ≤ length s) (v : Bool) (k : v ≡ every (proper highest) (boxes_in n (drop count_size s))) where
        there :
            groups_in (with_total most) 1 total s
            ≡ test v 4 (accepted (reading (boxes_in n (drop count_size s) ∷ []) (drop (group_size n) s)))
        unfolding groups_in
        there = rw (le-leb count_size (length s) a, ← e, le-leb (total + n) most (omega arith), le-leb (group_size n) (length s) g, k) refl

        pub bad_box : v ≡ false → GroupsRead most 1 total s (Err RuleBad)
        bad_box h = gives_refusal RuleBad (there ∙ rw h refl)

        pub group_read : v ≡ true → GroupsRead most 1 total s (Ok (record { count = n; next = group_size n }))
        unfolding groups_from
        group_read h = record {
          says = sym (there ∙ rw (h, e) refl);
          laid = record { boxes = e ∙ sym (one_group_lem s); end = omega arith; inside = g; limit = omega arith };
        }

-- What a loop over n groups has to do at turn i: those that are left, from a byte on, with a total so far.
pub record GroupsLeft (lim : Limits) (n own : ℕ) (s : List ℕ) (i total at : ℕ) : Type 0 where
  pub refuses : (m : ℕ) → groups_in lim (n - i) total (drop at s) ≡ refused m → groups_in lim n own s ≡ refused m
  pub accepts : (t : List ℕ) → groups_in lim (n - i) total (drop at s) ≡ accepted (reading (groups_from (n - i) (drop at s)) t)
      → groups_in lim n own s ≡ accepted (reading (groups_from n s) t)
  pub boxes : own + length (together (groups_from n s)) ≡ total + length (together (groups_from (n - i) (drop at s)))
  pub size : at + count_size * (n - i) + box_size * own ≡ count_size * n + box_size * total
  pub more : own ≤ total
  pub limit : total ≤ lim.total
  pub inside : at ≤ length s

pub groups_first : (lim : Limits) (n own : ℕ) (s : List ℕ) → own ≤ lim.total → GroupsLeft lim n own s 0 own 0
groups_first lim n own s h =
    let e : n - 0 ≡ n = omega arith in
    record {
      refuses = λ m z. rw e at z;
      accepts = λ t z. rw e at z;
      boxes = rw e refl;
      size = omega arith;
      more = omega arith;
      limit = h;
      inside = omega arith;
    }

-- The tests of a group do not depend on what stands behind it.
abbrev tests : {A : Type 0} → Bool → Bool → Bool → Bool → Outcome A → Outcome A
tests a b c d x = test a 3 (test b 7 (test c 3 (test d 4 x)))

module _ {A : Type 0} (y : A) (z : Outcome A) where
  tests_refuse : (a b c d : Bool) (m : ℕ) → tests a b c d (accepted y) ≡ refused m → tests a b c d z ≡ refused m
  tests_refuse true true true true m e = let x : ◌≡◌ {A = ℕ} 0 1 = cc in absurd (omega arith)
  tests_refuse true true true false m e = e
  tests_refuse true true false d m e = e
  tests_refuse true false c d m e = e
  tests_refuse false b c d m e = e

  tests_pass : (a b c d : Bool) (v : A) → tests a b c d (accepted y) ≡ accepted v → tests a b c d z ≡ z
  tests_pass true true true true v e = refl
  tests_pass true true true false v e = let x : ◌≡◌ {A = ℕ} 0 1 = cc in absurd (omega arith)
  tests_pass true true false d v e = let x : ◌≡◌ {A = ℕ} 0 1 = cc in absurd (omega arith)
  tests_pass true false c d v e = let x : ◌≡◌ {A = ℕ} 0 1 = cc in absurd (omega arith)
  tests_pass false b c d v e = let x : ◌≡◌ {A = ℕ} 0 1 = cc in absurd (omega arith)

module _ (lim : Limits) (k total : ℕ) (s : List ℕ) where
  abbrev rest : Outcome (Reading (List (List Region)))
  rest = and_then (groups_in lim k (total + count_in s) (drop (group_size (count_in s)) s)) (λ r. accepted (behind (group_boxes s) r))

  abbrev first : Reading (List (List Region))
  first = reading (group_boxes s ∷ []) (drop (group_size (count_in s)) s)

  group_refused : (m : ℕ) → groups_in lim 1 total s ≡ refused m → groups_in lim (suc k) total s ≡ refused m
  unfolding groups_in
  group_refused m e =
      tests_refuse first rest (leb count_size (length s)) (leb (total + count_in s) lim.total) (leb (group_size (count_in s)) (length s)) (every (proper highest) (group_boxes s)) m e

  group_passed : (v : Reading (List (List Region))) → groups_in lim 1 total s ≡ accepted v → groups_in lim (suc k) total s ≡ rest
  unfolding groups_in
  group_passed v e =
      tests_pass first rest (leb count_size (length s)) (leb (total + count_in s) lim.total) (leb (group_size (count_in s)) (length s)) (every (proper highest) (group_boxes s)) v e

-- A turn of the loop: from what the reader of one group ensures of the part that it is handed.
module _ {most n own i total at : ℕ} {s : List ℕ} (g : GroupsLeft (with_total most) n own s i total at) where
  part : {r : Answered Groups} → GroupsRead most 1 total (take (length s - at) (drop at s)) r → GroupsRead most 1 total (drop at s) r
  part x = rw (part_from s at) at x

  module _ (h : i < n) {r : Answered Groups} (x : GroupsRead most 1 total (take (length s - at) (drop at s)) r) where
    again : n - i ≡ suc (n - (i + 1))
    again = omega arith

    pub groups_stop : (f : Refusal) → r ≡ Err f → GroupsRead most n own s (Err f)
    groups_stop f e =
        gives_refusal f
        (g.refuses (number_of f) (rw again (group_refused (with_total most) (n - (i + 1)) total (drop at s) (number_of f) (given_refusal (part x) f e))))

    module _ (l : Groups) (e : r ≡ Ok l) where
      turn : groups_in (with_total most) (n - i) total (drop at s) ≡ rest (with_total most) (n - (i + 1)) total (drop at s)
      turn = rw again (group_passed (with_total most) (n - (i + 1)) total (drop at s) _ (given_value (part x) l e))

      pub groups_next : GroupsLeft (with_total most) n own s (i + 1) (total + l.count) (at + l.next)
      unfolding groups_from together
      groups_next =
          let lim : Limits = with_total most in
          let u : List ℕ = drop at s in
          let k : ℕ = n - (i + 1) in
          let p = given_laid (part x) l e in
          let q = p.end in
          let c : count_in u ≡ l.count = sym (p.boxes ∙ one_group_lem u) in
          let d : group_size (count_in u) ≡ l.next = omega arith in
          let v : drop (group_size (count_in u)) u ≡ drop (at + l.next) s = ap (λ (j : ℕ). drop j u) d ∙ drop-drop l.next at s in
          let y : groups_in lim (n - i) total u ≡ and_then (groups_in lim k (total + l.count) (drop (at + l.next) s)) (λ r. accepted (behind (group_boxes u) r)) =
          turn ∙ rw (v, c) refl in
          let f : groups_from (n - i) u ≡ group_boxes u ∷ groups_from k (drop (at + l.next) s) = rw (again, v) refl in
          let sum = length-append (group_boxes u) (together (groups_from k (drop (at + l.next) s))) in
          let m = boxes_in-length (count_in u) (drop count_size u) in
          let o = g.boxes ∙ ap (λ (gs : List (List Region)). total + length (together gs)) f in
          let w = length-drop at s in
          record {
            refuses = λ j z. g.refuses j (y ∙ rw z refl);
            accepts = λ t z. g.accepts t (y ∙ (rw z (ap (λ (gs : List (List Region)). accepted (reading gs t)) (sym f))));
            boxes = omega arith;
            size = omega (arith, g.size);
            more = omega (arith, g.more);
            limit = p.limit;
            inside = omega (arith, g.inside, p.inside);
          }

  pub groups_done : n ≤ i → GroupsRead most n own s (Ok (record { count = total - own; next = at }))
  unfolding groups_in groups_from together
  groups_done h =
      let e : n - i ≡ 0 = omega arith in
      let x : groups_in (with_total most) (n - i) total (drop at s) ≡ accepted (reading (groups_from (n - i) (drop at s)) (drop at s)) = rw e refl in
      let b = g.boxes ∙ ap (λ (k : ℕ). total + length (together (groups_from k (drop at s)))) e in
      let m = g.more in
      let l = g.limit in
      let z = g.size in
      record {
        says = sym (g.accepts (drop at s) x);
        laid = record { boxes = omega arith; end = omega arith; inside = g.inside; limit = omega arith };
      }
