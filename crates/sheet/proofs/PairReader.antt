-- The reader of a pair sheet: what the code answers at each of its tests is what the definition gives there.
-- Assumes nothing.
use mathlib.Core.Path.{◌≡◌, refl, ap, sym, ◌∙◌}
use mathlib.Core.List.{List}
use Prim.Native.Nat.{ℕ, ◌+◌, ◌-◌, ◌<◌, ◌≤◌}
use native.Mathlib.Omega.{arith}
use lib.ListN.{length, take, drop, length-drop}
use lib.Seq.{drop-drop}
use borrow.Author.Tests.{le-leb, lt-leb, eq-eqb, ne_eqb}
use Rattle.std.specs.Prelude.{Ok, Err}
use Rattle.policy.specs.Fields.{limits, count_size}
use Rattle.policy.specs.Rules.{Rule, denies}
use Rattle.policy.specs.Refusals.{Answered, and_then}
use Rattle.policy.specs.declared.Refusal.{Refusal}
use Rattle.policy.specs.declared.Refusal.TheVariants.{LengthWrong, GroupsDiffer}
use Rattle.wire.proofs.Records.{rules_in-length}
use Rattle.sheet.specs.Orders.{ended, order}
use Rattle.sheet.specs.Pairs.{groups_in, group_section, pair_in}
use Rattle.sheet.specs.Steps.{rules_of, ListsLaid, ListsRead, GroupsRead, PairRead}
use Rattle.sheet.specs.declared.OrderLayout.{OrderLayout}
use Rattle.sheet.specs.declared.Groups.{Groups}
use Rattle.sheet.proofs.Parts.{part_from}
use Rattle.policy.proofs.Answers.{gives_refusal, given_refusal, given_value, given_laid}
use Rattle.wire.specs.Lists.{count_in, list_size}

module _ {s : List ℕ} {r : Answered OrderLayout} (x : ListsRead s r) where
  pub pair_refusal : (f : Refusal) → r ≡ Err f → PairRead s (Err f)
  unfolding pair_in
  pair_refusal f e = gives_refusal f (rw (given_refusal x f e) refl)

  module _ (l : OrderLayout) (e : r ≡ Ok l) where
    abbrev third : ℕ
    third = l.end

    abbrev m : ℕ
    m = l.own

    laid : ListsLaid s l
    laid = given_laid x l e

    pub gate_inside : list_size l.gate ≤ length s
    gate_inside = let p = laid in omega arith

    pub own_within : m ≤ limits.total
    own_within = let p = laid in omega arith

    abbrev gate : List Rule
    gate = rules_of l.gate s

    abbrev own : List Rule
    own = rules_of m (drop l.middle s)

    behind : pair_in limits s ≡ group_section limits (order gate own) (drop third s)
    unfolding pair_in
    behind = rw (given_value x l e) refl

    pub no_group_count : length s - third < count_size → PairRead s (Err LengthWrong)
    unfolding group_section
    no_group_count h = gives_refusal LengthWrong (behind ∙ rw (lt-leb count_size (length (drop third s)) (rw length-drop h)) refl)

    module _ (a : count_size ≤ length s - third) (k : ℕ) (d : k ≡ denies gate) (v : ℕ) (c : v ≡ count_in (drop third s)) where
      pub groups_differ : (v ≡ k → ⊥) → PairRead s (Err GroupsDiffer)
      unfolding group_section
      groups_differ h =
          gives_refusal GroupsDiffer (behind ∙ rw (le-leb count_size (length (drop third s)) (rw length-drop a), ← c, ← d, ne_eqb v k h) refl)

      module _ (q : v ≡ k) {t : Answered Groups} (y : GroupsRead limits.total k m (take (length s - (third + count_size)) (drop (third + count_size) s)) t) where
        groups : GroupsRead limits.total k m (drop (third + count_size) s) t
        groups = rw (part_from s (third + count_size)) at y

        counted :
            pair_in limits s
            ≡ and_then (groups_in limits k m (drop (third + count_size) s)) (λ g. ended g (record { order = order gate own; groups = g.value }))
        unfolding group_section
        counted =
            behind
            ∙ rw (
              le-leb count_size (length (drop third s)) (rw length-drop a),
              ← c,
              ← d,
              eq-eqb v k q,
              drop-drop count_size third s,
              rules_in-length m (drop count_size (drop l.middle s)),
            )

        pub third_refusal : (f : Refusal) → t ≡ Err f → PairRead s (Err f)
        third_refusal f i = gives_refusal f (counted ∙ rw (given_refusal groups f i) refl)

        module _ (c' : Groups) (i : t ≡ Ok c') where
          left : length (drop c'.next (drop (third + count_size) s)) ≡ length s - (third + count_size) - c'.next
          left = length-drop c'.next (drop (third + count_size) s) ∙ ap (λ (j : ℕ). j - c'.next) (length-drop (third + count_size) s)

          pub groups_inside : third + count_size + c'.next ≤ length s
          groups_inside = let p = rw length-drop at (given_laid groups c' i).inside in omega arith

          pub pair_over : c'.next < length s - (third + count_size) → PairRead s (Err LengthWrong)
          pair_over h =
              gives_refusal LengthWrong
              (counted ∙ rw (given_value groups c' i, ne_eqb (length (drop c'.next (drop (third + count_size) s))) 0 (λ z. omega (arith, left))) refl)

          pub pair_read :
              length s - (third + count_size) ≤ c'.next
              → PairRead s (Ok (record { order = l; groups = k; boxes = c'.count; from = third + count_size; end = third + count_size + c'.next }))
          pair_read h =
              let p = given_laid groups c' i in
              let inside = groups_inside in
              record {
                says =
                    sym (counted
                    ∙ rw (given_value groups c' i, eq-eqb (length (drop c'.next (drop (third + count_size) s))) 0 (omega (arith, left))) refl);
                laid = record {
                  lists = laid;
                  begin = refl;
                  groups_are = d;
                  boxes_are = p.boxes;
                  groups_end = omega (arith, p.end);
                  whole = omega arith;
                  total_limit = omega (arith, p.limit);
                };
              }
