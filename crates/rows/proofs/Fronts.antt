-- The fronts of a pair's gate rules: from one rule to the next, in the sheet's bytes, and in the table. Assumes nothing.
use mathlib.Core.Path.{◌≡◌, refl, ap, sym, ◌∙◌}
use mathlib.Core.List.{List, [], ◌∷◌, ◌++◌}
use mathlib.Core.Bool.{true, false}
use Prim.Native.Nat.{ℕ, suc, ◌+◌, ◌*◌, ◌<◌, ◌≤◌}
use native.Mathlib.Omega.{arith}
use native.Mathlib.Numerals.{add-one}
use lib.ListN.{length, get_or, set, take, drop, length-append, take-append-drop}
use lib.Seq.{sets, take-suc, split_at, drop-drop, get_or-drop, get_or-set_same, get_or-set_other}
use borrow.Author.Count.{below_more}
use Rattle.lists.proofs.Lists.{append-none, drop-sets}
use Rattle.policy.specs.Fields.{box_size, count_size}
use Rattle.policy.specs.Ranges.{Region}
use Rattle.policy.specs.Rules.{Rule, rule, is_allow, denies}
use Rattle.policy.specs.Move.{Pair, together}
use Rattle.policy.specs.Demands.{group_at}
use Rattle.policy.proofs.Edits.{together-append}
use Rattle.policy.proofs.Kept.{denies-append}
use Rattle.wire.specs.Lists.{count_in}
use Rattle.wire.proofs.Records.{boxes_in-length}
use Rattle.sheet.specs.Pairs.{group_boxes}
use Rattle.sheet.specs.Steps.{box_count, pair_at}
use Rattle.sheet.specs.declared.PairLayout.{PairLayout}
use Rattle.kept.specs.Steps.{run_size}
use Rattle.kept.proofs.Runs.{groups_front}
use Rattle.origins.specs.Steps.{Checked, place_in, front_of}
use Rattle.origins.proofs.Deciding.{good}
use Rattle.origins.proofs.Tracing.{gate_length, group_at_lem}

module _ (q : Pair) where
  abbrev gate : List Rule
  gate = q.order.gate

  abbrev groups : List (List Region)
  groups = q.groups

  -- no front is above all boxes, and no count of deny rules above that of all
  pub front_most : (j : ℕ) → front_of q j ≤ length (together groups)
  front_most j =
      let k : ℕ = denies (take j gate) in
      let e : length (together groups) ≡ length (together (take k groups)) + length (together (drop k groups)) =
      ap (λ (x : List (List Region)). length (together x)) (sym (take-append-drop k groups)) ∙ rw (together-append (take k groups) (drop k groups)) (length-append (together (take k groups)) (together (drop k groups))) in
      omega arith

  denies_upto : (j : ℕ) → denies (take j gate) ≤ denies gate
  denies_upto j =
      let e : denies gate ≡ denies (take j gate) + denies (drop j gate) = ap denies (sym (take-append-drop j gate)) ∙ denies-append (take j gate) (drop j gate) in
      omega arith

  module _ (j : ℕ) (here : j < length gate) where
    abbrev this : Rule
    this = get_or gate j (rule [] 0)

    one_more : denies (take (j + 1) gate) ≡ denies (take j gate) + denies (this ∷ [])
    one_more = ap denies (rw (add-one j) (take-suc gate j (rule [] 0) here)) ∙ denies-append (take j gate) (this ∷ [])

    none : is_allow this ≡ true → denies (this ∷ []) ≡ 0
    unfolding denies
    none e = rw e

    one : is_allow this ≡ false → denies (this ∷ []) ≡ 1
    unfolding denies
    one e = rw e

    allow_next : is_allow this ≡ true → (denies (take (j + 1) gate) ≡ denies (take j gate)) × (front_of q (j + 1) ≡ front_of q j)
    allow_next e =
        let d : denies (take (j + 1) gate) ≡ denies (take j gate) = omega (arith, one_more, none e) in
        (d, ap (λ (n : ℕ). length (together (take n groups))) d)

    module _ (counted : length groups ≡ denies gate) (denied : is_allow this ≡ false) where
      deny_next : denies (take (j + 1) gate) ≡ denies (take j gate) + 1
      deny_next = omega (arith, one_more, one denied)

      group_there : denies (take j gate) < length groups
      group_there = omega (arith, deny_next, denies_upto (j + 1))

      pub boxes_parts : together groups ≡ together (take (denies (take j gate)) groups) ++ (group_at q j ++ together (drop (suc (denies (take j gate))) groups))
      unfolding together
      boxes_parts =
          let k : ℕ = denies (take j gate) in
          ap together (split_at groups k [] group_there) ∙ together-append (take k groups) (get_or groups k [] ∷ drop (suc k) groups)

      pub front_next : front_of q (j + 1) ≡ front_of q j + length (group_at q j)
      unfolding together
      front_next =
          let k : ℕ = denies (take j gate) in
          ap (λ (n : ℕ). length (together (take n groups))) (deny_next ∙ add-one k)
          ∙ rw (take-suc groups k [] group_there, together-append (take k groups) (get_or groups k [] ∷ []), append-none (get_or groups k []))
          (length-append (together (take k groups)) (get_or groups k []))

-- A walk through A's rules and the groups in the sheet's bytes: the front of a rule, and where its group begins.
abbrev pub Reached : List ℕ → PairLayout → ℕ → ℕ → ℕ → Type 0
Reached s l k boxes start = (boxes ≡ front_of (pair_at l s) k) × (start ≡ l.from + (count_size * denies (take k (pair_at l s).order.gate) + box_size * boxes))

module _ {s : List ℕ} {l : PairLayout} (c : Checked s l) where
  abbrev q : Pair
  q = pair_at l s

  counted : length q.groups ≡ denies q.order.gate
  counted = (good s q c.checks).counted

  pub reached_first : Reached s l 0 0 l.from
  unfolding denies together
  reached_first = (refl, omega arith)

  module _ (k boxes start : ℕ) (is : Reached s l k boxes start) where
    pub reached_few : boxes ≤ l.boxes
    reached_few = omega (arith, is.0, front_most q k, c.laid.boxes_are)

    module _ (here : k < l.order.gate) where
      here_gate : k < length q.order.gate
      here_gate = omega (arith, gate_length c)

      module _ {r : Rule} (read : r ≡ place_in q.order.gate k) where
        pub reached_allow : is_allow r ≡ true → Reached s l (k + 1) boxes start
        reached_allow e =
            let a = allow_next q k here_gate (ap is_allow (sym read) ∙ e) in
            (omega (arith, is.0, a.1), omega (arith, is.1, a.0))

        module _ (denied : is_allow r ≡ false) where
          this_denies : is_allow (get_or q.order.gate k (rule [] 0)) ≡ false
          this_denies = ap is_allow (sym read) ∙ denied

          abbrev earlier : ℕ
          earlier = denies (take k q.order.gate)

          abbrev bytes : List ℕ
          bytes = drop l.from s

          earlier_few : earlier < l.groups
          earlier_few = omega (arith, deny_next q k here_gate counted this_denies, denies_upto q (k + 1), c.laid.groups_are)

          boxes_are_lem : boxes ≡ box_count earlier bytes
          boxes_are_lem = is.0 ∙ ap (λ (x : List (List Region)). length (together x)) (groups_front earlier l.groups bytes (omega (arith, earlier_few)))

          group_count_lem : count_in (drop start s) ≡ length (group_at q k)
          group_count_lem =
              let a : l.from + run_size earlier bytes ≡ start = omega (arith, is.1, boxes_are_lem) in
              let g = group_at_lem earlier l.groups bytes earlier_few in
              let d : drop (run_size earlier bytes) bytes ≡ drop start s = drop-drop (run_size earlier bytes) l.from s ∙ ap (λ (n : ℕ). drop n s) a in
              sym (ap length (g ∙ ap group_boxes d) ∙ boxes_in-length (count_in (drop start s)) (drop count_size (drop start s)))

          module _ (count : ℕ) (told : count ≡ count_in (drop start s)) where
            front_is : front_of q (k + 1) ≡ boxes + count
            front_is = omega (arith, front_next q k here_gate counted this_denies, is.0, told, group_count_lem)

            pub reached_deny : Reached s l (k + 1) (boxes + count) (start + count_size + box_size * count)
            reached_deny = (sym front_is, omega (arith, is.1, deny_next q k here_gate counted this_denies))

            pub group_inside : start + count_size + box_size * count ≤ length s
            group_inside =
                omega (arith, reached_deny.1, front_is, front_most q (k + 1), deny_next q k here_gate counted this_denies, earlier_few, c.laid.boxes_are, c.laid.groups_end, c.laid.whole)

          pub group_begins : start + count_size ≤ length s
          group_begins = omega (arith, group_inside (count_in (drop start s)) refl)

-- Numbers stored one after another, and those that stand above what is stored.
pub below_set : (f : ℕ → ℕ) (at : ℕ) (t : List ℕ) (k v : ℕ) → v ≡ f k → at + k < length t → ((j : ℕ) → j < k → get_or t (at + j) 0 ≡ f j)
    → (j : ℕ) → j < k + 1 → get_or (set t (at + k) v) (at + j) 0 ≡ f j
below_set f at t k v e h all =
    below_more (λ (j : ℕ). get_or (set t (at + k) v) (at + j) 0 ≡ f j) k (λ j less. get_or-set_other t (at + k) (at + j) v 0 (λ same. omega arith) ∙ all j less) (get_or-set_same t (at + k) v 0 h ∙ e)

pub above_sets : (n : ℕ) (t vs : List ℕ) (i : ℕ) → length vs ≤ n → get_or (sets t 0 vs) (n + i) 0 ≡ get_or t (n + i) 0
above_sets n t vs i h =
    sym (get_or-drop n (sets t 0 vs) i 0) ∙ (ap (λ (x : List ℕ). get_or x i 0) (drop-sets n t 0 vs (omega arith)) ∙ get_or-drop n t i 0)
