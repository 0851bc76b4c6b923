-- A sheet has one length: bytes that begin with a sheet are refused with 3 at every other length. Assumes nothing.
use mathlib.Core.Path.{◌≡◌, refl, ap, sym, ◌∙◌}
use mathlib.Core.List.{List, [], ◌∷◌, ◌++◌}
use mathlib.Core.Bool.{Bool, true, false}
use Prim.Native.Nat.{ℕ, zero, suc, ◌+◌, ◌*◌, ◌-◌, ◌≤◌}
use native.Mathlib.Omega.{arith}
use lib.Dec.{leb, eqb}
use lib.ListN.{length, take, drop, length-drop, take-append-drop}
use lib.Seq.{length-take-le}
use borrow.Author.Tests.{leb-true}
use Rattle.lists.specs.Lists.{every}
use Rattle.policy.specs.Fields.{Limits, highest, box_size, count_size, record_size}
use Rattle.policy.specs.Ranges.{Region, proper}
use Rattle.policy.specs.Rules.{Rule, sound, complete, denies}
use Rattle.policy.specs.Refusals.{Outcome, accepted, refused, test, and_then}
use Rattle.policy.specs.Move.{Order, Pair}
use Rattle.wire.specs.Numbers.{number_in}
use Rattle.wire.specs.Records.{rules_in, boxes_in}
use Rattle.wire.specs.Lists.{count_in, list_size, list_rules}
use Rattle.wire.proofs.Records.{boxes_in-length, boxes_front, rules_front}
use Rattle.sheet.specs.Sections.{Reading, reading, section}
use Rattle.sheet.specs.Orders.{ended, order, lists_in}
use Rattle.sheet.specs.Pairs.{group_size, group_boxes, behind, groups_in, group_section, pair_in}
use Rattle.sheet.proofs.Prefixes.{Reader, Steady, grab, say, next, grab_steady, say_steady, next_steady, same_steady, whole, whole_next, then_same, other_length, block, block_steady, block_is}

-- what is read of a part alone
alone : {A : Type 0} (read : ℕ → List ℕ → A) (size n : ℕ) (s : List ℕ)
    → ((m : ℕ) (u v : List ℕ) → size * m ≤ length u → read m (u ++ v) ≡ read m u) → count_size + size * n ≤ length s
    → read n (take (size * n) (drop count_size s)) ≡ read n (drop count_size s)
alone read size n s front h =
    let d : List ℕ = drop count_size s in
    let l : length d ≡ length s - count_size = length-drop count_size s in
    let k : size * n ≤ length (take (size * n) d) = omega (arith, length-take-le (size * n) d (omega arith)) in
    sym (front n (take (size * n) d) (drop (size * n) d) k) ∙ ap (read n) (take-append-drop (size * n) d)

-- Sections A and B.
module _ (most : ℕ) where
  section_count : ℕ → Outcome ℕ
  section_count n = test (leb 1 n) 2 (test (leb n most) 2 (accepted n))

  section_items : ℕ → List ℕ → Outcome (List Rule)
  section_items n s = test (every sound (rules_in n s)) 4 (test (complete (rules_in n s)) 5 (accepted (rules_in n s)))

  section_is : (s : List ℕ) → section most s ≡ block record_size section_count section_items s
  unfolding section section_count section_items
  section_is s = go (leb count_size (length s)) (leb 1 (count_in s)) (leb (count_in s) most) ∙ sym (block_is record_size section_count section_items s)
    where
      left : List ℕ
      left = drop (list_size (count_in s)) s

      found : (t u : Bool) (l : List Rule) → test t 4 (test u 5 (accepted (reading l left))) ≡ and_then (test t 4 (test u 5 (accepted l))) (λ v. accepted (reading v left))
      found true true l = refl
      found true false l = refl
      found false u l = refl

      fits : (t : Bool) → leb (list_size (count_in s)) (length s) ≡ t
          → test t 3 (test (every sound (list_rules s)) 4 (test (complete (list_rules s)) 5 (accepted (reading (list_rules s) left))))
          ≡ test t 3 (and_then (section_items (count_in s) (take (record_size * count_in s) (drop count_size s))) (λ v. accepted (reading v left)))
      fits true e =
          rw (alone rules_in record_size (count_in s) s rules_front (leb-true (list_size (count_in s)) (length s) e))
          (found (every sound (list_rules s)) (complete (list_rules s)) (list_rules s))
      fits false e = refl

      go : (t u v : Bool)
          → test t 3 (test u 2 (test v 2 (test (leb (list_size (count_in s)) (length s)) 3 (test (every sound (list_rules s)) 4 (test (complete (list_rules s)) 5 (accepted (reading (list_rules s) left)))))))
          ≡ test t 3 (and_then (test u 2 (test v 2 (accepted (count_in s)))) (λ n. test (leb (count_size + record_size * n) (length s)) 3
          (and_then (section_items n (take (record_size * n) (drop count_size s))) (λ w. accepted (reading w (drop (count_size + record_size * n) s))))))
      go true true true = fits (leb (list_size (count_in s)) (length s)) refl
      go true true false = refl
      go true false v = refl
      go false u v = refl

  pub section_steady : Steady (section most)
  section_steady = same_steady (section most) (block record_size section_count section_items) section_is (block_steady record_size section_count section_items)

-- Groups.
module _ (lim : Limits) where
  group_count : ℕ → ℕ → Outcome ℕ
  group_count total n = test (leb (total + n) lim.total) 7 (accepted n)

  group_items : ℕ → List ℕ → Outcome (List Region)
  group_items n s = test (every (proper highest) (boxes_in n s)) 4 (accepted (boxes_in n s))

  one_group : ℕ → Reader (List Region)
  one_group total = block box_size (group_count total) group_items

  more : ℕ → ℕ → List Region → Reader (List (List Region))
  more k total g = next (groups_in lim k (total + length g)) (λ gs. say (accepted (g ∷ gs)))

  groups_is : (k total : ℕ) (s : List ℕ) → groups_in lim (suc k) total s ≡ next (one_group total) (more k total) s
  unfolding groups_in group_count group_items one_group more
  groups_is k total s =
      go (leb count_size (length s)) (leb (total + count_in s) lim.total)
      ∙ ap (λ (x : Outcome (Reading (List Region))). and_then x (λ r. more k total r.value r.rest)) (sym (block_is box_size (group_count total) group_items s))
    where
      left : List ℕ
      left = drop (group_size (count_in s)) s

      rest : Outcome (Reading (List (List Region)))
      rest = and_then (groups_in lim k (total + count_in s) left) (λ r. accepted (behind (group_boxes s) r))

      found : (t : Bool) (g : List Region) → length g ≡ count_in s
          → test t 4 (and_then (groups_in lim k (total + count_in s) left) (λ r. accepted (behind g r)))
          ≡ and_then (and_then (test t 4 (accepted g)) (λ v. accepted (reading v left))) (λ r. more k total r.value r.rest)
      found true g e = rw e refl
      found false g e = refl

      fits : (t : Bool) → leb (group_size (count_in s)) (length s) ≡ t
          → test t 3 (test (every (proper highest) (group_boxes s)) 4 rest)
          ≡ and_then (test t 3 (and_then (group_items (count_in s) (take (box_size * count_in s) (drop count_size s))) (λ v. accepted (reading v left)))) (λ r. more k total r.value r.rest)
      fits true e =
          rw (alone boxes_in box_size (count_in s) s boxes_front (leb-true (group_size (count_in s)) (length s) e))
          (found (every (proper highest) (group_boxes s)) (group_boxes s) (boxes_in-length (count_in s) (drop count_size s)))
      fits false e = refl

      go : (t u : Bool)
          → test t 3 (test u 7 (test (leb (group_size (count_in s)) (length s)) 3 (test (every (proper highest) (group_boxes s)) 4 rest)))
          ≡ and_then (test t 3 (and_then (test u 7 (accepted (count_in s))) (λ n. test (leb (count_size + box_size * n) (length s)) 3
          (and_then (group_items n (take (box_size * n) (drop count_size s))) (λ w. accepted (reading w (drop (count_size + box_size * n) s))))))) (λ r. more k total r.value r.rest)
      go true true = fits (leb (group_size (count_in s)) (length s)) refl
      go true false = refl
      go false u = refl

  pub groups_steady : (k total : ℕ) → Steady (groups_in lim k total)
  unfolding groups_in one_group more
  groups_steady zero total = same_steady (groups_in lim zero total) (say (accepted [])) (λ s. refl) (say_steady (accepted []))
  groups_steady (suc k) total =
      same_steady (groups_in lim (suc k) total) (next (one_group total) (more k total)) (groups_is k total)
      (next_steady (one_group total) (more k total) (block_steady box_size (group_count total) group_items)
      (λ g. next_steady (groups_in lim k (total + length g)) (λ gs. say (accepted (g ∷ gs))) (groups_steady k (total + length g)) (λ gs. say_steady (accepted (g ∷ gs)))))

  -- A and B, section C, and the sheet.
  lists_steady : Steady (lists_in lim)
  unfolding lists_in
  lists_steady =
      next_steady (section lim.gate) (λ a. next (section lim.own) (λ b. say (accepted (order a b)))) (section_steady lim.gate)
      (λ a. next_steady (section lim.own) (λ b. say (accepted (order a b))) (section_steady lim.own) (λ b. say_steady (accepted (order a b))))

  groups_count : Order → Reader ℕ
  groups_count o = next (grab count_size) (λ c. say (test (eqb (number_in c) (denies o.gate)) 8 (accepted 0)))

  pair_of : Order → List (List Region) → Pair
  pair_of o gs = record { order = o; groups = gs }

  groups_behind : Order → Reader Pair
  groups_behind o = next (groups_in lim (denies o.gate) (length o.own)) (λ gs. say (accepted (pair_of o gs)))

  section_c : Order → Reader Pair
  section_c o = next (groups_count o) (λ n. groups_behind o)

  pair_reader : Reader Pair
  pair_reader = next (lists_in lim) section_c

  section_c_is : (o : Order) (s : List ℕ) → group_section lim o s ≡ whole (section_c o) s
  unfolding group_section section_c groups_count groups_behind pair_of
  section_c_is o s = go (leb count_size (length s))
    where
      same : (u : Bool)
          → test u 8 (and_then (groups_in lim (denies o.gate) (length o.own) (drop count_size s)) (λ r. ended r (pair_of o r.value)))
          ≡ and_then (and_then (say (test u 8 (accepted 0)) (drop count_size s)) (λ (r : Reading ℕ). groups_behind o r.rest)) (λ r. ended r r.value)
      same true = sym (whole_next (groups_in lim (denies o.gate) (length o.own)) (λ gs. say (accepted (pair_of o gs))) (drop count_size s))
      same false = refl

      go : (t : Bool)
          → test t 3 (test (eqb (count_in s) (denies o.gate)) 8 (and_then (groups_in lim (denies o.gate) (length o.own) (drop count_size s)) (λ r. ended r (pair_of o r.value))))
          ≡ and_then (and_then (and_then (test t 3 (accepted (reading (take count_size s) (drop count_size s))))
          (λ (r : Reading (List ℕ)). say (test (eqb (number_in r.value) (denies o.gate)) 8 (accepted 0)) r.rest)) (λ (r : Reading ℕ). groups_behind o r.rest)) (λ r. ended r r.value)
      go true = same (eqb (count_in s) (denies o.gate))
      go false = refl

  pair_is : (s : List ℕ) → pair_in lim s ≡ whole pair_reader s
  unfolding pair_in pair_reader
  pair_is s = then_same (lists_in lim s) _ _ (λ r. section_c_is r.value r.rest) ∙ sym (whole_next (lists_in lim) section_c s)

  pair_steady : Steady pair_reader
  unfolding pair_reader section_c groups_count groups_behind
  pair_steady =
      next_steady (lists_in lim) section_c lists_steady
      (λ o. next_steady (groups_count o) (λ n. groups_behind o)
      (next_steady (grab count_size) (λ c. say (test (eqb (number_in c) (denies o.gate)) 8 (accepted 0))) (grab_steady count_size) (λ c. say_steady (test (eqb (number_in c) (denies o.gate)) 8 (accepted 0))))
      (λ n. next_steady (groups_in lim (denies o.gate) (length o.own)) (λ gs. say (accepted (pair_of o gs))) (groups_steady (denies o.gate) (length o.own)) (λ gs. say_steady (accepted (pair_of o gs)))))

  -- A buffer that begins with a pair sheet, told any other length than the sheet's: fewer bytes are too few, and of more some
  -- are left over.
  pub other_length_refused :
      (s : List ℕ) (p : Pair) (buffer : List ℕ) (used : ℕ) → pair_in lim s ≡ accepted p → take (length s) buffer ≡ s → used ≤ length buffer
      → (used ≡ length s → ⊥) → pair_in lim (take used buffer) ≡ refused 3
  other_length_refused s p buffer used e b h d =
      pair_is (take used buffer) ∙ other_length pair_reader pair_steady s p buffer used (sym (pair_is s) ∙ e) b h d
