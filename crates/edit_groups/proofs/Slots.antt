-- The groups of the new A, by where they come from, are those that an edit of A gives. Assumes nothing.
use mathlib.Core.Path.{◌≡◌, refl, ap, sym, ◌∙◌}
use mathlib.Core.List.{List, [], ◌++◌, map}
use mathlib.Core.Bool.{Bool, true, false, cond, ◌||◌}
use Prim.Native.Nat.{ℕ, ◌+◌, ◌≤◌, ◌<◌}
use native.Mathlib.Omega.{arith}
use lib.ListN.{length, take, drop, length-append, length-map, length-drop, drop_of_length-le}
use lib.Seq.{take-add, take_at, drop_at, length-take-le}
use Rattle.lists.proofs.Lists.{append-none, three-parts}
use Rattle.policy.specs.Fields.{limits}
use Rattle.policy.specs.Ranges.{Region}
use Rattle.policy.specs.Rules.{Rule, denies, allows_in, any_allow}
use Rattle.policy.specs.Move.{kept, slots}
use Rattle.policy.specs.Edit.{Kind, out, put, front, gone, back, changed, around}
use Rattle.policy.proofs.Edits.{slots-append, slots_length}
use Rattle.policy.proofs.Kept.{denies-append}
use Rattle.wire.specs.Records.{rules_in}
use Rattle.wire.proofs.Records.{rules_in-length}
use Rattle.sheet.specs.Steps.{groups_from}
use Rattle.sheet.proofs.Pairs.{denies_most}
use Rattle.draft.specs.Steps.{stretch}
use Rattle.draft.proofs.Drafts.{rules_front}
use Rattle.promises.specs.Edits.{kind_of}
use Rattle.promises.specs.declared.Change.{Change}
use Rattle.edit_list.specs.Steps.{taken_by, put_by}
use Rattle.edit_groups.specs.Steps.{touched, around_of, kept_slots, slots_around, Placed}
use Rattle.edit_groups.specs.declared.Around.{Around}
use Rattle.kept.proofs.Runs.{groups_front, groups_count_lem}
use Rattle.edit_list.proofs.Changes.{taken_is, put_is, few}

-- how many groups there are around a change
pub around-length : (f : Region → List Region) (x m n y : List Rule) (gs : List (List Region)) → length gs ≡ denies (x ++ (m ++ y))
    → length (around f x m n y gs) ≡ denies (x ++ (n ++ y))
unfolding around
around-length f x m n y gs h =
    let old : denies (x ++ (m ++ y)) ≡ denies x + (denies m + denies y) = denies-append x (m ++ y) ∙ ap (λ (k : ℕ). denies x + k) (denies-append m y) in
    let new : denies (x ++ (n ++ y)) ≡ denies x + (denies n + denies y) = denies-append x (n ++ y) ∙ ap (λ (k : ℕ). denies x + k) (denies-append n y) in
    let first : length (map kept (take (denies x) gs)) ≡ denies x = length-map (take (denies x) gs) kept ∙ length-take-le (denies x) gs (omega arith) in
    let second = slots_length f (allows_in x) n in
    let third : length (cond (any_allow m || any_allow n) (slots f (allows_in x ++ allows_in n) y) (map kept (drop (denies x + denies m) gs))) ≡ denies y = go (any_allow m || any_allow n) old in
    rw (length-append (map kept (take (denies x) gs)) _, length-append (slots f (allows_in x) n) _, new) (omega arith)
  where
    go : (t : Bool) → denies (x ++ (m ++ y)) ≡ denies x + (denies m + denies y)
        → length (cond t (slots f (allows_in x ++ allows_in n) y) (map kept (drop (denies x + denies m) gs))) ≡ denies y
    go true e = slots_length f (allows_in x ++ allows_in n) y
    go false e = length-map (drop (denies x + denies m) gs) kept ∙ rw length-drop (omega arith)

module _ (start : Region → List Region) (i : ℕ) (c : Change) (s : List ℕ) (l : List Rule) (there : i + out (kind_of c s) ≤ length l) where
  abbrev k : Kind
  k = kind_of c s

  abbrev new : List Rule
  new = changed i k l

  front_long : length (front i l) ≡ i
  front_long = length-take-le i l (omega arith)

  front_new : take i new ≡ front i l
  front_new = take_at (front i l) (put k ++ back i k l) i front_long

  behind_new : drop i new ≡ put k ++ back i k l
  behind_new = drop_at (front i l) (put k ++ back i k l) i front_long

  put_new : take (put_by c) (drop i new) ≡ put k
  put_new = rw behind_new (take_at (put k) (back i k l) (put_by c) (put_is c s))

  touched_is : touched i c l new ≡ (any_allow (gone i k l) || any_allow (put k))
  unfolding touched
  touched_is = rw (put_new, taken_is c s)

  later_is : denies (take (i + taken_by c) l) ≡ denies (front i l) + denies (gone i k l)
  later_is = rw (taken_is c s, take-add i (taken_by c) l) (denies-append (front i l) (take (taken_by c) (drop i l)))

  all_is : denies l ≡ denies (front i l) + (denies (gone i k l) + denies (back i k l))
  all_is = ap denies (sym (three-parts i (out k) l)) ∙ denies-append (front i l) (gone i k l ++ back i k l) ∙ ap (λ (n : ℕ). denies (front i l) + n) (denies-append (gone i k l) (back i k l))

  module _ (groups rules : List ℕ) (n : ℕ) (are : rules_in n rules ≡ new) where
    abbrev gs : List (List Region)
    gs = groups_from (denies l) groups

    count_is : n ≡ length new
    count_is = sym (rules_in-length n rules) ∙ ap length are

    new-length : length new ≡ i + (put_by c + length (back i k l))
    new-length = let p = put_is c s in let f = front_long in rw (length-append (front i l) (put k ++ back i k l), length-append (put k) (back i k l)) (omega arith)

    rules_before : rules_in i rules ≡ front i l
    rules_before = let e = count_is in let f = new-length in sym (rules_front i n rules (omega arith)) ∙ ap (take i) are ∙ front_new

    kept_before : kept_slots 0 (denies (take i l)) groups ≡ map kept (take (denies (front i l)) gs)
    kept_before = let e = all_is in ap (λ (x : List (List Region)). map kept x) (sym (groups_front (denies (front i l)) (denies l) groups (omega arith)))

    stretch_all : stretch start i (length new) rules ≡ slots start (allows_in (front i l)) (put k) ++ slots start (allows_in (front i l) ++ allows_in (put k)) (back i k l)
    stretch_all = rw (rules_before, ← count_is, are, behind_new) (slots-append start (allows_in (front i l)) (put k) (back i k l))

    stretch_put : stretch start i (i + put_by c) rules ≡ slots start (allows_in (front i l)) (put k)
    stretch_put =
        let e = count_is in
        let f = new-length in
        let t : rules_in (i + put_by c) rules ≡ front i l ++ put k = sym (rules_front (i + put_by c) n rules (omega arith)) ∙ ap (take (i + put_by c)) are ∙ take-add i (put_by c) new ∙ rw (front_new, put_new) in
        rw (rules_before, t, drop_at (front i l) (put k) i front_long)

    none_behind : kept_slots (denies l) (denies l) groups ≡ []
    none_behind = let m = groups_count_lem (denies l) groups in let z : length gs ≤ denies l = omega arith in rw (drop_of_length-le gs z)

    abbrev Same : Around → Bool → Type 0
    Same v t =
        slots_around start v groups rules
        ≡ map kept (take (denies (front i l)) gs) ++ (slots start (allows_in (front i l)) (put k)
        ++ cond t (slots start (allows_in (front i l) ++ allows_in (put k)) (back i k l)) (map kept (drop (denies (front i l) + denies (gone i k l)) gs)))

    same : (t : Bool) → Same
        (record { earlier = denies (take i l); later = cond t (denies l) (denies (take (i + taken_by c) l)); groups = denies l; place = i; to = cond t (length new) (i + put_by c); count = length new }) t
    same true = rw (kept_before, none_behind, stretch_all, append-none (slots start (allows_in (front i l)) (put k) ++ slots start (allows_in (front i l) ++ allows_in (put k)) (back i k l)))
    same false = rw (kept_before, stretch_put, later_is)

    pub gate_slots_lem : slots_around start (around_of i c l new) groups rules ≡ around start (front i l) (gone i k l) (put k) (back i k l) gs
    unfolding around_of around
    gate_slots_lem = rw touched_is (same (any_allow (gone i k l) || any_allow (put k)))

    placed : (t : Bool) → n ≤ limits.gate → Placed
        (record { earlier = denies (take i l); later = cond t (denies l) (denies (take (i + taken_by c) l)); groups = denies l; place = i; to = cond t (length new) (i + put_by c); count = length new })
    placed true h =
        let a = all_is in
        let e = count_is in
        let f = new-length in
        record { earlier = omega arith; between = omega arith; before = omega (arith, denies_most (front i l), front_long); up_to = omega arith; in_gate = omega arith; later = omega arith; fits = omega arith }
    placed false h =
        let a = all_is in
        let b = later_is in
        let e = count_is in
        let f = new-length in
        record {
          earlier = omega arith;
          between = omega arith;
          before = omega (arith, denies_most (front i l), front_long);
          up_to = omega arith;
          in_gate = omega arith;
          later = omega arith;
          fits = omega (arith, denies_most (back i k l));
        }

    pub gate_placed : n ≤ limits.gate → Placed (around_of i c l new)
    unfolding around_of
    gate_placed h = placed (touched i c l new) h

    -- with more than one rule to work out, no group is kept behind the place
    wide : (t : Bool) → i + 1 < cond t (length new) (i + put_by c) → cond t (denies l) (denies (take (i + taken_by c) l)) ≡ denies l
    wide true h = refl
    wide false h = absurd (omega (arith, (few c).1))

    pub gate_wide : (around_of i c l new).place + 1 < (around_of i c l new).to → (around_of i c l new).later ≡ (around_of i c l new).groups
    unfolding around_of
    gate_wide h = wide (touched i c l new) h
