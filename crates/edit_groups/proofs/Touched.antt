-- Where the groups of the new A come from, told by whether an allow is at the place and by counts of deny rules.
-- Assumes nothing.
use mathlib.Core.Path.{◌≡◌, refl, ap, sym, ◌∙◌}
use mathlib.Core.List.{List, [], ◌∷◌}
use mathlib.Core.Bool.{Bool, true, false, cond, ◌||◌, true≢false}
use Prim.Native.Nat.{ℕ, suc, ◌+◌, ◌*◌, ◌-◌, ◌≤◌}
use native.Mathlib.Omega.{arith}
use lib.ListN.{length, take, drop, length-drop, drop_of_length-le}
use lib.Seq.{take-add, drop_at, drop-drop, length-take-le}
use Rattle.policy.specs.Fields.{count_size, record_size}
use Rattle.policy.specs.Rules.{Rule, is_allow, denies, any_allow}
use Rattle.policy.proofs.Kept.{denies-append}
use Rattle.wire.specs.Records.{rule_in, rules_in, each_in}
use Rattle.wire.proofs.Records.{rules_in-length, rules_from}
use Rattle.sheet.specs.Steps.{rules_of}
use Rattle.sheet.specs.declared.PairLayout.{PairLayout}
use Rattle.draft.proofs.Drafts.{rules_front}
use Rattle.promises.specs.declared.Change.{Change}
use Rattle.edit_list.specs.Steps.{taken_by, put_by}
use Rattle.edit_groups.specs.Steps.{touched, around_of, AroundReady}

-- the one rule at a place
pub only_rule : (place : ℕ) (rules : List ℕ) → any_allow (drop place (rules_in (place + 1) rules)) ≡ is_allow (rule_in (drop (record_size * place) rules))
unfolding any_allow each_in
only_rule place rules =
    let k : place + 1 - place ≡ 1 = omega arith in
    rw (rules_from place (place + 1) rules, k) (or_none _)
  where
    or_none : (t : Bool) → (t || false) ≡ t
    or_none true = refl
    or_none false = refl

-- no rule, or that one
pub no_rule : (s : List ℕ) (place n : ℕ) → n ≡ 0 → false ≡ any_allow (drop place (rules_of (place + n) s))
unfolding any_allow
no_rule s place n e =
    let l = rules_in-length (place + n) (drop count_size s) in
    let h : length (rules_of (place + n) s) ≤ place = omega arith in
    rw (drop_of_length-le (rules_of (place + n) s) h)

pub one_rule : (s : List ℕ) (place n : ℕ) {r : Rule} → n ≡ 1 → r ≡ rule_in (drop (count_size + record_size * place) s)
    → is_allow r ≡ any_allow (drop place (rules_of (place + n) s))
one_rule s place n e h =
    rw (e, h) (ap (λ (t : List ℕ). is_allow (rule_in t)) (sym (drop-drop (record_size * place) count_size s)) ∙ sym (only_rule place (drop count_size s)))

-- the rules from a place up to another, by themselves and within a list
part_is : (i n k : ℕ) (s : List ℕ) → i + n ≤ k → drop i (rules_of (i + n) s) ≡ take n (drop i (rules_of k s))
part_is i n k s h =
    let l : List Rule = rules_of k s in
    let e = rules_in-length k (drop count_size s) in
    ap (drop i) (sym (rules_front (i + n) k (drop count_size s) h) ∙ take-add i n l) ∙ drop_at (take i l) (take n (drop i l)) i (length-take-le i l (omega arith))

-- rules without an allow are all denies
denies_all : (l : List Rule) → any_allow l ≡ false → denies l ≡ length l
unfolding any_allow denies
denies_all [] h = refl
denies_all (r ∷ l) h = go (is_allow r) (denies_all l) h
  where
    go : (t : Bool) → (any_allow l ≡ false → denies l ≡ length l) → (t || any_allow l) ≡ false → cond t (denies l) (suc (denies l)) ≡ suc (length l)
    go true ih k = absurd (true≢false k)
    go false ih k = ap suc (ih k)

module _ {pair order : List ℕ} {l : PairLayout} {place renewed : ℕ} {change : Change} (ready : AroundReady pair l place change order renewed)
    {earlier taken put : ℕ} (counted : earlier ≡ denies (rules_of place pair)) (by : (taken ≡ taken_by change) × (put ≡ put_by change) × (taken ≤ 1) × (put ≤ 1)) where
  abbrev old : List Rule
  old = rules_of l.order.gate pair

  abbrev fresh : List Rule
  fresh = rules_of renewed order

  earlier_is : earlier ≡ denies (take place old)
  earlier_is = rw (rules_front place l.order.gate (drop count_size pair) (omega (arith, ready.taken))) counted

  taken_is : any_allow (drop place (rules_of (place + taken) pair)) ≡ any_allow (take (taken_by change) (drop place old))
  taken_is = rw by.0 (ap any_allow (part_is place (taken_by change) l.order.gate pair ready.taken))

  put_is : any_allow (drop place (rules_of (place + put) order)) ≡ any_allow (take (put_by change) (drop place fresh))
  put_is = rw by.1 (ap any_allow (part_is place (put_by change) renewed order ready.put))

  pub touched_is : {t : Bool} → t ≡ any_allow (drop place (rules_of (place + taken) pair)) || any_allow (drop place (rules_of (place + put) order)) → t ≡ touched place change old fresh
  unfolding touched
  touched_is e = e ∙ rw (taken_is, put_is) refl

  module _ {t : Bool} (is : t ≡ touched place change old fresh) where
    pub around_all : t ≡ true → record { earlier = earlier; later = l.groups; groups = l.groups; place = place; to = renewed; count = renewed } ≡ around_of place change old fresh
    unfolding around_of
    around_all h = rw (← is, h, earlier_is, ready.groups_are, rules_in-length renewed (drop count_size order))

    -- what is taken out, if anything, is a deny rule
    later_is : t ≡ false → denies (take (place + taken_by change) old) ≡ earlier + taken
    unfolding touched
    later_is h =
        let n = rules_in-length l.order.gate (drop count_size pair) in
        let m : length (take (taken_by change) (drop place old)) ≡ taken_by change = length-take-le (taken_by change) (drop place old) (rw length-drop (omega (arith, ready.taken))) in
        let d = denies_all (take (taken_by change) (drop place old)) (neither _ _ (sym is ∙ h)) in
        ap denies (take-add place (taken_by change) old) ∙ denies-append (take place old) (take (taken_by change) (drop place old)) ∙ omega (arith, earlier_is, by.0)
      where
        neither : (x y : Bool) → (x || y) ≡ false → x ≡ false
        neither true y e = e
        neither false y e = refl

    pub around_kept : t ≡ false
        → record { earlier = earlier; later = earlier + taken; groups = l.groups; place = place; to = place + put; count = renewed } ≡ around_of place change old fresh
    unfolding around_of
    around_kept h = rw (← is, h, later_is h, earlier_is, ready.groups_are, by.1, rules_in-length renewed (drop count_size order))
