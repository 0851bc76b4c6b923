-- An edit that adds, drops or swaps a deny rule changes no other rule's boxes; on any pair, stale ones too.
-- Assumes nothing.
use mathlib.Core.Path.{◌≡◌, refl, ap, sym, ◌∙◌}
use mathlib.Core.List.{List, [], ◌∷◌, ◌++◌, map}
use mathlib.Core.Bool.{Bool, true, false, cond, ◌||◌}
use Prim.Native.Nat.{ℕ, zero, suc, ◌+◌, ◌-◌, ◌≤◌, ◌<◌}
use native.Mathlib.Omega.{arith}
use lib.ListN.{length, get_or, take, drop, length-map, length-drop, get_or-append, take-append-drop}
use lib.Seq.{take-append-add, take-append-le, take-take, get_or-take, get_or-drop, get_or-append-add, length-take-le}
use borrow.Author.Tests.{leb-true}
use Rattle.lists.proofs.Lists.{map-append, three-parts}
use Rattle.policy.specs.Ranges.{Region}
use Rattle.policy.specs.Rules.{Rule, rule, is_allow, denies, allows_in, any_allow}
use Rattle.policy.specs.Move.{kept, start_of, slots, boxes_of, Pair}
use Rattle.policy.specs.Edit.{Kind, out, put, front, gone, back, changed, has_place, around, edited}
use Rattle.policy.specs.Demands.{group_at, OthersKept, DenyOnly}
use Rattle.policy.proofs.Edits.{slots_length, kept_boxes}

-- the pair after a change of A
abbrev after : ℕ → Kind → Pair → Pair
after i k s = edited (record { in_gate = true; place = i; kind = k }) s

pub denies-append : (x y : List Rule) → denies (x ++ y) ≡ denies x + denies y
unfolding denies
denies-append [] y = omega arith
denies-append (r ∷ x) y = go (is_allow r) (denies-append x y)
  where
    go : (t : Bool) → denies (x ++ y) ≡ denies x + denies y → cond t (denies (x ++ y)) (suc (denies (x ++ y))) ≡ cond t (denies x) (suc (denies x)) + denies y
    go true h = h
    go false h = omega arith

-- a deny rule before a place is counted there
pub deny_counts : (l : List Rule) (j i : ℕ) (d : Rule) → j < i → i ≤ length l → is_allow (get_or l j d) ≡ false → denies (take j l) < denies (take i l)
unfolding denies
deny_counts [] j i d h k e = omega arith
deny_counts (r ∷ l) j zero d h k e = omega arith
deny_counts (r ∷ l) zero (suc i) d h k e = rw e (omega arith)
deny_counts (r ∷ l) (suc j) (suc i) d h k e = go (is_allow r) (deny_counts l j i d (omega arith) (omega arith) e)
  where
    go : (t : Bool) → denies (take j l) < denies (take i l) → cond t (denies (take j l)) (suc (denies (take j l))) < cond t (denies (take i l)) (suc (denies (take i l)))
    go true f = f
    go false f = omega arith

-- where no allow is touched, all groups but those of the rules put in are kept
around_keeps : (f : Region → List Region) (x m n y : List Rule) (gs : List (List Region)) → (any_allow m || any_allow n) ≡ false
    → map boxes_of (around f x m n y gs) ≡ take (denies x) gs ++ (map boxes_of (slots f (allows_in x) n) ++ drop (denies x + denies m) gs)
unfolding around
around_keeps f x m n y gs h =
    rw (h, map-append boxes_of (map kept (take (denies x) gs)) _, kept_boxes (take (denies x) gs), map-append boxes_of (slots f (allows_in x) n) _, kept_boxes (drop (denies x + denies m) gs))

module _ (i : ℕ) (k : Kind) (s : Pair) (place : has_place i k s.order.gate ≡ true) (counted : length s.groups ≡ denies s.order.gate) (deny : DenyOnly i k s.order.gate) where
  here : i + out k ≤ length s.order.gate
  here = leb-true (i + out k) (length s.order.gate) place

  -- a deny rule before the place
  before_kept : (j : ℕ) → j < i → is_allow (get_or s.order.gate j (rule [] 0)) ≡ false → group_at (after i k s) j ≡ group_at s j
  before_kept j h e =
      let gate : List Rule = s.order.gate in
      let x : List Rule = front i gate in
      let lx : length x ≡ i = length-take-le i gate (omega (arith, here)) in
      let same : take j (changed i k gate) ≡ take j gate = take-append-le j x (put k ++ back i k gate) (omega arith) ∙ take-take j i gate (omega arith) in
      let c = deny_counts gate j i (rule [] 0) h (omega (arith, here)) e in
      let parts : denies gate ≡ denies x + denies (drop i gate) = ap denies (sym (take-append-drop i gate)) ∙ denies-append x (drop i gate) in
      let lt : length (take (denies x) s.groups) ≡ denies x = length-take-le (denies x) s.groups (omega arith) in
      rw (around_keeps (start_of s.order) x (gone i k gate) (put k) (back i k gate) s.groups deny, same)
      (get_or-append (take (denies x) s.groups) _ [] (denies (take j gate)) (omega arith)
      ∙ get_or-take (denies x) s.groups (denies (take j gate)) [] c)

  -- the deny rule that stood d places after those taken out stands d places after those put in
  after_kept : (d : ℕ) → group_at (after i k s) (i + (length (put k) + d)) ≡ group_at s (i + (out k + d))
  after_kept d =
      let gate : List Rule = s.order.gate in
      let x : List Rule = front i gate in
      let m : List Rule = gone i k gate in
      let y : List Rule = back i k gate in
      let n : List (List Region) = map boxes_of (slots (start_of s.order) (allows_in x) (put k)) in
      let lx : length x ≡ i = length-take-le i gate (omega (arith, here)) in
      let ld : length (drop i gate) ≡ length gate - i = length-drop i gate in
      let lm : length m ≡ out k = length-take-le (out k) (drop i gate) (omega (arith, here)) in
      let ln : length n ≡ denies (put k) = length-map (slots (start_of s.order) (allows_in x) (put k)) boxes_of ∙ slots_length (start_of s.order) (allows_in x) (put k) in
      let new : denies (take (i + (length (put k) + d)) (changed i k gate)) ≡ denies x + (denies (put k) + denies (take d y)) = two x (put k) y i (length (put k)) d lx refl in
      let old : denies (take (i + (out k + d)) gate) ≡ denies x + (denies m + denies (take d y)) = ap (λ (l : List Rule). denies (take (i + (out k + d)) l)) (sym (three-parts i (out k) gate)) ∙ two x m y i (out k) d lx lm in
      let parts : denies gate ≡ denies x + denies (drop i gate) = ap denies (sym (take-append-drop i gate)) ∙ denies-append x (drop i gate) in
      let lt : length (take (denies x) s.groups) ≡ denies x = length-take-le (denies x) s.groups (omega arith) in
      rw (around_keeps (start_of s.order) x m (put k) y s.groups deny, new, old)
      (third (take (denies x) s.groups) n (drop (denies x + denies m) s.groups) (denies x) (denies (put k)) (denies (take d y)) lt ln
      ∙ get_or-drop (denies x + denies m) s.groups (denies (take d y)) []
      ∙ ap (λ (q : ℕ). get_or s.groups q []) (omega arith))
    where
      two : (x m y : List Rule) (i n d : ℕ) → length x ≡ i → length m ≡ n → denies (take (i + (n + d)) (x ++ (m ++ y))) ≡ denies x + (denies m + denies (take d y))
      two x m y i n d lx lm =
          rw (← lx, ← lm, take-append-add x (m ++ y) (length m + d), take-append-add m y d, denies-append x (m ++ take d y), denies-append m (take d y))

      third : (a b c : List (List Region)) (i n d : ℕ) → length a ≡ i → length b ≡ n → get_or (a ++ (b ++ c)) (i + (n + d)) [] ≡ get_or c d []
      third a b c i n d la lb = rw (← la, ← lb, get_or-append-add a (b ++ c) (length b + d) [], get_or-append-add b c d [])

  pub others_kept : OthersKept i k s (after i k s)
  others_kept = record { earlier = before_kept; later = after_kept }
