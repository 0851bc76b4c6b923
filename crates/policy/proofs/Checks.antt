-- What check accepts is a moved pair, and an accepted move passes check. Assumes nothing.
use mathlib.Core.Path.{◌≡◌, refl, ap}
use mathlib.Core.List.{List, [], ◌∷◌}
use mathlib.Core.Bool.{Bool, true, not, false≢true}
use lib.Dec.{eqb}
use borrow.Author.Tests.{eqb-true, eq-eqb, not-false}
use Rattle.lists.specs.Lists.{every_both}
use Rattle.lists.proofs.Tests.{and_true, and_both}
use Rattle.policy.specs.Fields.{Limits}
use Rattle.policy.specs.Ranges.{Range, Region}
use Rattle.policy.specs.Refusals.{given}
use Rattle.policy.specs.Check.{same_range, same_groups, check_refusal}
use Rattle.policy.specs.Move.{slots_of, Order, Pair, moved, work, room}
use Rattle.policy.proofs.Refused.{move_refusal}
use Rattle.policy.proofs.Numbers.{or_else_zero, or_else-both, given_zero}
use Rattle.policy.proofs.Edits.{move_accepted}

pub same_sound : {A : Type 0} (f : A → A → Bool) → ((a b : A) → f a b ≡ true → a ≡ b) → (l k : List A) → every_both f l k ≡ true → l ≡ k
unfolding every_both
same_sound f s [] [] h = refl
same_sound f s [] (b ∷ k) h = absurd (false≢true h)
same_sound f s (a ∷ l) [] h = absurd (false≢true h)
same_sound f s (a ∷ l) (b ∷ k) h =
    let g = and_true (f a b) (every_both f l k) h in
    let e = s a b g.0 in
    let i = same_sound f s l k g.1 in
    λ t. e t ∷ i t

pub same_self : {A : Type 0} (f : A → A → Bool) → ((a : A) → f a a ≡ true) → (l : List A) → every_both f l l ≡ true
unfolding every_both
same_self f s [] = refl
same_self f s (a ∷ l) = and_both (f a a) (every_both f l l) (s a) (same_self f s l)

range_sound : (r s : Range) → same_range r s ≡ true → r ≡ s
range_sound r s h =
    let g = and_true (eqb r.low s.low) (eqb r.high s.high) h in
    let e = eqb-true r.low s.low g.0 in
    let f = eqb-true r.high s.high g.1 in
    λ t. record { low = e t; high = f t }

pub groups_sound : (gs hs : List (List Region)) → same_groups gs hs ≡ true → gs ≡ hs
unfolding same_groups
groups_sound = same_sound (every_both (every_both same_range)) (same_sound (every_both same_range) (same_sound same_range range_sound))

pub groups_self : (gs : List (List Region)) → same_groups gs gs ≡ true
unfolding same_groups
groups_self =
    same_self (every_both (every_both same_range)) (same_self (every_both same_range) (same_self same_range (λ (r : Range). and_both (eqb r.low r.low) (eqb r.high r.high) (eq-eqb r.low r.low refl) (eq-eqb r.high r.high refl))))

-- what check accepts is a moved pair
pub checked_is_moved : (lim : Limits) (s : Pair) → check_refusal lim s ≡ 0 → s ≡ moved s.order
unfolding check_refusal
checked_is_moved lim s h =
    let f = or_else_zero (work lim (slots_of s.order)) _ h in
    let e = groups_sound s.groups (moved s.order).groups (not-false _ (given_zero _ 7 f.1)) in
    λ t. record { order = s.order; groups = e t }

-- and every accepted move passes
pub moved_is_checked : (lim : Limits) (o : Order) → move_refusal lim o ≡ 0 → check_refusal lim (moved o) ≡ 0
unfolding room check_refusal
moved_is_checked lim o h =
    let k = or_else_zero (work lim (slots_of o)) _ (move_accepted lim o h).room in
    or_else-both (work lim (slots_of o)) _ k.0 (ap (λ (t : Bool). given (not t) 8) (groups_self (moved o).groups))
