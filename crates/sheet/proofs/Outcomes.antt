-- Laws on outcomes: what follows from an acceptance, and the numbers of a list as tests in their order. Assumes nothing.
use mathlib.Core.Path.{◌≡◌, refl, ap, sym, ◌∙◌}
use mathlib.Core.List.{List, [], ◌∷◌}
use mathlib.Core.Bool.{Bool, true, false, not, ◌&&◌, ◌||◌}
use Prim.Native.Nat.{ℕ, zero, suc, ◌≤◌}
use native.Mathlib.Omega.{arith}
use lib.Dec.{leb, ltb}
use lib.ListN.{length}
use borrow.Author.Tests.{leb-true, leb-false, lt-ltb, le-ltb}
use Rattle.lists.specs.Lists.{every}
use Rattle.policy.proofs.Answers.{test_accepted}
use Rattle.policy.specs.Rules.{Rule, sound, complete}
use Rattle.policy.specs.Refusals.{Outcome, accepted, refused, test, and_then, given, or_else, unless, rules_refusal}
use Rattle.policy.proofs.Refused.{list_refusal}

module _ {A : Type 0} where
  -- tests in their order, and their numbers in theirs
  in_order :
      (a b c d : Bool) (x : A) → test a 2 (test b 2 (test c 4 (test d 5 (accepted x))))
      ≡ unless (or_else (given (not a || not b) 2) (or_else (given (not c) 4) (given (not d) 5))) x
  in_order true true true true x = refl
  in_order true true true false x = refl
  in_order true true false d x = refl
  in_order true false c d x = refl
  in_order false b c d x = refl

-- What an accepted chain went through.
pub record Through {A B : Type 0} (x : Outcome A) (f : A → Outcome B) (v : B) : Type 0 where
  pub value : A
  pub first : x ≡ accepted value
  pub then : f value ≡ accepted v

pub through : {A B : Type 0} (x : Outcome A) (f : A → Outcome B) (v : B) → and_then x f ≡ accepted v → Through x f v
through (accepted a) f v e = record { value = a; first = refl; then = e }
through (refused n) f v e = let z : ◌≡◌ {A = ℕ} 0 1 = cc in absurd (omega arith)

-- Going on where a number may have been given.
pub unless_then : {A B : Type 0} (n : ℕ) (a : A) (f : A → Outcome B) (b : B) → f a ≡ accepted b → and_then (unless n a) f ≡ unless n b
unless_then zero a f b e = e
unless_then (suc n) a f b e = refl

pub unless_both : {A B : Type 0} (n m : ℕ) (a : A) (f : A → Outcome B) (b : B) → f a ≡ unless m b → and_then (unless n a) f ≡ unless (or_else n m) b
unless_both zero m a f b e = e
unless_both (suc n) m a f b e = refl

rules_refusal-every : (l : List Rule) → rules_refusal l ≡ given (not (every sound l)) 4
unfolding rules_refusal every
rules_refusal-every [] = refl
rules_refusal-every (r ∷ l) = go (sound r) (rules_refusal-every l)
  where
    go : (t : Bool) → rules_refusal l ≡ given (not (every sound l)) 4 → or_else (given (not t) 4) (rules_refusal l) ≡ given (not (t && every sound l)) 4
    go true h = h
    go false h = refl

ltb_not : (a b : ℕ) → ltb a b ≡ not (leb b a)
ltb_not a b = go (leb b a) refl
  where
    go : (t : Bool) → leb b a ≡ t → ltb a b ≡ not t
    go true h = le-ltb a b (leb-true b a h)
    go false h = lt-ltb a b (leb-false b a h)

-- The number that a list is refused with, as the tests of reading.
pub list_outcome :
    {A : Type 0} (most : ℕ) (l : List Rule) (x : A)
    → test (leb 1 (length l)) 2 (test (leb (length l) most) 2 (test (every sound l) 4 (test (complete l) 5 (accepted x))))
    ≡ unless (list_refusal most l) x
unfolding list_refusal
list_outcome most l x =
    in_order (leb 1 (length l)) (leb (length l) most) (every sound l) (complete l) x
    ∙ sym (rw (rules_refusal-every l, ltb_not (length l) 1, ltb_not most (length l)) refl)

-- A list that is read without a refusal.
pub record Readable (most : ℕ) (l : List Rule) : Type 0 where
  pub few : 1 ≤ length l
  pub many : length l ≤ most
  pub sounds : every sound l ≡ true
  pub whole : complete l ≡ true

pub readable : (most : ℕ) (l : List Rule) → list_refusal most l ≡ 0 → Readable most l
readable most l h =
    let e = list_outcome most l most ∙ ap (λ (n : ℕ). unless n most) h in
    let a = test_accepted (leb 1 (length l)) 2 _ e in
    let b = test_accepted (leb (length l) most) 2 _ a.1 in
    let c = test_accepted (every sound l) 4 _ b.1 in
    let d = test_accepted (complete l) 5 _ c.1 in
    record {
      few = leb-true 1 (length l) a.0;
      many = leb-true (length l) most b.0;
      sounds = c.0;
      whole = d.0;
    }
