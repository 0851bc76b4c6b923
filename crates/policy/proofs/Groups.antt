-- The facts of a cut read over a list of boxes, and lifted to the group of a deny rule.
use mathlib.Core.Path.{◌≡◌, refl, ◌∙◌}
use mathlib.Core.List.{List, [], ◌∷◌}
use mathlib.Core.Bool.{Bool, true, false, cond, not, ◌&&◌, ◌||◌}
use Prim.Native.Nat.{ℕ, suc, zero, ◌+◌, ◌≤◌, ◌<◌}
use native.Mathlib.Omega.{arith}
use lib.Dec.{ltb}
use lib.ListN.{length, get_or}
use borrow.Author.Tests.{ltb-false}
use Rattle.lists.proofs.Tests.{or_false}
use Rattle.policy.specs.Ranges.{Region, Packet, inside, Whole, Within}
use Rattle.policy.specs.Cut.{cut, cut_each, group, any_has}
use Rattle.lists.specs.Lists.{Each}
use Rattle.lists.proofs.Lists.{each_append, each_imp}
use Rattle.policy.specs.Move.{over}
use Rattle.policy.specs.Demands.{Piece, Apart}
use Rattle.policy.proofs.Cuts.{one, one_le, hits, hits-append, cond_zero, cut_hits, cut_inside, within_self}

hit : (p : Packet) (l : List Region) (i : ℕ) → i < length l → inside p (get_or l i []) ≡ true → 1 ≤ hits p l
unfolding hits
hit p [] i h e = omega arith
hit p (b ∷ l) zero h e = rw e (omega arith)
hit p (b ∷ l) (suc i) h e = let g = hit p l i (omega arith) e in omega arith

hit_twice : (p : Packet) (l : List Region) (i j : ℕ) → i < j → j < length l → inside p (get_or l i []) ≡ true → inside p (get_or l j []) ≡ true → 2 ≤ hits p l
unfolding hits
hit_twice p [] i j o h e f = omega arith
hit_twice p (b ∷ l) zero zero o h e f = omega arith
hit_twice p (b ∷ l) (suc i) zero o h e f = omega arith
hit_twice p (b ∷ l) zero (suc j) o h e f = let g = hit p l j (omega arith) f in rw e (omega arith)
hit_twice p (b ∷ l) (suc i) (suc j) o h e f = let g = hit_twice p l i j (omega arith) (omega arith) e f in omega arith

-- a list of boxes that counts each packet of a test once is apart
pub once_apart : (t : Packet → Bool) (l : List Region) → ((p : Packet) → hits p l ≡ one (t p)) → Apart l
once_apart t l h i j o k p e f =
    let g = hit_twice p l i j o k e f in
    let m = h p in
    let n = one_le (t p) in
    omega arith

-- boxes that count each packet of a test once have it exactly if the test holds
pub any_once : (p : Packet) (l : List Region) (t : Bool) → hits p l ≡ one t → any_has p l ≡ t
unfolding hits any_has
any_once p [] true h = absurd (omega arith)
any_once p [] false h = refl
any_once p (b ∷ l) t h = go (inside p b) refl (λ (k : hits p l ≡ one t). any_once p l t k) h
  where
    go : (u : Bool) → inside p b ≡ u → (hits p l ≡ one t → any_has p l ≡ t) → one u + hits p l ≡ one t → (u || any_has p l) ≡ t
    go false e ih k = ih (omega arith)
    go true e ih k = yes_one t k
      where
        yes_one : (v : Bool) → 1 + hits p l ≡ one v → true ≡ v
        yes_one true q = refl
        yes_one false q = absurd (omega arith)

-- the cut
pub cut_apart : (d a : Region) → Whole a → Apart (cut d a)
cut_apart d a w = once_apart (λ p. inside p d && not (inside p a)) (cut d a) (λ p. cut_hits p d a w)

pub cut_covers : (d a : Region) → Whole a → (p : Packet) → any_has p (cut d a) ≡ (inside p d && not (inside p a))
cut_covers d a w p = any_once p (cut d a) (inside p d && not (inside p a)) (cut_hits p d a w)

-- the group
cut_each-hits : (p : Packet) (ds : List Region) (a : Region) → Whole a → hits p (cut_each ds a) ≡ cond (inside p a) 0 (hits p ds)
unfolding hits cut_each
cut_each-hits p [] a w = cond_zero (inside p a)
cut_each-hits p (d ∷ ds) a w =
    rw (hits-append p (cut d a) (cut_each ds a), cut_each-hits p ds a w, cut_hits p d a w) (go (inside p d) (inside p a) (hits p ds))
  where
    go : (u t : Bool) (n : ℕ) → one (u && not t) + cond t 0 n ≡ cond t 0 (one u + n)
    go true true n = refl
    go true false n = refl
    go false true n = refl
    go false false n = refl

pub group_each_hits : (p : Packet) (ds l : List Region) → Each Whole l → hits p (group ds l) ≡ cond (any_has p l) 0 (hits p ds)
unfolding group any_has Each
group_each_hits p ds [] w = refl
group_each_hits p ds (a ∷ l) w = group_each_hits p (cut_each ds a) l w.1 ∙ rw (cut_each-hits p ds a w.0) (go (inside p a) (any_has p l) (hits p ds))
  where
    go : (u t : Bool) (n : ℕ) → cond t 0 (cond u 0 n) ≡ cond (u || t) 0 n
    go true true n = refl
    go true false n = refl
    go false t n = refl

pub group_hits : (p : Packet) (d : Region) (l : List Region) → Each Whole l → hits p (group (d ∷ []) l) ≡ one (inside p d && not (any_has p l))
unfolding hits
group_hits p d l w = group_each_hits p (d ∷ []) l w ∙ go (inside p d) (any_has p l)
  where
    go : (u t : Bool) → cond t 0 (one u + 0) ≡ one (u && not t)
    go true true = refl
    go true false = refl
    go false true = refl
    go false false = refl

pub group_apart : (d : Region) (l : List Region) → Each Whole l → Apart (group (d ∷ []) l)
group_apart d l w = once_apart (λ p. inside p d && not (any_has p l)) (group (d ∷ []) l) (λ p. group_hits p d l w)

pub group_covers : (d : Region) (l : List Region) → Each Whole l → (p : Packet) → any_has p (group (d ∷ []) l) ≡ (inside p d && not (any_has p l))
group_covers d l w p = any_once p (group (d ∷ []) l) (inside p d && not (any_has p l)) (group_hits p d l w)

-- every box of a group is never empty, and inside the deny box
within_trans : (a b c : Region) → Within a b → Within b c → Within a c
unfolding Within
within_trans [] [] [] h k = tt
within_trans [] [] (t ∷ c) h k = k
within_trans [] (s ∷ b) c h k = absurd h
within_trans (r ∷ a) [] c h k = absurd h
within_trans (r ∷ a) (s ∷ b) [] h k = k
within_trans (r ∷ a) (s ∷ b) (t ∷ c) h k = (omega arith, omega arith, within_trans a b c h.2 k.2)

cut_each-inside : (d : Region) (ds : List Region) (a : Region) → Whole a → Each (Piece d) ds → Each (Piece d) (cut_each ds a)
unfolding cut_each Each
cut_each-inside d [] a w h = tt
cut_each-inside d (b ∷ ds) a w h =
    each_append (Piece d) (cut b a) (cut_each ds a)
    (each_imp (Piece b) (Piece d) (cut b a) (λ x q. (q.0, within_trans x b d q.1 h.0.1)) (cut_inside b a h.0.0 w))
    (cut_each-inside d ds a w h.1)

group_each_inside : (d : Region) (ds l : List Region) → Each Whole l → Each (Piece d) ds → Each (Piece d) (group ds l)
unfolding group Each
group_each_inside d ds [] w h = h
group_each_inside d ds (a ∷ l) w h = group_each_inside d (cut_each ds a) l w.1 (cut_each-inside d ds a w.0 h)

pub group_inside : (d : Region) (l : List Region) → Whole d → Each Whole l → Each (Piece d) (group (d ∷ []) l)
unfolding Each
group_inside d l u w = group_each_inside d (d ∷ []) l w ((u, within_self d), tt)

-- where number 6 is not given, the group is within its limit
pub over_few : (most : ℕ) (ds allows : List Region) → over most ds allows ≡ false → length ds ≤ most → length (group ds allows) ≤ most
unfolding over group
over_few most ds [] h k = k
over_few most ds (a ∷ allows) h k =
    let f = or_false (ltb most (length (cut_each ds a))) (over most (cut_each ds a) allows) h in
    over_few most (cut_each ds a) allows f.1 (ltb-false most (length (cut_each ds a)) f.0)
