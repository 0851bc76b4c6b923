-- A cut by a box without a common packet leaves the box whole; and no list of boxes that has exactly the packets of d without a is
-- shorter than the cut. Field by field: the boxes that go on behind the shared range's low end, one that has the packet just below the
-- allow and one that has the packet just above it are different boxes, since a box with two of these would have the corner that d and
-- a share. Assumes nothing.
use mathlib.Core.Path.{◌≡◌, refl, ap, sym, ◌∙◌}
use mathlib.Core.List.{List, [], ◌∷◌}
use mathlib.Core.Bool.{Bool, true, false, cond, not, ◌&&◌, ◌||◌, true≢false, false≢true}
use mathlib.Core.Logic.{◌⊎◌, inl, inr}
use Prim.Native.Nat.{ℕ, ◌+◌, ◌-◌, ◌≤◌, ◌<◌, max}
use native.Mathlib.Omega.{arith}
use lib.Dec.{ltb}
use lib.ListN.{length}
use borrow.Author.Tests.{ltb-true, not-true}
use Rattle.lists.specs.Lists.{every_both}
use Rattle.lists.proofs.Tests.{and_true, and_both, and_false, or_false}
use Rattle.lists.proofs.Lists.{some_few}
use Rattle.policy.specs.Ranges.{Range, range, Region, Packet, within, inside, Whole}
use Rattle.policy.specs.Cut.{meets, share, pieces, any_has}
use Rattle.policy.specs.Demands.{Left, WholeTheorem, FewestTheorem}
use Rattle.policy.proofs.Cuts.{one, one_le, hits, within_fact, within_true, rest_true, meets_fact, pieces-length, none_of, share_itself, cut_cases}

-- The low corner of what d and a share.
corner : Region → Region → Packet
corner [] a = []
corner (r ∷ d) [] = []
corner (r ∷ d) (s ∷ a) = max r.low s.low ∷ corner d a

corner_inside : (d a : Region) → Whole d → Whole a → share d a ≡ true → (inside (corner d a) d ≡ true) × (inside (corner d a) a ≡ true)
unfolding corner inside every_both Whole
corner_inside [] [] u v e = (refl, refl)
corner_inside [] (s ∷ a) u v e = absurd (false≢true e)
corner_inside (r ∷ d) [] u v e = absurd (false≢true e)
corner_inside (r ∷ d) (s ∷ a) u v e =
    let f = and_true (meets r s) (share d a) e in
    let m = meets_fact r s f.0 in
    let c = corner_inside d a u.1 v.1 f.1 in
    let x : ℕ = max r.low s.low in (
      and_both (within x r) (inside (corner d a) d) (within_true x r (omega arith) (omega arith)) c.0,
      and_both (within x s) (inside (corner d a) a) (within_true x s (omega arith) (omega arith)) c.1,
    )

-- What the boxes have behind x in the first field.
slice : ℕ → List Region → List Region
slice x [] = []
slice x ([] ∷ l) = slice x l
slice x ((q ∷ b) ∷ l) = cond (within x q) (b ∷ slice x l) (slice x l)

slice_has : (x : ℕ) (p : Packet) (l : List Region) → any_has p (slice x l) ≡ any_has (x ∷ p) l
unfolding slice any_has inside
slice_has x p [] = refl
slice_has x p ([] ∷ l) = slice_has x p l
slice_has x p ((q ∷ b) ∷ l) = go (within x q) (slice_has x p l)
  where
    go : (t : Bool) → any_has p (slice x l) ≡ any_has (x ∷ p) l → any_has p (cond t (b ∷ slice x l) (slice x l)) ≡ (t && inside p b || any_has (x ∷ p) l)
    go true ih = ap (λ (t : Bool). inside p b || t) ih
    go false ih = ih

has_hits : (p : Packet) (l : List Region) → any_has p l ≡ true → 1 ≤ hits p l
unfolding any_has hits
has_hits p [] h = absurd (false≢true h)
has_hits p (b ∷ l) h = go (inside p b) h (λ k. has_hits p l k)
  where
    go : (t : Bool) → (t || any_has p l) ≡ true → (any_has p l ≡ true → 1 ≤ hits p l) → 1 ≤ one t + hits p l
    go true h k = omega arith
    go false h k = let i = k h in omega arith

-- One box: it goes on behind x, or has one of two packets whose first values lie on both sides of x.
at_most_one : (u v w i : Bool) → (v ≡ true → w ≡ true → u ≡ true) → (u && i) ≡ false → one u + (one (v && i) + one (w && i)) ≤ 1
at_most_one true v w true between e = absurd (true≢false e)
at_most_one false true true true between e = absurd (false≢true (between refl refl))
at_most_one false true false true between e = omega arith
at_most_one false false true true between e = omega arith
at_most_one false false false true between e = omega arith
at_most_one u v w false between e = let a = ap one (and_false v) in let b = ap one (and_false w) in let c = one_le u in omega arith

-- All boxes, where none has the corner.
module _ (x y z : ℕ) (c : Packet) (between : (q : Range) → within y q ≡ true → within z q ≡ true → within x q ≡ true) where
  spread : (l : List Region) → any_has (x ∷ c) l ≡ false → length (slice x l) + (hits (y ∷ c) l + hits (z ∷ c) l) ≤ length l
  unfolding slice any_has hits inside
  spread [] h = omega arith
  spread ([] ∷ l) h = let k = spread l h in omega arith
  spread ((q ∷ b) ∷ l) h =
      let f = or_false (within x q && inside c b) (any_has (x ∷ c) l) h in
      let k = spread l f.1 in
      let o = at_most_one (within x q) (within y q) (within z q) (inside c b) (between q) f.0 in
      let n = longer (within x q) in
      omega arith
    where
      longer : (t : Bool) → length (cond t (b ∷ slice x l) (slice x l)) ≡ one t + length (slice x l)
      longer true = omega arith
      longer false = omega arith

pieces_fewest : (d a : Region) → Whole d → Whole a → share d a ≡ true → (l : List Region) → Left d a l → length (pieces d a) ≤ length l
unfolding every_both pieces Whole inside
pieces_fewest [] a u v e l exact = omega arith
pieces_fewest (r ∷ d) [] u v e l exact = omega arith
pieces_fewest (r ∷ d) (s ∷ a) u v e l exact =
    let f = and_true (meets r s) (share d a) e in
    let m = meets_fact r s f.0 in
    let c = corner_inside d a u.1 v.1 f.1 in
    let x : ℕ = max r.low s.low in
    let wr : within x r ≡ true = within_true x r (omega arith) (omega arith) in
    let ws : within x s ≡ true = within_true x s (omega arith) (omega arith) in
    let behind = pieces_fewest d a u.1 v.1 f.1 (slice x l) (λ p. slice_has x p l ∙ (exact (x ∷ p) ∙ rw (wr, ws))) in
    let apart = spread x (s.low - 1) (s.high + 1) (corner d a)
    (λ q g h. let i = within_fact (s.low - 1) q g in let j = within_fact (s.high + 1) q h in within_true x q (omega (arith, v.0)) (omega (arith, v.0)))
    l (exact (x ∷ corner d a) ∙ rw (wr, ws, c.0, c.1)) in
    let below = some_few (ltb r.low s.low) (range r.low (s.low - 1)) (hits ((s.low - 1) ∷ corner d a) l)
    (λ g. let i = ltb-true r.low s.low g in beside (s.low - 1) (omega arith) (omega arith) (inl (omega arith)) c.0) in
    let above = some_few (ltb s.high r.high) (range (s.high + 1) r.high) (hits ((s.high + 1) ∷ corner d a) l)
    (λ g. let i = ltb-true s.high r.high g in beside (s.high + 1) (omega arith) (omega arith) (inr (omega arith)) c.0) in
    let n = pieces-length r s d a in
    omega arith
  where
    -- A packet of d whose first value a has not is in some box.
    beside : (x : ℕ) → r.low ≤ x → x ≤ r.high → (x < s.low) ⊎ (s.high < x) → inside (corner d a) d ≡ true → 1 ≤ hits (x ∷ corner d a) l
    beside x g h o c =
        let w = and_true (within x r) (not (within x s)) (rest_true x r s g h o) in
        has_hits (x ∷ corner d a) l (exact (x ∷ corner d a) ∙ rw (w.0, not-true (within x s) w.1, c))

pub cut_fewest : FewestTheorem
unfolding any_has
cut_fewest d a u v l exact =
    cut_cases (λ (k : List Region). length k ≤ length l) d a (λ e. pieces_fewest d a u v e l exact)
    (λ e. let p : Packet = corner d d in let h = (corner_inside d d u u (share_itself d u)).0 in some p l (exact p ∙ rw (h, none_of p d a e h)))
  where
    some : (p : Packet) (l : List Region) → any_has p l ≡ true → 1 ≤ length l
    some p [] h = absurd (false≢true h)
    some p (b ∷ l) h = omega arith

pub cut_left_whole : WholeTheorem
cut_left_whole d a u v none =
    cut_cases (λ (l : List Region). l ≡ d ∷ []) d a (λ e. let c = corner_inside d a u v e in absurd (true≢false (sym c.1 ∙ none (corner d a) c.0))) (λ e. refl)
