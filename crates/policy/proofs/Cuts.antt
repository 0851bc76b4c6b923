-- The facts of a cut, once over the number of fields: each packet of d that is not in a is in exactly one piece, every piece
-- is never empty and lies in d, and there are at most two for each field. Assumes nothing.
use mathlib.Core.Path.{◌≡◌, refl, ap, sym, ◌∙◌}
use mathlib.Core.List.{List, [], ◌∷◌, ◌++◌, map}
use mathlib.Core.Bool.{Bool, true, false, cond, not, ◌&&◌, true≢false, false≢true}
use mathlib.Core.Logic.{◌⊎◌, inl, inr, ⊎_elim}
use Prim.Native.Nat.{ℕ, ◌+◌, ◌-◌, ◌*◌, ◌≤◌, ◌<◌}
use native.Mathlib.Omega.{arith}
use lib.Dec.{leb, ltb}
use lib.ListN.{length, length-append, length-map}
use borrow.Author.Tests.{ltb-true, leb-true, leb-false, le-leb, lt-ltb, le-ltb, not-true}
use Rattle.lists.specs.Lists.{Each, every_both}
use Rattle.lists.proofs.Tests.{and_true, and_both, bool_eq}
use Rattle.lists.proofs.Lists.{each_append, each_map, some_few}
use Rattle.policy.specs.Ranges.{Range, range, Region, Packet, within, inside, Whole, Within}
use Rattle.policy.specs.Demands.{Piece}
use Rattle.policy.specs.Cut.{meets, share, low_part, high_part, shared, before, pieces, cut}

-- Bool as a number, and how many boxes of a list have a packet
abbrev pub one : Bool → ℕ
one true = 1
one false = 0

pub one_le : (t : Bool) → one t ≤ 1
one_le true = omega arith
one_le false = omega arith

unfoldable pub hits : Packet → List Region → ℕ
hits p [] = 0
hits p (b ∷ bs) = one (inside p b) + hits p bs

-- two tests that exclude each other and together are a third
one_and_one : (u v w : Bool) → (u ≡ true → v ≡ true → ⊥) → (w ≡ true → (u ≡ true) ⊎ (v ≡ true)) → (u ≡ true → w ≡ true) → (v ≡ true → w ≡ true) → one u + one v ≡ one w
one_and_one true true w n s f g = absurd (n refl refl)
one_and_one true false true n s f g = refl
one_and_one true false false n s f g = ap one (sym (f refl))
one_and_one false true true n s f g = refl
one_and_one false true false n s f g = ap one (sym (g refl))
one_and_one false false true n s f g = ⊎_elim (λ h. ap one h) (λ h. ap one h) (s refl)
one_and_one false false false n s f g = refl

-- a value in a range
pub within_fact : (x : ℕ) (r : Range) → within x r ≡ true → (r.low ≤ x) × (x ≤ r.high)
within_fact x r h =
    let w : (leb r.low x ≡ true) × (leb x r.high ≡ true) = and_true _ _ h in
    (leb-true _ _ w.0, leb-true _ _ w.1)

pub within_true : (x : ℕ) (r : Range) → r.low ≤ x → x ≤ r.high → within x r ≡ true
within_true x r h k = and_both _ _ (le-leb _ _ h) (le-leb _ _ k)

pub within_not : (x : ℕ) (r : Range) → within x r ≡ false → (x < r.low) ⊎ (r.high < x)
within_not x r h = go (leb r.low x) refl (leb x r.high) refl
  where
    go : (b : Bool) → leb r.low x ≡ b → (c : Bool) → leb x r.high ≡ c → (x < r.low) ⊎ (r.high < x)
    go false e c f = inl (leb-false _ _ e)
    go true e false f = inr (leb-false _ _ f)
    go true e true f = let z : true ≡ false = sym (and_both _ _ e f) ∙ h in let z' : ◌≡◌ {A = ℕ} 0 1 = cc in inl (omega arith)

-- how often a list of ranges has a value; one field of a cut
sums : ℕ → List Range → ℕ
sums x [] = 0
sums x (r ∷ rs) = one (within x r) + sums x rs

one_if : (x : ℕ) (t : Bool) (r : Range) → sums x (cond t (r ∷ []) []) ≡ one (t && within x r)
unfolding sums
one_if x true r = omega arith
one_if x false r = refl

-- a part that is there if a < b
part_fact : (a b x : ℕ) (r : Range) → (ltb a b && within x r) ≡ true → (a < b) × (r.low ≤ x) × (x ≤ r.high)
part_fact a b x r h =
    let w = and_true (ltb a b) (within x r) h in
    let f = within_fact x r w.1 in
    (ltb-true _ _ w.0, f.0, f.1)

part_true : (a b x : ℕ) (r : Range) → a < b → r.low ≤ x → x ≤ r.high → (ltb a b && within x r) ≡ true
part_true a b x r t h k = and_both _ _ (lt-ltb _ _ t) (within_true x r h k)

-- in r and not in s
rest_fact : (x : ℕ) (r s : Range) → (within x r && not (within x s)) ≡ true → ((r.low ≤ x) × (x ≤ r.high)) × ((x < s.low) ⊎ (s.high < x))
rest_fact x r s h =
    let w = and_true (within x r) (not (within x s)) h in
    (within_fact x r w.0, within_not x s (not-true _ w.1))

pub rest_true : (x : ℕ) (r s : Range) → r.low ≤ x → x ≤ r.high → (x < s.low) ⊎ (s.high < x) → (within x r && not (within x s)) ≡ true
rest_true x r s h k o = and_both _ _ (within_true x r h k) (go (within x s) refl)
  where
    go : (b : Bool) → within x s ≡ b → not b ≡ true
    go false e = refl
    go true e = let f = within_fact x s e in ⊎_elim (λ h. absurd (omega arith)) (λ h. absurd (omega arith)) o

pub meets_fact : (r s : Range) → meets r s ≡ true → (r.low ≤ s.high) × (s.low ≤ r.high)
meets_fact r s m =
    let w = and_true (leb r.low s.high) (leb s.low r.high) m in
    (leb-true _ _ w.0, leb-true _ _ w.1)

-- where r and s meet, each value is once in the low part, the high part or the shared range if it is in r
module _ (x : ℕ) (r s : Range) (m : meets r s ≡ true) (ok : s.low ≤ s.high) where
  shared_field : within x (shared r s) ≡ (within x r && within x s)
  shared_field = bool_eq _ _
      (λ h. let f = within_fact x (shared r s) h in and_both _ _ (within_true x r (omega arith) (omega arith)) (within_true x s (omega arith) (omega arith)))
      (λ h. let g = and_true _ _ h in let f = within_fact x r g.0 in let f' = within_fact x s g.1 in within_true x (shared r s) (omega arith) (omega arith))

  parts_field : sums x (low_part r s) + sums x (high_part r s) ≡ one (within x r && not (within x s))
  parts_field =
      let lr : Range = range r.low (s.low - 1) in
      let hr : Range = range (s.high + 1) r.high in
      let met = meets_fact r s m in
      rw (one_if, one_if)
      (one_and_one (ltb r.low s.low && within x lr) (ltb s.high r.high && within x hr) (within x r && not (within x s))
      (λ h k. let f = part_fact r.low s.low x lr h in let g = part_fact s.high r.high x hr k in omega arith)
      (λ h. let f = rest_fact x r s h in
      ⊎_elim
      (λ k. inl (part_true r.low s.low x lr (omega arith) (omega arith) (omega arith)))
      (λ k. inr (part_true s.high r.high x hr (omega arith) (omega arith) (omega arith)))
      f.1)
      (λ h. let f = part_fact r.low s.low x lr h in rest_true x r s (omega arith) (omega arith) (inl (omega arith)))
      (λ h. let f = part_fact s.high r.high x hr h in rest_true x r s (omega arith) (omega arith) (inr (omega arith))))

-- counting through lists of boxes
pub hits-append : (p : Packet) (l k : List Region) → hits p (l ++ k) ≡ hits p l + hits p k
unfolding hits
hits-append p [] k = omega arith
hits-append p (b ∷ l) k = let h = hits-append p l k in omega arith

pub cond_zero : (u : Bool) → ◌≡◌ {A = ℕ} 0 (cond u 0 0)
cond_zero true = refl
cond_zero false = refl

-- boxes that begin with one range, and boxes that end alike
hits_after : (x : ℕ) (p : Packet) (r : Range) (l : List Region) → hits (x ∷ p) (map (◌∷◌ r) l) ≡ cond (within x r) (hits p l) 0
unfolding hits inside
hits_after x p r [] = cond_zero (within x r)
hits_after x p r (b ∷ l) = rw (hits_after x p r l) (go (within x r) (inside p b) (hits p l))
  where
    go : (u v : Bool) (n : ℕ) → one (u && v) + cond u n 0 ≡ cond u (one v + n) 0
    go true v n = refl
    go false v n = refl

hits_before : (x : ℕ) (p : Packet) (d : Region) (l : List Range) → hits (x ∷ p) (map (before d) l) ≡ cond (inside p d) (sums x l) 0
unfolding hits inside sums
hits_before x p d [] = cond_zero (inside p d)
hits_before x p d (r ∷ l) = rw (hits_before x p d l) (go (within x r) (inside p d) (sums x l))
  where
    go : (u v : Bool) (n : ℕ) → one (u && v) + cond v n 0 ≡ cond v (one u + n) 0
    go true true n = refl
    go true false n = refl
    go false true n = refl
    go false false n = refl

hits_none_after : (r : Range) (l : List Region) → hits [] (map (◌∷◌ r) l) ≡ 0
unfolding hits inside
hits_none_after r [] = refl
hits_none_after r (b ∷ l) = rw (hits_none_after r l)

hits_none_before : (d : Region) (l : List Range) → hits [] (map (before d) l) ≡ 0
unfolding hits inside
hits_none_before d [] = refl
hits_none_before d (r ∷ l) = rw (hits_none_before d l)

-- the parts of a field and what is left of the later fields, put together
join : (wr ws ip ia : Bool) (m n : ℕ) → m + n ≡ one (wr && not ws)
    → cond ip m 0 + (cond ip n 0 + cond (wr && ws) (one (ip && not ia)) 0) ≡ one (wr && ip && not (ws && ia))
join wr ws false ia m n h = none (wr && ws) (wr && false && not (ws && ia)) (last wr (ws && ia))
  where
    none : (u v : Bool) → v ≡ false → 0 + (0 + cond u 0 0) ≡ one v
    none u v e = rw e (let z = cond_zero u in omega arith)

    last : (u v : Bool) → (u && false && not v) ≡ false
    last true v = refl
    last false v = refl
join true true true true m n h = omega arith
join true true true false m n h = omega arith
join true false true ia m n h = omega arith
join false ws true ia m n h = omega arith

-- a packet is in exactly one piece if it is in d and not in a, and in none otherwise
pieces_hits : (p : Packet) (d a : Region) → Whole a → share d a ≡ true → hits p (pieces d a) ≡ one (inside p d && not (inside p a))
unfolding hits inside every_both pieces Whole
pieces_hits [] [] [] w e = refl
pieces_hits (x ∷ p) [] [] w e = refl
pieces_hits p [] (s ∷ a) w e = absurd (false≢true e)
pieces_hits p (r ∷ d) [] w e = absurd (false≢true e)
pieces_hits [] (r ∷ d) (s ∷ a) w e = simp (hits-append, hits_none_before, hits_none_after)
pieces_hits (x ∷ p) (r ∷ d) (s ∷ a) w e =
    let f = and_true (meets r s) (share d a) e in
    rw (hits-append, hits-append, hits_before, hits_before, hits_after x p (shared r s) (pieces d a), pieces_hits p d a w.1 f.1, shared_field x r s f.0 w.0)
    (join (within x r) (within x s) (inside p d) (inside p a) (sums x (low_part r s)) (sums x (high_part r s)) (parts_field x r s f.0 w.0))

pub within_self : (d : Region) → Within d d
unfolding Within
within_self [] = tt
within_self (r ∷ d) = (omega arith, omega arith, within_self d)

pieces_inside : (d a : Region) → Whole d → Whole a → share d a ≡ true → Each (Piece d) (pieces d a)
unfolding every_both pieces Whole Within Each
pieces_inside [] a u v e = tt
pieces_inside (r ∷ d) [] u v e = tt
pieces_inside (r ∷ d) (s ∷ a) u v e =
    let f = and_true (meets r s) (share d a) e in
    let m = meets_fact r s f.0 in
    each_append (Piece (r ∷ d)) (map (before d) (low_part r s)) (map (before d) (high_part r s) ++ map (◌∷◌ (shared r s)) (pieces d a)) (low (ltb r.low s.low) refl m)
    (each_append (Piece (r ∷ d)) (map (before d) (high_part r s)) (map (◌∷◌ (shared r s)) (pieces d a)) (high (ltb s.high r.high) refl m)
    (each_map (Piece d) (Piece (r ∷ d)) (◌∷◌ (shared r s)) (pieces d a) (λ b h. ((omega arith, h.0), (omega arith, omega arith, h.1))) (pieces_inside d a u.1 v.1 f.1)))
  where
    low : (t : Bool) → ltb r.low s.low ≡ t → (r.low ≤ s.high) × (s.low ≤ r.high) → Each (Piece (r ∷ d)) (map (before d) (cond t (range r.low (s.low - 1) ∷ []) []))
    low false g m = tt
    low true g m = let l = ltb-true r.low s.low g in (((omega arith, u.1), (omega arith, omega arith, within_self d)), tt)

    high : (t : Bool) → ltb s.high r.high ≡ t → (r.low ≤ s.high) × (s.low ≤ r.high) → Each (Piece (r ∷ d)) (map (before d) (cond t (range (s.high + 1) r.high ∷ []) []))
    high false g m = tt
    high true g m = let l = ltb-true s.high r.high g in (((omega arith, u.1), (omega arith, omega arith, within_self d)), tt)

-- the pieces of the first field, and of the later ones
pub pieces-length : (r s : Range) (d a : Region) → length (pieces (r ∷ d) (s ∷ a)) ≡ length (low_part r s) + (length (high_part r s) + length (pieces d a))
unfolding pieces
pieces-length r s d a =
    rw (length-append, length-append, length-map (low_part r s) (before d), length-map (high_part r s) (before d), length-map (pieces d a) (◌∷◌ (shared r s)))

-- at most two pieces for each field
pieces_few : (d a : Region) → length (pieces d a) ≤ 2 * length d
unfolding pieces
pieces_few [] a = omega arith
pieces_few (r ∷ d) [] = omega arith
pieces_few (r ∷ d) (s ∷ a) =
    let e = pieces-length r s d a in
    let f = some_few (ltb r.low s.low) (range r.low (s.low - 1)) 1 (λ t. omega arith) in
    let g = some_few (ltb s.high r.high) (range (s.high + 1) r.high) 1 (λ t. omega arith) in
    let h = pieces_few d a in
    omega arith

-- a box less itself leaves nothing
pieces_itself : (b : Region) → pieces b b ≡ []
unfolding pieces
pieces_itself [] = refl
pieces_itself (r ∷ b) = rw (le-ltb r.low r.low (omega arith), le-ltb r.high r.high (omega arith), pieces_itself b)

-- A packet that both boxes have is shared; a packet of d is not in a where they share none; a box that is never empty shares
-- packets with itself.
share_of : (p : Packet) (d a : Region) → inside p d ≡ true → inside p a ≡ true → share d a ≡ true
unfolding inside every_both
share_of [] [] [] h k = refl
share_of [] [] (s ∷ a) h k = k
share_of [] (r ∷ d) a h k = absurd (false≢true h)
share_of (x ∷ p) [] a h k = absurd (false≢true h)
share_of (x ∷ p) (r ∷ d) [] h k = k
share_of (x ∷ p) (r ∷ d) (s ∷ a) h k =
    let u = and_true (within x r) (inside p d) h in
    let v = and_true (within x s) (inside p a) k in
    let f = within_fact x r u.0 in
    let g = within_fact x s v.0 in
    and_both (meets r s) (share d a) (and_both _ _ (le-leb r.low s.high (omega arith)) (le-leb s.low r.high (omega arith))) (share_of p d a u.1 v.1)

pub none_of : (p : Packet) (d a : Region) → share d a ≡ false → inside p d ≡ true → inside p a ≡ false
none_of p d a e h = go (inside p a) refl
  where
    go : (t : Bool) → inside p a ≡ t → t ≡ false
    go true k = absurd (true≢false (sym (share_of p d a h k) ∙ e))
    go false k = refl

pub share_itself : (b : Region) → Whole b → share b b ≡ true
unfolding every_both Whole
share_itself [] w = refl
share_itself (r ∷ b) w = rw (le-leb r.low r.high w.0, share_itself b w.1)

-- What holds of the pieces where the boxes share a packet, and of d alone where they do not, holds of the cut.
pub cut_cases : (P : List Region → Type 0) (d a : Region) → (share d a ≡ true → P (pieces d a)) → (share d a ≡ false → P (d ∷ [])) → P (cut d a)
unfolding cut
cut_cases P d a f g = go (share d a) refl
  where
    go : (t : Bool) → share d a ≡ t → P (cond t (pieces d a) (d ∷ []))
    go true e = f e
    go false e = g e

pub cut_hits : (p : Packet) (d a : Region) → Whole a → hits p (cut d a) ≡ one (inside p d && not (inside p a))
unfolding hits
cut_hits p d a w = cut_cases (λ (l : List Region). hits p l ≡ one (inside p d && not (inside p a))) d a (λ e. pieces_hits p d a w e) (λ e. single (inside p d) (inside p a) (λ h. none_of p d a e h))
  where
    single : (u v : Bool) → (u ≡ true → v ≡ false) → one u + 0 ≡ one (u && not v)
    single true v h = rw (h refl)
    single false v h = refl

pub cut_inside : (d a : Region) → Whole d → Whole a → Each (Piece d) (cut d a)
unfolding Each
cut_inside d a u v = cut_cases (Each (Piece d)) d a (λ e. pieces_inside d a u v e) (λ e. ((u, within_self d), tt))

pub cut_few : (d a : Region) → length a ≡ length d → length (cut d a) ≤ 2 * length d
unfolding every_both
cut_few d a h = cut_cases (λ (l : List Region). length l ≤ 2 * length d) d a (λ e. pieces_few d a) (λ e. some d a h e)
  where
    some : (d a : Region) → length a ≡ length d → share d a ≡ false → 1 ≤ 2 * length d
    some [] [] h e = absurd (true≢false e)
    some [] (s ∷ a) h e = absurd (omega arith)
    some (r ∷ d) a h e = omega arith

pub cut_itself : (b : Region) → Whole b → cut b b ≡ []
unfolding cut
cut_itself b w = rw (share_itself b w) (pieces_itself b)
