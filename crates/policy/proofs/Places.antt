-- A place of the cell list and its origin give each other back. Assumes nothing.
use mathlib.Core.Path.{◌≡◌, refl, ap, ◌∙◌}
use mathlib.Core.List.{List, [], ◌∷◌, ◌++◌}
use mathlib.Core.Bool.{Bool, true, false, cond}
use Prim.Native.Nat.{ℕ, zero, suc, ◌+◌, ◌-◌, ◌≤◌, ◌<◌}
use native.Mathlib.Omega.{arith}
use lib.Dec.{ltb}
use lib.ListN.{length, get_or, take, length-append, get_or-append}
use lib.Seq.{get_or-append-add}
use borrow.Author.Tests.{lt-ltb, le-ltb, ltb-true, ltb-false}
use Rattle.lists.specs.Lists.{Each}
use Rattle.lists.proofs.Lists.{each_append}
use Rattle.policy.specs.Ranges.{Region}
use Rattle.policy.specs.Rules.{Rule, rule, is_allow, denies}
use Rattle.policy.specs.Move.{Pair, together, denials, cell_list}
use Rattle.policy.specs.Origins.{Origin, gate_rule, own_rule, origin_from, origin_at, place_of, rule_from, HasOrigin, PlaceBackTheorem}

-- the boxes before the group of the rule at a place, and that group
abbrev front : List Rule → List (List Region) → ℕ → List Region
front l gs i = together (take (denies (take i l)) gs)

abbrev group_of : List Rule → List (List Region) → ℕ → List Region
group_of l gs i = get_or gs (denies (take i l)) []

-- what holds of every box of every group holds of all boxes
pub together_each : (P : Region → Type 0) (gs : List (List Region)) → Each (Each P) gs → Each P (together gs)
unfolding Each together
together_each P [] h = tt
together_each P (g ∷ gs) h = each_append P g (together gs) h.0 (together_each P gs h.1)

-- behind all boxes stand the own rules
walk_own : (j : ℕ) (l : List Rule) (gs : List (List Region)) (i : ℕ) → length gs ≡ denies l → origin_from j l gs (length (together gs) + i) ≡ own_rule i
unfolding origin_from denies together
walk_own j [] [] i c = ap own_rule (omega arith)
walk_own j [] (g ∷ gs) i c = absurd (omega arith)
walk_own j (r ∷ l) [] i c = ap own_rule (omega arith)
walk_own j (r ∷ l) (g ∷ gs) i c =
    go (is_allow r) (length (g ++ together gs) + i) c (omega (arith, length-append g (together gs))) (walk_own (suc j) l (g ∷ gs) i) (walk_own (suc j) l gs i)
  where
    go : (t : Bool) (n : ℕ) → suc (length gs) ≡ cond t (denies l) (suc (denies l)) → n ≡ length g + (length (together gs) + i)
        → (suc (length gs) ≡ denies l → origin_from (suc j) l (g ∷ gs) n ≡ own_rule i)
        → (length gs ≡ denies l → origin_from (suc j) l gs (length (together gs) + i) ≡ own_rule i)
        → cond t (origin_from (suc j) l (g ∷ gs) n) (cond (ltb n (length g)) (gate_rule j n) (origin_from (suc j) l gs (n - length g))) ≡ own_rule i
    go true n c e same next = same c
    go false n c e same next =
        let d : n - length g ≡ length (together gs) + i = omega arith in
        rw (le-ltb n (length g) (omega arith), d) (next (omega arith))

-- a box of a deny rule's group
walk_gate : (j : ℕ) (l : List Rule) (gs : List (List Region)) (i b : ℕ) (d : Rule) → i < length l → is_allow (get_or l i d) ≡ false → b < length (group_of l gs i)
    → origin_from j l gs (length (front l gs i) + b) ≡ gate_rule (j + i) b
unfolding origin_from denies together
walk_gate j [] gs i b d h deny k = absurd (omega arith)
walk_gate j (r ∷ l) [] zero b d h deny k = absurd (omega arith)
walk_gate j (r ∷ l) [] (suc i) b d h deny k = absurd (omega arith)
walk_gate j (r ∷ l) (g ∷ gs) zero b d h deny k =
    let z : 0 + b ≡ b = omega arith in
    rw (deny, z, lt-ltb b (length g) k) (ap (λ (x : ℕ). gate_rule x b) (omega arith))
walk_gate j (r ∷ l) (g ∷ gs) (suc i) b d h deny k =
    go (is_allow r) (denies (take i l)) k (walk_gate (suc j) l (g ∷ gs) i b d (omega arith) deny) (walk_gate (suc j) l gs i b d (omega arith) deny)
  where
    later : gate_rule (suc j + i) b ≡ gate_rule (j + suc i) b
    later = ap (λ (x : ℕ). gate_rule x b) (omega arith)

    go : (t : Bool) (m : ℕ) → b < length (get_or (g ∷ gs) (cond t m (suc m)) [])
        → (b < length (get_or (g ∷ gs) m []) → origin_from (suc j) l (g ∷ gs) (length (together (take m (g ∷ gs))) + b) ≡ gate_rule (suc j + i) b)
        → (b < length (get_or gs m []) → origin_from (suc j) l gs (length (together (take m gs)) + b) ≡ gate_rule (suc j + i) b)
        → (let n : ℕ = length (together (take (cond t m (suc m)) (g ∷ gs))) + b in
        cond t (origin_from (suc j) l (g ∷ gs) n) (cond (ltb n (length g)) (gate_rule j n) (origin_from (suc j) l gs (n - length g)))) ≡ gate_rule (j + suc i) b
    go true m k same next = same k ∙ later
    go false m k same next =
        let n : ℕ = length (g ++ together (take m gs)) + b in
        let e = length-append g (together (take m gs)) in
        let s : n - length g ≡ length (together (take m gs)) + b = omega arith in
        rw (le-ltb n (length g) (omega arith), s) (next k ∙ later)

-- What the walk finds for a place is there, and gives the place back.
unfoldable Walked : ℕ → List Rule → List (List Region) → ℕ → ℕ → Origin → Type 0
Walked j l gs own n (gate_rule k b) =
    (i : ℕ) × (k ≡ j + i) × (i < length l) × (is_allow (get_or l i (rule [] 0)) ≡ false) × (b < length (group_of l gs i)) × (length (front l gs i) + b ≡ n)
Walked j l gs own n (own_rule i) = (i < own) × (length (together gs) + i ≡ n)

module _ (j : ℕ) (r : Rule) (l : List Rule) (g : List Region) (gs : List (List Region)) (own n : ℕ) where
  past_allow : is_allow r ≡ true → (x : Origin) → Walked (suc j) l (g ∷ gs) own n x → Walked j (r ∷ l) (g ∷ gs) own n x
  unfolding Walked denies
  past_allow e (gate_rule k b) w =
      let c : denies (r ∷ take w.0 l) ≡ denies (take w.0 l) = rw e refl in
      (suc w.0, omega (arith, w.1), omega (arith, w.2), w.3, rw c w.4, rw c w.5)
  past_allow e (own_rule i) w = w

  past_deny : is_allow r ≡ false → length g ≤ n → (x : Origin) → Walked (suc j) l gs own (n - length g) x → Walked j (r ∷ l) (g ∷ gs) own n x
  unfolding Walked denies together
  past_deny e h (gate_rule k b) w =
      let c : denies (r ∷ take w.0 l) ≡ suc (denies (take w.0 l)) = rw e refl in
      let s = length-append g (front l gs w.0) in
      (suc w.0, omega (arith, w.1), omega (arith, w.2), w.3, rw c w.4, rw c (omega (arith, w.5)))
  past_deny e h (own_rule i) w =
      let s = length-append g (together gs) in
      (w.0, omega (arith, w.1))

walks : (j : ℕ) (l : List Rule) (gs : List (List Region)) (own n : ℕ) → length gs ≡ denies l → n < length (together gs) + own → Walked j l gs own n (origin_from j l gs n)
unfolding origin_from Walked denies together
walks j [] [] own n c h = (omega arith, omega arith)
walks j [] (g ∷ gs) own n c h = absurd (omega arith)
walks j (r ∷ l) [] own n c h = (omega arith, omega arith)
walks j (r ∷ l) (g ∷ gs) own n c h =
    go (is_allow r) refl c (walks (suc j) l (g ∷ gs) own n) (walks (suc j) l gs own (n - length g)) (ltb n (length g)) refl
  where
    go : (t : Bool) → is_allow r ≡ t → suc (length gs) ≡ cond t (denies l) (suc (denies l))
        → (suc (length gs) ≡ denies l → n < length (g ++ together gs) + own → Walked (suc j) l (g ∷ gs) own n (origin_from (suc j) l (g ∷ gs) n))
        → (length gs ≡ denies l → n - length g < length (together gs) + own → Walked (suc j) l gs own (n - length g) (origin_from (suc j) l gs (n - length g)))
        → (u : Bool) → ltb n (length g) ≡ u
        → Walked j (r ∷ l) (g ∷ gs) own n (cond t (origin_from (suc j) l (g ∷ gs) n) (cond u (gate_rule j n) (origin_from (suc j) l gs (n - length g))))
    go true e c same next u f = past_allow j r l g gs own n e (origin_from (suc j) l (g ∷ gs) n) (same c h)
    go false e c same next true f = (0, omega arith, omega arith, e, ltb-true n (length g) f, omega arith)
    go false e c same next false f =
        let k = ltb-false n (length g) f in
        let s = length-append g (together gs) in
        past_deny j r l g gs own n e k (origin_from (suc j) l gs (n - length g)) (next (omega arith) (omega arith))

-- The cell list at a place: a box of a group, or an own rule.
denials_at : (bs : List Region) (l : List Rule) (n : ℕ) (d : Rule) → n < length bs → get_or (denials bs ++ l) n d ≡ rule (get_or bs n []) 0
unfolding denials
denials_at [] l n d h = absurd (omega arith)
denials_at (b ∷ bs) l zero d h = refl
denials_at (b ∷ bs) l (suc n) d h = denials_at bs l n d (omega arith)

pub denials-length : (bs : List Region) → length (denials bs) ≡ length bs
unfolding denials
denials-length [] = refl
denials-length (b ∷ bs) = ap suc (denials-length bs)

denials_behind : (bs : List Region) (l : List Rule) (i : ℕ) (d : Rule) → get_or (denials bs ++ l) (length bs + i) d ≡ get_or l i d
denials_behind bs l i d = rw (← denials-length bs) (get_or-append-add (denials bs) l i d)

box_at : (gs : List (List Region)) (k b : ℕ) → b < length (get_or gs k []) → get_or (together gs) (length (together (take k gs)) + b) [] ≡ get_or (get_or gs k []) b []
unfolding together
box_at [] zero b h = absurd (omega arith)
box_at [] (suc k) b h = absurd (omega arith)
box_at (g ∷ gs) zero b h = let z : 0 + b ≡ b = omega arith in rw z (get_or-append g (together gs) [] b h)
box_at (g ∷ gs) (suc k) b h =
    let e = length-append g (together (take k gs)) in
    ap (λ (n : ℕ). get_or (g ++ together gs) n []) (omega arith) ∙ (get_or-append-add g (together gs) (length (together (take k gs)) + b) [] ∙ box_at gs k b h)

box_below : (gs : List (List Region)) (k b : ℕ) → b < length (get_or gs k []) → length (together (take k gs)) + b < length (together gs)
unfolding together
box_below [] zero b h = absurd (omega arith)
box_below [] (suc k) b h = absurd (omega arith)
box_below (g ∷ gs) zero b h = let e = length-append g (together gs) in omega arith
box_below (g ∷ gs) (suc k) b h =
    let e = length-append g (together (take k gs)) in
    let f = length-append g (together gs) in
    let i = box_below gs k b h in
    omega arith

pub cell-length : (s : Pair) → length (cell_list s) ≡ length (together s.groups) + length s.order.own
cell-length s = rw (length-append, denials-length (together s.groups)) refl

module _ (s : Pair) (counted : length s.groups ≡ denies s.order.gate) where
  read : (n : ℕ) (x : Origin) → Walked 0 s.order.gate s.groups (length s.order.own) n x → HasOrigin s x × (place_of s x ≡ n)
  unfolding Walked HasOrigin place_of
  read n (gate_rule k b) w = let e : k ≡ w.0 = omega (arith, w.1) in rw e ((w.2, w.3, w.4), w.5)
  read n (own_rule i) w = w

  there : (n : ℕ) → n < length (cell_list s) → HasOrigin s (origin_at s n) × (place_of s (origin_at s n) ≡ n)
  there n h = read n (origin_at s n) (walks 0 s.order.gate s.groups (length s.order.own) n counted (omega (arith, cell-length s)))

  back : (x : Origin) → HasOrigin s x → (place_of s x < length (cell_list s)) × (origin_at s (place_of s x) ≡ x)
  unfolding HasOrigin place_of
  back (gate_rule j b) h =
      let k = box_below s.groups (denies (take j s.order.gate)) b h.2 in
      let e : 0 + j ≡ j = omega arith in
      (omega (arith, cell-length s), walk_gate 0 s.order.gate s.groups j b (rule [] 0) h.0 h.1 h.2 ∙ ap (λ (i : ℕ). gate_rule i b) e)
  back (own_rule i) h = (omega (arith, cell-length s), walk_own 0 s.order.gate s.groups i counted)

  names : (x : Origin) → HasOrigin s x → get_or (cell_list s) (place_of s x) (rule [] 0) ≡ rule_from s x
  unfolding HasOrigin place_of rule_from
  names (gate_rule j b) h =
      let k : ℕ = denies (take j s.order.gate) in
      denials_at (together s.groups) s.order.own (length (together (take k s.groups)) + b) (rule [] 0) (box_below s.groups k b h.2)
      ∙ ap (λ (r : Region). rule r 0) (box_at s.groups k b h.2)
  names (own_rule i) h = denials_behind (together s.groups) s.order.own i (rule [] 0)

pub place_back : PlaceBackTheorem
place_back s counted = record { there = there s counted; back = back s counted; names = names s counted }
