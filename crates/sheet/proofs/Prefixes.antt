-- A reader that takes bytes from the front, and what it makes of fewer and of more of them: no string of bytes that it accepts
-- whole begins another. Assumes nothing.
use mathlib.Core.Path.{◌≡◌, refl, ap, sym, subst, ◌∙◌}
use mathlib.Core.List.{List, [], ◌++◌, append_assoc, append-nil}
use mathlib.Core.Bool.{Bool, true, false}
use Prim.Native.Nat.{ℕ, ◌+◌, ◌*◌, ◌-◌, ◌<◌, ◌≤◌}
use native.Mathlib.Omega.{arith}
use lib.Dec.{leb}
use lib.ListN.{length, take, drop, length-append, length-take, length-drop, take-append-drop}
use lib.Seq.{take_at, drop_at, take-append-le, take-append-add, length-take-le, take-add, take-take, drop-drop}
use borrow.Author.Tests.{le-leb, leb-true, leb-false, lt-leb, ne_eqb}
use Rattle.lists.proofs.Tests.{bool_eq}
use Rattle.policy.specs.Fields.{count_size}
use Rattle.policy.specs.Refusals.{Outcome, accepted, refused, test, and_then}
use Rattle.policy.proofs.Answers.{test_accepted}
use Rattle.wire.specs.Numbers.{number_in}
use Rattle.wire.specs.Lists.{count_in}
use Rattle.sheet.specs.Sections.{Reading, reading}
use Rattle.sheet.specs.Orders.{ended}
use Rattle.sheet.proofs.Outcomes.{through}
use Rattle.sheet.proofs.Orders.{ended_accepted}

abbrev pub Reader : Type 0 → Type 0
Reader A = List ℕ → Outcome (Reading A)

-- What it took of the bytes. With other bytes behind that it reads the same, and with less than that it is refused with 3.
pub record Took {A : Type 0} (f : Reader A) (s : List ℕ) (r : Reading A) : Type 0 where
  pub front : List ℕ
  pub whole : front ++ r.rest ≡ s
  pub more : (t : List ℕ) → f (front ++ t) ≡ accepted (reading r.value t)
  pub fewer : (n : ℕ) → n < length front → f (take n front) ≡ refused 3

abbrev pub Steady : {A : Type 0} → Reader A → Type 0
Steady {A} f = (s : List ℕ) (r : Reading A) → f s ≡ accepted r → Took f s r

-- So many bytes.
abbrev pub grab : ℕ → Reader (List ℕ)
grab n s = test (leb n (length s)) 3 (accepted (reading (take n s) (drop n s)))

-- No bytes: what was found of those before.
abbrev pub say : {A : Type 0} → Outcome A → Reader A
say x s = and_then x (λ v. accepted (reading v s))

-- One reader behind another.
abbrev pub next : {A B : Type 0} → Reader A → (A → Reader B) → Reader B
next f g s = and_then (f s) (λ r. g r.value r.rest)

pub grab_steady : (n : ℕ) → Steady (grab n)
grab_steady n s r e =
    let a = test_accepted (leb n (length s)) 3 _ e in
    let h = leb-true n (length s) a.0 in
    let p : reading (take n s) (drop n s) ≡ r = cc a.1 in
    let l : length (take n s) ≡ n = length-take-le n s h in
    subst (λ (x : Reading (List ℕ)). Took (grab n) s x) p (record {
      front = take n s;
      whole = take-append-drop n s;
      more = λ t. rw (le-leb n (length (take n s ++ t)) (rw (length-append, l) (omega arith)), take_at (take n s) t n l, drop_at (take n s) t n l) refl;
      fewer = λ m k. rw (lt-leb n (length (take m (take n s))) (rw length-take (omega arith))) refl;
    })

pub say_steady : {A : Type 0} (x : Outcome A) → Steady (say x)
say_steady (accepted v) s r e =
    let p : reading v s ≡ r = cc in
    subst (λ y. Took (say (accepted v)) s y) p (record { front = []; whole = refl; more = λ t. refl; fewer = λ n h. absurd (omega arith) })
say_steady (refused n) s r e = let z : ◌≡◌ {A = ℕ} 0 1 = cc in absurd (omega arith)

next_fewer :
    {A B : Type 0} (f : Reader A) (g : A → Reader B) (c d : List ℕ) (v : A) → ((t : List ℕ) → f (c ++ t) ≡ accepted (reading v t))
    → ((n : ℕ) → n < length c → f (take n c) ≡ refused 3) → ((n : ℕ) → n < length d → g v (take n d) ≡ refused 3)
    → (n : ℕ) → n < length (c ++ d) → next f g (take n (c ++ d)) ≡ refused 3
next_fewer f g c d v more few few' n h = go (leb (length c) n) refl
  where
    go : (t : Bool) → leb (length c) n ≡ t → next f g (take n (c ++ d)) ≡ refused 3
    go true e =
        let l : length c ≤ n = leb-true (length c) n e in
        let k : length c + (n - length c) ≡ n = omega arith in
        let m : n - length c < length d = omega (arith, length-append c d) in
        let x : take n (c ++ d) ≡ c ++ take (n - length c) d = ap (λ (j : ℕ). take j (c ++ d)) (sym k) ∙ take-append-add c d (n - length c) in
        rw (x, more (take (n - length c) d)) (few' (n - length c) m)
    go false e =
        let l : n < length c = leb-false (length c) n e in
        rw (take-append-le n c d (omega arith), few n l) refl

pub next_steady : {A B : Type 0} (f : Reader A) (g : A → Reader B) → Steady f → ((a : A) → Steady (g a)) → Steady (next f g)
next_steady f g u v s r e =
    let a = through (f s) _ r e in
    let x = u s a.value a.first in
    let y = v a.value.value a.value.rest r a.then in
    record {
      front = x.front ++ y.front;
      whole = append_assoc x.front y.front r.rest ∙ (rw y.whole x.whole);
      more = λ t. rw (append_assoc x.front y.front t, x.more (y.front ++ t)) (y.more t);
      fewer = next_fewer f g x.front y.front a.value.value x.more x.fewer y.fewer;
    }

-- A reader that is the same on all bytes.
pub same_steady : {A : Type 0} (f g : Reader A) → ((s : List ℕ) → f s ≡ g s) → Steady g → Steady f
same_steady f g h u s r e =
    let x = u s r (sym (h s) ∙ e) in
    record { front = x.front; whole = x.whole; more = λ t. h _ ∙ x.more t; fewer = λ n k. h _ ∙ x.fewer n k }

-- Nothing may be left over.
abbrev pub whole : {A : Type 0} → Reader A → List ℕ → Outcome A
whole f s = and_then (f s) (λ r. ended r r.value)

pub whole_next : {A B : Type 0} (f : Reader A) (g : A → Reader B) (s : List ℕ) → whole (next f g) s ≡ and_then (f s) (λ r. whole (g r.value) r.rest)
whole_next {A} f g s = go (f s)
  where
    go : (x : Outcome (Reading A)) → and_then (and_then x (λ r. g r.value r.rest)) (λ r. ended r r.value) ≡ and_then x (λ r. whole (g r.value) r.rest)
    go (accepted r) = refl
    go (refused n) = refl

pub then_same : {A B : Type 0} (x : Outcome A) (f g : A → Outcome B) → ((a : A) → f a ≡ g a) → and_then x f ≡ and_then x g
then_same (accepted a) f g h = h a
then_same (refused n) f g h = refl

module _ {A : Type 0} (f : Reader A) (steady : Steady f) where
  -- Of bytes that begin with a string that is accepted whole, any other length is refused with 3.
  pub other_length :
      (s : List ℕ) (a : A) (b : List ℕ) (n : ℕ) → whole f s ≡ accepted a → take (length s) b ≡ s → n ≤ length b → (n ≡ length s → ⊥)
      → whole f (take n b) ≡ refused 3
  other_length s a b n e p h d =
      let x = through (f s) _ a e in
      let k = steady s x.value x.first in
      let c : k.front ≡ s = sym (append-nil k.front) ∙ (ap (λ (t : List ℕ). k.front ++ t) (sym (ended_accepted x.value _ a x.then).1) ∙ k.whole) in
      let v : A = x.value.value in
      let more : (t : List ℕ) → f (s ++ t) ≡ accepted (reading v t) = subst (λ (l : List ℕ). (t : List ℕ) → f (l ++ t) ≡ accepted (reading v t)) c k.more in
      let fewer : (m : ℕ) → m < length s → f (take m s) ≡ refused 3 = subst (λ (l : List ℕ). (m : ℕ) → m < length l → f (take m l) ≡ refused 3) c k.fewer in
      go (leb (length s) n) refl v more fewer
    where
      go : (t : Bool) → leb (length s) n ≡ t → (v : A) → ((t : List ℕ) → f (s ++ t) ≡ accepted (reading v t)) → ((m : ℕ) → m < length s → f (take m s) ≡ refused 3)
          → whole f (take n b) ≡ refused 3
      go true i v more fewer =
          let g : length s ≤ n = leb-true (length s) n i in
          let m : ℕ = n - length s in
          let j : length s + m ≡ n = omega arith in
          let q : m ≡ 0 → ⊥ = λ z. d (omega arith) in
          let t : List ℕ = take m (drop (length s) b) in
          let w : take n b ≡ s ++ t = ap (λ (y : ℕ). take y b) (sym j) ∙ (take-add (length s) m b ∙ ap (λ (l : List ℕ). l ++ t) p) in
          let o : length t ≡ m = length-take-le m (drop (length s) b) (rw length-drop (omega arith)) in
          rw (w, more t, o, ne_eqb m 0 q) refl
      go false i v more fewer =
          let g : n < length s = leb-false (length s) n i in
          let w : take n b ≡ take n s = sym (take-take n (length s) b (omega arith)) ∙ ap (take n) p in
          rw (w, fewer n g) refl

-- A count, so many items of one size behind it, and what is found of the count and then of the items.
abbrev pub block : {A : Type 0} → ℕ → (ℕ → Outcome ℕ) → (ℕ → List ℕ → Outcome A) → Reader A
block size pre post = next (grab count_size) (λ c. next (say (pre (number_in c))) (λ n. next (grab (size * n)) (λ b. say (post n b))))

pub block_steady : {A : Type 0} (size : ℕ) (pre : ℕ → Outcome ℕ) (post : ℕ → List ℕ → Outcome A) → Steady (block size pre post)
block_steady size pre post =
    next_steady (grab count_size) (λ c. next (say (pre (number_in c))) (λ n. next (grab (size * n)) (λ b. say (post n b)))) (grab_steady count_size)
    (λ c. next_steady (say (pre (number_in c))) (λ n. next (grab (size * n)) (λ b. say (post n b))) (say_steady (pre (number_in c)))
    (λ n. next_steady (grab (size * n)) (λ b. say (post n b)) (grab_steady (size * n)) (λ b. say_steady (post n b))))

leb_behind : (k m n : ℕ) → k ≤ n → leb m (n - k) ≡ leb (k + m) n
leb_behind k m n h = bool_eq (leb m (n - k)) (leb (k + m) n)
    (λ e. le-leb (k + m) n (omega (arith, leb-true m (n - k) e)))
    (λ e. le-leb m (n - k) (omega (arith, leb-true (k + m) n e)))

-- The same with all tests over the bytes from the front.
pub block_is :
    {A : Type 0} (size : ℕ) (pre : ℕ → Outcome ℕ) (post : ℕ → List ℕ → Outcome A) (s : List ℕ)
    → block size pre post s ≡ test (leb count_size (length s)) 3 (and_then (pre (count_in s)) (λ n. test (leb (count_size + size * n) (length s)) 3
    (and_then (post n (take (size * n) (drop count_size s))) (λ v. accepted (reading v (drop (count_size + size * n) s))))))
block_is {A} size pre post s = go (leb count_size (length s)) refl
  where
    then : (x : Outcome ℕ) → count_size ≤ length s
        → and_then (and_then x (λ v. accepted (reading v (drop count_size s)))) (λ (r : Reading ℕ). next (grab (size * r.value)) (λ b. say (post r.value b)) r.rest)
        ≡ and_then x (λ n. test (leb (count_size + size * n) (length s)) 3
        (and_then (post n (take (size * n) (drop count_size s))) (λ v. accepted (reading v (drop (count_size + size * n) s)))))
    then (refused n) h = refl
    then (accepted n) h =
        rw (length-drop count_size s, leb_behind count_size (size * n) (length s) h, drop-drop (size * n) count_size s) (fits (leb (count_size + size * n) (length s)))
      where
        fits : (t : Bool) → and_then (test t 3 (accepted (reading (take (size * n) (drop count_size s)) (drop (count_size + size * n) s)))) (λ (r : Reading (List ℕ)). say (post n r.value) r.rest)
            ≡ test t 3 (and_then (post n (take (size * n) (drop count_size s))) (λ v. accepted (reading v (drop (count_size + size * n) s))))
        fits true = refl
        fits false = refl

    go : (t : Bool) → leb count_size (length s) ≡ t
        → and_then (test t 3 (accepted (reading (take count_size s) (drop count_size s)))) (λ (r : Reading (List ℕ)). next (say (pre (number_in r.value))) (λ n. next (grab (size * n)) (λ b. say (post n b))) r.rest)
        ≡ test t 3 (and_then (pre (count_in s)) (λ n. test (leb (count_size + size * n) (length s)) 3
        (and_then (post n (take (size * n) (drop count_size s))) (λ v. accepted (reading v (drop (count_size + size * n) s))))))
    go true e = then (pre (count_in s)) (leb-true count_size (length s) e)
    go false e = refl
