-- Laws of a verdict: it is known from what it says, its place and action are small, and it is the number for C.
-- Assumes nothing.
use Rattle.std.proofs.Common.{◌≡◌, ℕ, suc, ◌+◌, ◌*◌, ◌<◌, ◌≤◌, Bool, true, false, cond, eqb, leb, List, [], ◌∷◌, length, take, drop, sym, refl, ap, ◌∙◌, subst, arith, leb-true}
use Rattle.std.specs.Prelude.{Ok, Err, IfOk}
use Rattle.policy.specs.Fields.{count_size, limits}
use Rattle.policy.specs.Ranges.{Packet, inside}
use Rattle.policy.specs.Rules.{Rule, sound}
use Rattle.policy.specs.Refusals.{refusal_base, Outcome, accepted, refused, test, number_of}
use Rattle.policy.specs.declared.Refusal.{Refusal}
use Rattle.policy.proofs.Answers.{number_once, test_accepted}
use Rattle.wire.specs.Numbers.{number_in}
use Rattle.wire.specs.Records.{rules_in}
use Rattle.wire.proofs.Records.{sound_action, rules_in-length}
use Rattle.filter.specs.Lookup.{Hit, hit, look_from, lookup, lookup_number, Verdict, verdict}
use Rattle.filter.specs.declared.Decision.{Decision}
use Rattle.filter.specs.Steps.{InTotal}
use Rattle.wire.specs.Lists.{list_size}

-- Two verdicts of one lookup are equal.
verdict_once : (v w : Verdict) → verdict v ≡ verdict w → v ≡ w
verdict_once (Ok d) (Ok c) e = let g : hit d.place d.action ≡ hit c.place c.action = cc in (λ i. Ok (record { place = (g i).place; action = (g i).action }))
verdict_once (Ok d) (Err f) e = let z : ◌≡◌ {A = ℕ} 0 1 = cc in absurd (omega arith)
verdict_once (Err f) (Ok c) e = let z : ◌≡◌ {A = ℕ} 0 1 = cc in absurd (omega arith)
verdict_once (Err f) (Err g) e = ap Err (number_once f g (cc))

pub lookup_once : (v w : Verdict) {o : Outcome Hit} → verdict v ≡ o → verdict w ≡ o → v ≡ w
lookup_once v w x y = verdict_once v w (x ∙ sym y)

-- The place of the rule that decides is one of the list, and its action is 0 or 1.
abbrev pub InList : ℕ → Hit → Type 0
InList n h = (h.place < n) × (h.action ≤ 1)

turn_small : (t : Bool) (i n a : ℕ) (rest : Outcome Hit) (h : Hit) → InList n (hit i a) → (rest ≡ accepted h → InList n h)
    → cond t (accepted (hit i a)) rest ≡ accepted h → InList n h
turn_small true i n a rest h g f e = let d : hit i a ≡ h = cc in subst (λ (x : Hit). InList n x) d g
turn_small false i n a rest h g f e = f e

pub look_small : (i : ℕ) (p : Packet) (l : List Rule) (h : Hit) → look_from i p l ≡ accepted h → InList (i + length l) h
unfolding look_from
look_small i p [] h e = let z : ◌≡◌ {A = ℕ} 0 1 = cc in absurd (omega arith)
look_small i p (r ∷ l) h e =
    let rest : Outcome Hit = look_from (suc i) p l in
    let t = test_accepted (sound r) 4 (cond (inside p r.region) (accepted (hit i r.action)) rest) e in
    let m : suc i + length l ≡ i + suc (length l) = omega arith in
    turn_small (inside p r.region) i (i + suc (length l)) r.action rest h (omega arith, sound_action r t.0) (λ g. subst (λ (n : ℕ). InList n h) m (look_small (suc i) p l h g)) t.1

lookup_small : (most : ℕ) (p : Packet) (s : List ℕ) (h : Hit) → lookup most p s ≡ accepted h → InList most h
unfolding lookup
lookup_small most p s h e =
    let n : ℕ = number_in (take count_size s) in
    let rules : List Rule = rules_in n (drop count_size s) in
    let long : Outcome Hit = test (eqb (length s) (list_size n)) 3 (look_from 0 p rules) in
    let a = test_accepted (leb count_size (length s)) 3 (test (leb 1 n) 2 (test (leb n most) 2 long)) e in
    let b = test_accepted (leb 1 n) 2 (test (leb n most) 2 long) a.1 in
    let c = test_accepted (leb n most) 2 long b.1 in
    let d = test_accepted (eqb (length s) (list_size n)) 3 (look_from 0 p rules) c.1 in
    let f = look_small 0 p rules h d.1 in
    let g = leb-true n most c.0 in
    let k = rules_in-length n (drop count_size s) in
    (omega arith, f.1)

-- What a lookup answers is small.
pub lookup_in_total : (p : Packet) (s : List ℕ) (v : Verdict) → verdict v ≡ lookup limits.total p s → IfOk v InTotal
lookup_in_total p s (Ok d) e = lookup_small limits.total p s (hit d.place d.action) (sym e)
lookup_in_total p s (Err f) e = tt

-- The number for C tells the whole outcome: no two outcomes of lookups have the same.
pub tells : (n : ℕ) → 2 * n ≤ refusal_base → (o q : Outcome Hit) → ((h : Hit) → o ≡ accepted h → InList n h) → ((h : Hit) → q ≡ accepted h → InList n h)
    → lookup_number o ≡ lookup_number q → o ≡ q
unfolding lookup_number
tells n b (accepted h) (accepted k) f g e =
    let x = f h refl in
    let y = g k refl in
    let d : h.place ≡ k.place = omega arith in
    let c : h.action ≡ k.action = omega arith in
    ap accepted (λ i. hit (d i) (c i))
tells n b (accepted h) (refused m) f g e = let x = f h refl in absurd (omega arith)
tells n b (refused m) (accepted k) f g e = let y = g k refl in absurd (omega arith)
tells n b (refused m) (refused l) f g e = ap refused (omega arith)

pub number_tells : (most : ℕ) → 2 * most ≤ refusal_base → (p q : Packet) (s t : List ℕ) → lookup_number (lookup most p s) ≡ lookup_number (lookup most q t)
    → lookup most p s ≡ lookup most q t
number_tells most b p q s t e = tells most b (lookup most p s) (lookup most q t) (lookup_small most p s) (lookup_small most q t) e
