-- Laws on zeroing, filling and what a refusal leaves. Assumes nothing.
use mathlib.Core.Path.{◌≡◌, refl, ap, sym, ◌∙◌}
use mathlib.Core.List.{List, ◌++◌, append_assoc}
use Prim.Native.Nat.{ℕ, ◌+◌, ◌-◌, ◌≤◌}
use native.Mathlib.Omega.{arith}
use lib.ListN.{length, take, drop, replicate, length-append, length-replicate}
use lib.Seq.{sets, sets-eq, take_all, take_at, drop_at, drop-append-add, drop-drop}
use Rattle.policy.specs.Refusals.{Outcome, refused}
use Rattle.wire.specs.Buffers.{zeroed, filled, written}

-- Content copied to the front, and then zero behind it.
pub filled_is : (content out copied last : List ℕ) (m n : ℕ) → m ≡ length content → m ≤ n → n ≤ length out
    → copied ≡ take m content ++ drop m out → last ≡ zeroed m n copied → last ≡ filled n out content
unfolding filled zeroed
filled_is content out copied last m n e h g u v =
    let w : copied ≡ content ++ drop m out = u ∙ rw (take_all m content (omega arith)) refl in
    let x : take m copied ≡ content = ap (take m) w ∙ take_at content (drop m out) m (sym e) in
    let k : length content + (n - m) ≡ n = omega arith in
    let k' : m + (n - m) ≡ n = omega arith in
    let y : drop n copied ≡ drop n out = ap (drop n) w ∙ (ap (λ (j : ℕ). drop j (content ++ drop m out)) (sym k)
    ∙ (drop-append-add content (drop m out) (n - m) ∙ (drop-drop (n - m) m out ∙ ap (λ (j : ℕ). drop j out) k'))) in
    v ∙ (rw (x, y) (ap (λ (j : ℕ). content ++ (replicate (n - j) 0 ++ drop n out)) e))

-- What stands at the front is the content.
pub filled_content : (end : ℕ) (out content : List ℕ) (n : ℕ) → n ≡ length content → take n (filled end out content) ≡ content
unfolding filled
filled_content end out content n e = take_at content (replicate (end - length content) 0 ++ drop end out) n (sym e)

-- Filled once more, nothing of the first content is left.
pub filled_over : (end : ℕ) (out c d : List ℕ) → length c ≤ end → filled end (filled end out c) d ≡ filled end out d
unfolding filled
filled_over end out c d h =
    let e : length (c ++ replicate (end - length c) 0) ≡ end = rw (length-append, length-replicate) (omega arith) in
    let f : drop end (c ++ (replicate (end - length c) 0 ++ drop end out)) ≡ drop end out =
    rw (← append_assoc c (replicate (end - length c) 0) (drop end out)) (drop_at (c ++ replicate (end - length c) 0) (drop end out) end e) in
    rw f

-- Content of exactly the size, stored at the front.
pub filled_front : (size : ℕ) (out content : List ℕ) → length content ≡ size → size ≤ length out → sets out 0 content ≡ filled size out content
unfolding filled
filled_front size out content e h =
    let n : size - length content ≡ 0 = omega arith in
    let m : 0 + length content ≡ size = omega arith in
    sets-eq content out 0 (omega arith) ∙ rw (n, m) refl

-- A refusal leaves what was lent as it was.
pub refusal_leaves : {A : Type 0} (bytes : A → List ℕ) (end : ℕ) (out : List ℕ) {x : Outcome A} {n : ℕ} → x ≡ refused n → out ≡ written bytes end out x
unfolding written
refusal_leaves bytes end out e = rw e refl
