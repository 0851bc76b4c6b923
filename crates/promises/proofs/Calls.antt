-- What the tests of the lent buffers and the clearing of the work buffer make of a call's inner part; and two outcomes of one
-- call are equal. Assumes nothing.
use Rattle.std.specs.Prelude.{Ok, Err}
use mathlib.Core.Path.{◌≡◌, refl, ap, sym, ◌∙◌}
use mathlib.Core.List.{List}
use mathlib.Core.Bool.{Bool, true, false, ◌&&◌}
use Prim.Native.Nat.{ℕ, ◌≤◌, ◌<◌}
use native.Mathlib.Omega.{arith}
use lib.ListN.{length, take, drop}
use borrow.Author.Tests.{le-leb, lt-leb}
use Rattle.lists.proofs.Tests.{and_both}
use Rattle.policy.specs.Fields.{work_size}
use Rattle.policy.specs.Refusals.{Answer, Outcome, accepted, refused, test, number_of}
use Rattle.policy.specs.declared.Refusal.{Refusal}
use Rattle.policy.specs.declared.Refusal.TheVariants.{BufferShort}
use Rattle.policy.proofs.Answers.{said_once}
use Rattle.wire.specs.Buffers.{zeroed, written, length_of, room_for, filled}
use Rattle.wire.proofs.Buffers.{filled_content, refusal_leaves}
use Rattle.promises.specs.Calls.{work_after, Call}
use Rattle.promises.specs.Steps.{Writes}

-- the two tests of what is lent
pub room_short : (n : ℕ) (out : List ℕ) (b : Bool) → length out < n → (room_for n out && b) ≡ false
unfolding room_for
room_short n out b h = rw (lt-leb n (length out) h)

pub room_there : (n : ℕ) (out : List ℕ) → n ≤ length out → room_for n out ≡ true
unfolding room_for
room_there n out h = le-leb n (length out) h

pub work_short : (n m : ℕ) (out w : List ℕ) → n ≤ length out → length w < m → (room_for n out && room_for m w) ≡ false
unfolding room_for
work_short n m out w h k = rw (le-leb n (length out) h, lt-leb m (length w) k)

pub both_there : (n m : ℕ) (out w : List ℕ) → n ≤ length out → m ≤ length w → (room_for n out && room_for m w) ≡ true
both_there n m out w h k = and_both _ _ (room_there n out h) (room_there m w k)

-- zeros at the front hide what was there
pub zeroed_same : (n : ℕ) (v w : List ℕ) → drop n v ≡ drop n w → zeroed 0 n v ≡ zeroed 0 n w
unfolding zeroed
zeroed_same n v w e = rw e

module _ {A : Type 0} (bytes : A → List ℕ) (size : ℕ) (lent : Bool) (x : Outcome A) (out w : List ℕ) where
  pub call_short : lent ≡ false → Call bytes size lent x out w (Err BufferShort) out w
  unfolding length_of written work_after
  call_short h = record { answer = rw h; result = rw h; work = rw h }

  pub call_done : lent ≡ true → {r : Answer} {out' v w' : List ℕ} → Writes bytes size x out w r out' v → w' ≡ zeroed 0 work_size v → Call bytes size lent x out w r out' w'
  unfolding work_after
  call_done h {v = v} y e = record {
    answer = rw h y.answer;
    result = rw h y.result;
    work = rw h (e ∙ zeroed_same work_size v w y.beyond);
  }

  pub call_once : {r q : Answer} {y z u v : List ℕ} → Call bytes size lent x out w r y u → Call bytes size lent x out w q z v → (r ≡ q) × (y ≡ z) × (u ≡ v)
  call_once {r = r} {q = q} a b = (said_once r q (a.answer ∙ sym b.answer), a.result ∙ sym b.result, a.work ∙ sym b.work)

-- What a call that was accepted was lent, and what it leaves.
pub record CallAccepted {A : Type 0} (bytes : A → List ℕ) (size : ℕ) (lent : Bool) (x : Outcome A) (out left : List ℕ) (n : ℕ) : Type 0 where
  pub room : lent ≡ true
  pub value : A
  pub is : x ≡ accepted value
  pub answer : n ≡ length (bytes value)
  pub leaves : left ≡ filled size out (bytes value)

accepts : {A : Type 0} (bytes : A → List ℕ) (size : ℕ) (lent : Bool) (x : Outcome A) (out left : List ℕ) (n : ℕ) → accepted n ≡ length_of bytes (test lent 1 x)
    → left ≡ written bytes size out (test lent 1 x) → CallAccepted bytes size lent x out left n
unfolding length_of written
accepts bytes size true (accepted p) out left n e f = record { room = refl; value = p; is = refl; answer = cc; leaves = f }
accepts bytes size true (refused k) out left n e f = let z : ◌≡◌ {A = ℕ} 0 1 = cc in absurd (omega arith)
accepts bytes size false x out left n e f = let z : ◌≡◌ {A = ℕ} 0 1 = cc in absurd (omega arith)

module _ {A : Type 0} (bytes : A → List ℕ) (size : ℕ) (lent : Bool) (x : Outcome A) {out w left w' : List ℕ} {n : ℕ} (c : Call bytes size lent x out w (Ok n) left w') where
  pub call_accepted : CallAccepted bytes size lent x out left n
  call_accepted = accepts bytes size lent x out left n c.answer c.result

  pub call_content : take n left ≡ bytes call_accepted.value
  call_content = ap (take n) call_accepted.leaves ∙ filled_content size out (bytes call_accepted.value) n call_accepted.answer

-- A refusal writes nothing.
pub refuses : {A : Type 0} (bytes : A → List ℕ) (size : ℕ) (x : Outcome A) (out w w' : List ℕ) (f : Refusal)
    → x ≡ refused (number_of f) → drop work_size w' ≡ drop work_size w → Writes bytes size x out w (Err f) out w'
unfolding length_of
refuses bytes size x out w w' f e b = record { answer = rw e; result = refusal_leaves bytes size out e; beyond = b }
