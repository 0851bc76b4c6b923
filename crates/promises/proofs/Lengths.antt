-- What a call answers as a length is within the size that the call asks for, since what is lent keeps its length.
-- Assumes nothing.
use Rattle.std.specs.Prelude.{Ok}
use mathlib.Core.Path.{◌≡◌, refl, ap, sym, ◌∙◌}
use mathlib.Core.List.{List}
use mathlib.Core.Bool.{Bool, ◌&&◌}
use Prim.Native.Nat.{ℕ, ◌≤◌}
use native.Mathlib.Omega.{arith}
use lib.ListN.{length, length-append, length-drop, length-replicate}
use borrow.Author.Tests.{leb-true}
use Rattle.lists.proofs.Tests.{and_true}
use Rattle.policy.specs.Refusals.{Answer, Outcome, accepted, refused, test, said}
use Rattle.policy.proofs.Answers.{test_accepted}
use Rattle.wire.specs.Buffers.{filled, written, length_of, room_for}
use Rattle.promises.specs.Calls.{Call}

-- Content that leaves a buffer's length as it was ends where the zeros behind it end, or before.
pub filled_within : (end : ℕ) (out content : List ℕ) → end ≤ length out → length (filled end out content) ≡ length out → length content ≤ end
unfolding filled
filled_within end out content h e =
    let k = simp (length-append, length-replicate, length-drop) at e in
    omega arith

module _ {A : Type 0} (bytes : A → List ℕ) (size : ℕ) (b : Bool) (x : Outcome A) (out : List ℕ) where
  within : (y : Outcome A) → test (room_for size out && b) 1 x ≡ y → length (written bytes size out y) ≡ length out → (n : ℕ) → accepted n ≡ length_of bytes y → n ≤ size
  unfolding room_for written length_of
  within (accepted a) e h n f =
      let l : n ≡ length (bytes a) = cc in
      let t = test_accepted (room_for size out && b) 1 x e in
      let r = leb-true size (length out) (and_true (room_for size out) b t.0).0 in
      let k = filled_within size out (bytes a) r h in
      omega arith
  within (refused m) e h n f = let z : ◌≡◌ {A = ℕ} 0 1 = cc in absurd (omega arith)

  pub call_length : {w out' w' : List ℕ} {r : Answer} → Call bytes size (room_for size out && b) x out w r out' w' → length out' ≡ length out → (n : ℕ) → r ≡ Ok n → n ≤ size
  call_length c e n i = within (test (room_for size out && b) 1 x) refl (sym (ap length c.result) ∙ e) n (sym (ap said i) ∙ c.answer)
