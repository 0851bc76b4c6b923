-- Split: what each return of the code says, and that two outcomes are equal. Assumes nothing.
use Rattle.std.specs.Prelude.{Ok, Err}
use mathlib.Core.Path.{◌≡◌, refl, ap, sym, ◌∙◌}
use mathlib.Core.List.{List}
use Prim.Native.Nat.{ℕ, ◌-◌, ◌<◌, ◌≤◌}
use native.Mathlib.Omega.{arith}
use mir.Val.{Fits}
use mir.Syntax.{w8}
use lib.ListN.{length, take, drop, get_or, length-drop}
use lib.Seq.{length-take-le}
use borrow.Author.Tests.{le-leb, lt-leb}
use Rattle.policy.specs.Fields.{limits}
use Rattle.policy.specs.Refusals.{Answered, Answer, accepted, refused, number_of}
use Rattle.policy.specs.declared.Refusal.{Refusal}
use Rattle.policy.specs.declared.Refusal.TheVariants.{BufferShort}
use Rattle.policy.proofs.Answers.{said_once, given_refusal, given_laid}
use Rattle.wire.specs.Buffers.{room_for, filled, written, length_of}
use Rattle.sheet.specs.Orders.{order_in, gate_size, own_size}
use Rattle.wire.proofs.Buffers.{refusal_leaves}
use Rattle.orders.specs.Split.{Split, split_of, first_bytes, second_bytes}
use Rattle.sheet.specs.Steps.{OrderLaid, OrderRead}
use Rattle.sheet.specs.declared.OrderLayout.{OrderLayout}
use Rattle.sheet.proofs.Parts.{bytes_of, part_from}
use Rattle.sheet.proofs.Accepted.{order_accepted}

pub split_once :
    {s a b : List ℕ} {r q : Answer} {a' b' a'' b'' : List ℕ} → Split s a b r a' b' → Split s a b q a'' b''
    → (r ≡ q) × (a' ≡ a'') × (b' ≡ b'')
split_once {r = r} {q = q} x y = (said_once r q (x.answer ∙ sym y.answer), x.gate ∙ sym y.gate, x.own ∙ sym y.own)

-- The two parts of an accepted sheet fit the lists.
module _ {s : List ℕ} {r : Answered OrderLayout} (x : OrderRead s r) (l : OrderLayout) (e : r ≡ Ok l) where
  abbrev middle : ℕ
  middle = l.middle

  laid : OrderLaid s l
  laid = given_laid x l e

  pub middle_within : middle ≤ length s
  middle_within = let p = laid in omega arith

  pub gate_long : middle ≡ length (take middle s)
  gate_long = sym (length-take-le middle s middle_within)

  pub gate_fits : length (take middle s) ≤ gate_size
  gate_fits = let p = laid in omega (arith, gate_long)

module _ (s a b : List ℕ) where
  refusing : (f : Refusal) → split_of limits s a b ≡ refused (number_of f) → Split s a b (Err f) a b
  unfolding length_of
  refusing f e = record { answer = rw e refl; gate = refusal_leaves first_bytes gate_size a e; own = refusal_leaves second_bytes own_size b e }

  pub gate_short : length a < gate_size → Split s a b (Err BufferShort) a b
  unfolding split_of room_for
  gate_short h = refusing BufferShort (rw (lt-leb gate_size (length a) h) refl)

  module _ (x : gate_size ≤ length a) where
    pub own_short : length b < own_size → Split s a b (Err BufferShort) a b
    unfolding split_of room_for
    own_short h = refusing BufferShort (rw (le-leb gate_size (length a) x, lt-leb own_size (length b) h) refl)

    module _ (y : own_size ≤ length b) {r : Answered OrderLayout} (z : OrderRead s r) where
      roomy : split_of limits s a b ≡ order_in limits s
      unfolding split_of room_for
      roomy = rw (le-leb gate_size (length a) x, le-leb own_size (length b) y) refl

      pub split_refusal : (f : Refusal) → r ≡ Err f → Split s a b (Err f) a b
      split_refusal f e = refusing f (roomy ∙ given_refusal z f e)

      pub split_done :
          ((i : ℕ) → Fits w8 (get_or s i 0)) → (l : OrderLayout) → r ≡ Ok l
          → {a' b' : List ℕ} → a' ≡ filled gate_size a (take l.middle s) → b' ≡ filled own_size b (take (length s - l.middle) (drop l.middle s))
          → Split s a b (Ok l.middle) a' b'
      unfolding length_of written
      split_done f l e u v =
          let o = order_accepted z (bytes_of s f) l e in
          record {
            answer = rw (roomy ∙ o.reads, o.gate_bytes) (ap accepted (gate_long z l e));
            gate = rw (roomy ∙ o.reads, o.gate_bytes) u;
            own = rw (roomy ∙ o.reads, o.own_bytes) (rw (part_from s l.middle) at v);
          }
