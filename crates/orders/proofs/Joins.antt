-- Join: what each return of the code says, and that two outcomes are equal. Assumes nothing.
use Rattle.std.specs.Prelude.{Ok, Err}
use mathlib.Core.Path.{◌≡◌, refl, ap, sym, ◌∙◌}
use mathlib.Core.List.{List, [], ◌++◌, append_assoc, append-nil}
use Prim.Native.Nat.{ℕ, ◌+◌, ◌-◌, ◌<◌, ◌≤◌}
use native.Mathlib.Omega.{arith}
use mir.Val.{Fits}
use mir.Syntax.{w8}
use lib.ListN.{length, take, drop, get_or, replicate, length-append, length-drop, drop_of_length-le}
use lib.Seq.{take_at, drop_at, drop-drop}
use borrow.Author.Tests.{le-leb, lt-leb}
use Rattle.policy.specs.Fields.{limits}
use Rattle.policy.specs.Refusals.{Answered, Answer, accepted, refused, number_of}
use Rattle.policy.specs.declared.Refusal.{Refusal}
use Rattle.policy.specs.declared.Refusal.TheVariants.{BufferShort}
use Rattle.policy.proofs.Answers.{said_once, given_refusal, given_laid}
use Rattle.wire.specs.Buffers.{room_for, filled, written, length_of}
use Rattle.sheet.specs.Orders.{order_bytes, order_size}
use Rattle.wire.proofs.Buffers.{refusal_leaves}
use Rattle.orders.specs.Join.{Join, join_of}
use Rattle.sheet.specs.Steps.{ListRead}
use Rattle.sheet.specs.declared.Section.{Section}
use Rattle.sheet.proofs.Parts.{bytes_of, part_from}
use Rattle.sheet.proofs.Accepted.{list_accepted}

pub join_once : {a b out : List ℕ} {r q : Answer} {x y : List ℕ} → Join a b out r x → Join a b out q y → (r ≡ q) × (x ≡ y)
join_once {r = r} {q = q} u v = (said_once r q (u.answer ∙ sym v.answer), u.sheet ∙ sym v.sheet)

-- The first content copied, what the part behind it became, and the buffer with that part put back.
pub filled_both :
    (out first second copied part : List ℕ) (m n : ℕ) → m ≡ length first → length first + length second ≤ n → n ≤ length out
    → copied ≡ first ++ drop (length first) out → part ≡ filled (n - m) (take (length copied - m) (drop m copied)) second
    → take m copied ++ (part ++ drop (length copied - m) (drop m copied)) ≡ filled n out (first ++ second)
unfolding filled
filled_both out first second copied part m n e h g u v =
    let x : copied ≡ first ++ drop m out = u ∙ ap (λ (k : ℕ). first ++ drop k out) (sym e) in
    let t : take m copied ≡ first = ap (take m) x ∙ take_at first (drop m out) m (sym e) in
    let d : drop m copied ≡ drop m out = ap (drop m) x ∙ drop_at first (drop m out) m (sym e) in
    let z : drop (length copied - m) (drop m copied) ≡ [] = drop_of_length-le (drop m copied) {i = length copied - m} (rw length-drop (omega arith)) in
    let k : m + (n - m) ≡ n = omega arith in
    let f : drop (n - m) (drop m out) ≡ drop n out = drop-drop (n - m) m out ∙ ap (λ (j : ℕ). drop j out) k in
    let y : part ≡ second ++ (replicate (n - m - length second) 0 ++ drop n out) = v ∙ rw (part_from copied m, d, f) refl in
    let l : length (first ++ second) ≡ m + length second = length-append first second ∙ ap (λ (j : ℕ). j + length second) (sym e) in
    let r : n - m - length second ≡ n - length (first ++ second) = omega arith in
    rw (t, z, append-nil, y, append_assoc, r) refl

-- Both lists fit the sheet.
module _ {a b : List ℕ} {r q : Answered Section} (x : ListRead limits.gate a r) (y : ListRead limits.own b q)
    (l : Section) (e : r ≡ Ok l) (m : Section) (f : q ≡ Ok m) where
  pub both_fit : length a + length b ≤ order_size
  both_fit =
      let p = given_laid x l e in
      let o = given_laid y m f in
      omega (arith, p.whole, p.section.end, p.section.limit, o.whole, o.section.end, o.section.limit)

module _ (a b out : List ℕ) where
  refusing : (f : Refusal) → join_of limits a b out ≡ refused (number_of f) → Join a b out (Err f) out
  unfolding length_of
  refusing f e = record { answer = rw e refl; sheet = refusal_leaves order_bytes order_size out e }

  pub sheet_short : length out < order_size → Join a b out (Err BufferShort) out
  unfolding join_of room_for
  sheet_short h = refusing BufferShort (rw (lt-leb order_size (length out) h) refl)

  module _ (x : order_size ≤ length out) {r : Answered Section} (g : ListRead limits.gate a r) where
    pub join_gate_refusal : (f : Refusal) → r ≡ Err f → Join a b out (Err f) out
    unfolding join_of room_for
    join_gate_refusal f e = refusing f (rw (le-leb order_size (length out) x, given_refusal g f e) refl)

    module _ (ba : (i : ℕ) → Fits w8 (get_or a i 0)) (l : Section) (e : r ≡ Ok l) {q : Answered Section} (h : ListRead limits.own b q) where
      pub join_own_refusal : (f : Refusal) → q ≡ Err f → Join a b out (Err f) out
      unfolding join_of room_for
      join_own_refusal f i =
          refusing f (rw (le-leb order_size (length out) x, (list_accepted g (bytes_of a ba) l e).reads, given_refusal h f i) refl)

      pub join_done :
          ((i : ℕ) → Fits w8 (get_or b i 0)) → (m : Section) → q ≡ Ok m → {last : List ℕ} → last ≡ filled order_size out (a ++ b)
          → Join a b out (Ok (length a + length b)) last
      unfolding join_of length_of written order_bytes room_for
      join_done bb m i u =
          let z = list_accepted g (bytes_of a ba) l e in
          let w = list_accepted h (bytes_of b bb) m i in
          record {
            answer = rw (le-leb order_size (length out) x, z.reads, w.reads, z.bytes, w.bytes) (ap accepted (sym (length-append a b)));
            sheet = rw (le-leb order_size (length out) x, z.reads, w.reads, z.bytes, w.bytes) u;
          }
