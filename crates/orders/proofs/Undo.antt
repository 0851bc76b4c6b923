-- Split and join undo each other. Assumes nothing.
use Rattle.std.specs.Prelude.{Ok}
use mathlib.Core.Path.{◌≡◌, refl, ap, ◌∙◌}
use mathlib.Core.List.{List, ◌++◌}
use Prim.Native.Nat.{ℕ, ◌-◌, ◌≤◌}
use native.Mathlib.Omega.{arith}
use lib.Dec.{leb}
use lib.ListN.{length, take, length-append}
use borrow.Author.Tests.{le-leb}
use Rattle.lists.specs.Lists.{Each}
use Rattle.policy.specs.Fields.{limits}
use Rattle.policy.specs.Refusals.{Answer, Outcome, accepted, refused, said}
use Rattle.policy.specs.Move.{Order}
use Rattle.policy.proofs.Answers.{said_once, test_accepted}
use Rattle.wire.specs.Numbers.{Byte}
use Rattle.wire.specs.Buffers.{room_for, filled, written, length_of}
use Rattle.wire.proofs.Buffers.{filled_content}
use Rattle.sheet.specs.Orders.{order, order_in, order_bytes, list_in, gate_size, own_size, order_size}
use Rattle.orders.specs.Split.{Split, split_of, first_bytes, second_bytes}
use Rattle.orders.specs.Join.{Join, join_of}
use Rattle.sheet.proofs.Outcomes.{through}
use Rattle.sheet.proofs.Orders.{order_again, order_readable, order_written_back, list_again, list_readable, list_written_back}
use Rattle.wire.specs.Lists.{list_bytes}

-- What an accepted split gave.
record SplitAccepted (s a b : List ℕ) (n : ℕ) (a' b' : List ℕ) : Type 0 where
  pub lists : Order
  pub reads : order_in limits s ≡ accepted lists
  pub answer : n ≡ length (list_bytes lists.gate)
  pub gate : a' ≡ filled gate_size a (list_bytes lists.gate)
  pub own : b' ≡ filled own_size b (list_bytes lists.own)

split_accepted : {s a b : List ℕ} {n : ℕ} {a' b' : List ℕ} → Split s a b (Ok n) a' b' → SplitAccepted s a b n a' b'
unfolding split_of length_of written room_for
split_accepted {s} {a} {b} {n} {a'} {b'} x = go (split_of limits s a b) refl x.answer x.gate x.own
  where
    go : (y : Outcome Order) → split_of limits s a b ≡ y → said (Ok n) ≡ length_of first_bytes y → a' ≡ written first_bytes gate_size a y → b' ≡ written second_bytes own_size b y
        → SplitAccepted s a b n a' b'
    go (accepted o) e u v w =
        let c = test_accepted (leb gate_size (length a)) 1 _ e in
        let d = test_accepted (leb own_size (length b)) 1 _ c.1 in
        record { lists = o; reads = d.1; answer = cc u; gate = v; own = w }
    go (refused m) e u v w = let z : ◌≡◌ {A = ℕ} 0 1 = cc u in absurd (omega arith)

-- The same with what stands at the front of both buffers: the lists that the sheet says, and that say the sheet.
pub record SplitWrote (s : List ℕ) (n : ℕ) (a' b' : List ℕ) : Type 0 where
  pub lists : Order
  pub reads : order_in limits s ≡ accepted lists
  pub sheet : order_bytes lists ≡ s
  pub gate : take n a' ≡ list_bytes lists.gate
  pub own : take (length s - n) b' ≡ list_bytes lists.own

pub split_wrote : {s a b : List ℕ} {n : ℕ} {a' b' : List ℕ} → Each Byte s → Split s a b (Ok n) a' b' → SplitWrote s n a' b'
unfolding order_bytes
split_wrote {s} {a} {b} {n} {a'} {b'} h x =
    let p = split_accepted x in
    let gate : List ℕ = list_bytes p.lists.gate in
    let own : List ℕ = list_bytes p.lists.own in
    let k : gate ++ own ≡ s = order_written_back limits s p.lists p.reads h in
    let l : length s - n ≡ length own = omega (arith, length-append gate own, ap length k, p.answer) in
    record {
      lists = p.lists;
      reads = p.reads;
      sheet = k;
      gate = ap (take n) p.gate ∙ filled_content gate_size a gate n p.answer;
      own = ap (take (length s - n)) p.own ∙ filled_content own_size b own (length s - n) l;
    }

-- What an accepted join gave.
record JoinAccepted (a b out : List ℕ) (n : ℕ) (out' : List ℕ) : Type 0 where
  pub lists : Order
  pub gate : list_in limits.gate a ≡ accepted lists.gate
  pub own : list_in limits.own b ≡ accepted lists.own
  pub answer : n ≡ length (order_bytes lists)
  pub sheet : out' ≡ filled order_size out (order_bytes lists)

join_accepted : {a b out : List ℕ} {n : ℕ} {out' : List ℕ} → Join a b out (Ok n) out' → JoinAccepted a b out n out'
unfolding join_of length_of written room_for
join_accepted {a} {b} {out} {n} {out'} x = go (join_of limits a b out) refl x.answer x.sheet
  where
    go : (y : Outcome Order) → join_of limits a b out ≡ y → said (Ok n) ≡ length_of order_bytes y → out' ≡ written order_bytes order_size out y → JoinAccepted a b out n out'
    go (accepted o) e u v =
        let c = test_accepted (leb order_size (length out)) 1 _ e in
        let d = through (list_in limits.gate a) _ o c.1 in
        let f = through (list_in limits.own b) _ o d.then in
        let p : order d.value f.value ≡ o = cc f.then in
        record {
          lists = o;
          gate = d.first ∙ (λ i. accepted (p i).gate);
          own = f.first ∙ (λ i. accepted (p i).own);
          answer = cc u;
          sheet = v;
        }
    go (refused m) e u v = let z : ◌≡◌ {A = ℕ} 0 1 = cc u in absurd (omega arith)

-- The lists that a split gives join to the sheet that was split.
pub split_then_join :
    {s a b a' b' out out' : List ℕ} {n : ℕ} {r : Answer} → Each Byte s → Split s a b (Ok n) a' b' → order_size ≤ length out
    → Join (take n a') (take (length s - n) b') out r out' → (r ≡ Ok (length s)) × (out' ≡ filled order_size out s)
unfolding order_bytes join_of length_of written room_for
split_then_join {s} {a} {b} {a'} {b'} {out} {out'} {n} {r} h x g y =
    let p = split_wrote h x in
    let o = p.lists in
    let f = order_readable limits s o p.reads in
    let k = p.sheet in
    let z = rw (p.gate, p.own) at y in
    let j : join_of limits (list_bytes o.gate) (list_bytes o.own) out ≡ accepted o =
    rw (
      le-leb order_size (length out) g,
      list_again limits.gate o.gate (omega arith) f.0,
      list_again limits.own o.own (omega arith) f.1,
    )
    refl in (
      said_once r (Ok (length s)) (z.answer ∙ (ap (length_of order_bytes) j ∙ ap (λ (t : List ℕ). accepted (length t)) k)),
      z.sheet ∙ (ap (written order_bytes order_size out) j ∙ ap (filled order_size out) k),
    )

-- A joined sheet splits to the lists that were joined.
pub join_then_split :
    {a b out out' x y x' y' : List ℕ} {n : ℕ} {r : Answer} → Each Byte a → Each Byte b → Join a b out (Ok n) out'
    → gate_size ≤ length x → own_size ≤ length y → Split (take n out') x y r x' y'
    → (r ≡ Ok (length a)) × (x' ≡ filled gate_size x a) × (y' ≡ filled own_size y b)
unfolding split_of length_of written room_for
join_then_split {a} {b} {out} {out'} {x} {y} {x'} {y'} {n} {r} h k j g w z =
    let p = join_accepted j in
    let o = p.lists in
    let e : list_bytes o.gate ≡ a = list_written_back limits.gate a o.gate p.gate h in
    let f : list_bytes o.own ≡ b = list_written_back limits.own b o.own p.own k in
    let u : take n out' ≡ order_bytes o = ap (take n) p.sheet ∙ filled_content order_size out (order_bytes o) n p.answer in
    let v = rw u at z in
    let c : split_of limits (order_bytes o) x y ≡ accepted o =
    rw (
      le-leb gate_size (length x) g,
      le-leb own_size (length y) w,
      order_again limits o (omega arith) (omega arith) (list_readable limits.gate a o.gate p.gate) (list_readable limits.own b o.own p.own),
    )
    refl in (
      said_once r (Ok (length a)) (v.answer ∙ (ap (length_of first_bytes) c ∙ ap (λ (t : List ℕ). accepted (length t)) e)),
      v.gate ∙ (ap (written first_bytes gate_size x) c ∙ ap (filled gate_size x) e),
      v.own ∙ (ap (written second_bytes own_size y) c ∙ ap (filled own_size y) f),
    )
