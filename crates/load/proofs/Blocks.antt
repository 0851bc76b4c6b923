-- Blocks of packets added one after another. Assumes nothing.
use Rattle.std.proofs.Common.{◌≡◌, ℕ, ◌+◌, ◌/◌, ◌%◌, Some, None, ◌<◌, ◌≤◌, Bool, true, false, eqb, leb, List, [], ◌∷◌, ◌++◌, length, sym, refl, ap, ◌∙◌, subst, arith, eq-eqb, ne_eqb, le-leb, leb-false}
use borrow.Author.Tests.{lt-leb}
use Rattle.std.specs.Slice.Iter.{chunks_exact_rest, chunks_exact_size, chunks_exact_steps}
use Rattle.std.specs.declared.slice.ChunksExact.{ChunksExact}
use denote.Ref.{Bor}
use Rattle.policy.specs.Ranges.{Packet}
use Rattle.policy.specs.Move.{Pair}
use Rattle.policy.specs.Refusals.{accepted, refused, test, and_then}
use Rattle.wire.specs.Records.{each_in}
use Rattle.wire.proofs.Items.{items_count}
use Rattle.load.specs.Load.{Load, sum_of, forwarded_by, load_of, plus}
use Rattle.load.specs.Packets.{packet_size, packet_in, whole_packets, packets_from, packets_in, packets_most, added_to}
use Rattle.load.specs.Steps.{Bounded}
use Rattle.load.proofs.Sums.{plus_none, plus_assoc, loads_append, load_first}
use Rattle.load.proofs.Packets.{whole_both, rest_both, packets-append}

bounded_plus : (t u : Load) → Bounded t → Bounded u → t.packets + u.packets ≤ packets_most → Bounded (plus t u)
unfolding plus
bounded_plus t u x y h = record {
  packets = h;
  before = omega (arith, x.before, y.before);
  after = omega (arith, x.after, y.after);
  forwarded = omega (arith, x.forwarded, y.forwarded);
}

one_packet : (s : List ℕ) → length s ≡ packet_size → packets_in s ≡ packet_in s ∷ []
unfolding each_in
one_packet s l = let n : length s / packet_size ≡ 1 = rw l refl in ap (λ (k : ℕ). packets_from k s) n

-- A loop over the packets of a block: those that are left, and the load so far.
module _ (q : Pair) (start : Load) (block : List ℕ) where
  pub record Left (t : Load) (packets : ChunksExact ℕ) : Type 0 where
    pub size : chunks_exact_size packets ≡ packet_size
    pub same : plus t (load_of q (packets_in (chunks_exact_rest packets))) ≡ plus start (load_of q (packets_in block))
    pub bounded : Bounded t
    pub few : t.packets + whole_packets (chunks_exact_rest packets) ≤ packets_most

  module _ {t : Load} {packets : ChunksExact ℕ} (is : Left t packets) (next : ChunksExact ℕ) where
    pub left_next : (bytes : Bor (List ℕ)) → chunks_exact_steps packets (Some bytes) next → {p : Packet} {one sum : Load} → p ≡ packet_in bytes.now
        → one ≡ load_of q (p ∷ []) → Bounded one → sum ≡ plus t one → Left sum next
    unfolding plus load_of
    left_next bytes h {p = p} {one = one} {sum = sum} is-packet one-is b k =
        let x : List ℕ = bytes.now in
        let rest : List ℕ = chunks_exact_rest next in
        let l : length x ≡ packet_size = h.1.1 ∙ is.size in
        let m : length x % packet_size ≡ 0 = rw l refl in
        let n : length x / packet_size ≡ 1 = rw l refl in
        let split : packets_in (chunks_exact_rest packets) ≡ packet_in x ∷ packets_in rest =
        ap packets_in h.1.0 ∙ (packets-append x rest m ∙ ap (λ (ps : List Packet). ps ++ packets_in rest) (one_packet x l)) in
        let w : whole_packets (chunks_exact_rest packets) ≡ length x / packet_size + whole_packets rest = ap whole_packets h.1.0 ∙ whole_both x rest m in
        let e : one ≡ load_of q (packet_in x ∷ []) = one-is ∙ ap (λ (y : Packet). load_of q (y ∷ [])) is-packet in
        let c : one.packets ≡ 1 = ap (λ (u : Load). u.packets) e in
        subst (λ (u : Load). Left u next) (sym k)
        (record {
          size = h.0 ∙ is.size;
          same = ap (λ (u : Load). plus (plus t u) (load_of q (packets_in rest))) e ∙ (load_first q t (packet_in x) (packets_in rest) ∙ (ap (λ (ps : List Packet). plus t (load_of q ps)) (sym split) ∙ is.same));
          bounded = bounded_plus t one is.bounded b (omega (arith, c, w, n, is.few));
          few = omega (arith, c, w, n, is.few);
        })

    pub left_none : chunks_exact_steps packets None next → (t ≡ plus start (load_of q (packets_in block))) × Bounded t
    unfolding each_in load_of sum_of forwarded_by
    left_none h =
        let z : whole_packets (chunks_exact_rest packets) ≡ 0 = omega (arith, h.1.0, is.size) in
        (sym (plus_none t) ∙ (rw z at is.same), is.bounded)

module _ (q : Pair) (t : Load) (block rest : List ℕ) (whole : length block % packet_size ≡ 0) where
  abbrev sum : Load
  sum = plus t (load_of q (packets_in block))

  sum_packets : sum.packets ≡ t.packets + whole_packets block
  unfolding plus load_of
  sum_packets = ap (λ (n : ℕ). t.packets + n) (items_count packet_size packet_in (whole_packets block) block)

  all_counted : t.packets + whole_packets (block ++ rest) ≡ sum.packets + whole_packets rest
  all_counted = let w = whole_both block rest whole in omega (arith, sum_packets, w)

  pub blocks_added : and_then (added_to q t block) (λ (u : Load). added_to q u rest) ≡ added_to q t (block ++ rest)
  unfolding added_to
  blocks_added = go (leb (t.packets + whole_packets block) packets_most) refl
    where
      go : (few : Bool) → leb (t.packets + whole_packets block) packets_most ≡ few
          → and_then (test few 2 (test (eqb (length block % packet_size) 0) 3 (accepted sum))) (λ (u : Load). added_to q u rest) ≡ added_to q t (block ++ rest)
      go true h =
          rw (eq-eqb (length block % packet_size) 0 whole, all_counted, rest_both block rest whole, packets-append block rest whole, loads_append, ← plus_assoc t (load_of q (packets_in block)) (load_of q (packets_in rest))) refl
      go false h =
          let l = leb-false (t.packets + whole_packets block) packets_most h in
          rw (lt-leb (t.packets + whole_packets (block ++ rest)) packets_most (let w = whole_both block rest whole in omega (arith, w, l))) refl

-- A block added, by its two tests.
module _ (q : Pair) (t : Load) (block : List ℕ) where
  pub added_many : packets_most < t.packets + whole_packets block → refused 2 ≡ added_to q t block
  unfolding added_to
  added_many h = rw (lt-leb (t.packets + whole_packets block) packets_most h) refl

  module _ (few : t.packets + whole_packets block ≤ packets_most) where
    pub added_broken : (length block % packet_size ≡ 0 → ⊥) → refused 3 ≡ added_to q t block
    unfolding added_to
    added_broken h = rw (le-leb (t.packets + whole_packets block) packets_most few, ne_eqb (length block % packet_size) 0 h) refl

    pub added_sum : length block % packet_size ≡ 0 → accepted (plus t (load_of q (packets_in block))) ≡ added_to q t block
    unfolding added_to
    added_sum h = rw (le-leb (t.packets + whole_packets block) packets_most few, eq-eqb (length block % packet_size) 0 h) refl
