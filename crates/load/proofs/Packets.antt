-- Packets in bytes: one by one, in two blocks, and inside the limits. Assumes nothing.
use Rattle.std.proofs.Common.{◌≡◌, ℕ, zero, suc, ◌+◌, ◌*◌, ◌/◌, ◌%◌, ◌^◌, ◌<◌, ◌≤◌, true, leb, List, [], ◌∷◌, ◌++◌, map, length, get_or, take, drop, set, refl, ap, ◌∙◌, append_assoc, append-nil, add-one, arith, length-append, length-drop, drop_of_length-le, length-take-le, take_all, drop-cons, drop-drop, take-suc-set, eqb-true, le-leb}
use lib.Seq.{drop-append-le, take-append-le}
use Rattle.lists.specs.Lists.{Each, every}
use Rattle.lists.proofs.Tests.{and_true, and_both}
use Rattle.policy.specs.Fields.{Field, field_table, highest, widths}
use Rattle.policy.specs.Ranges.{range, within, inside, full_over}
use Rattle.wire.specs.Numbers.{number_in, Byte}
use Rattle.wire.specs.Records.{each_in}
use Rattle.wire.proofs.Numbers.{bytes_take, bytes_drop, number_bound}
use Rattle.wire.proofs.Records.{exact, highest_of, width_of}
use Rattle.load.specs.Theorems.{InLimits}
use Rattle.load.specs.Packets.{whole_packets, values_in, sum_widths, packet_size, packet_in, packets_from, packets_in}

-- A packet read number by number.
pub widths_step : (ws : List ℕ) (k : ℕ) → k < length ws → sum_widths (drop k ws) ≡ get_or ws k 0 + sum_widths (drop (k + 1) ws)
widths_step ws k h = rw (add-one, drop-cons ws k 0 h)

pub value_next : (ws : List ℕ) (k : ℕ) → k < length ws → (s values : List ℕ) (p x : ℕ) (whole : List ℕ) → k < length values
    → x ≡ number_in (take (get_or ws k 0) (drop p s)) → take k values ++ values_in (drop k ws) (drop p s) ≡ whole
    → take (k + 1) (set values k x) ++ values_in (drop (k + 1) ws) (drop (p + get_or ws k 0) s) ≡ whole
unfolding values_in
value_next ws k h s values p x whole g e inv =
    rw (add-one, take-suc-set values k x g, append_assoc, e) (rw (drop-cons ws k 0 h, drop-drop (get_or ws k 0) p s) at inv)

pub values_last : (ws s values : List ℕ) (p k : ℕ) (whole : List ℕ) → length ws ≤ k → length values ≤ k
    → take k values ++ values_in (drop k ws) (drop p s) ≡ whole → values ≡ whole
unfolding values_in
values_last ws s values p k whole e l inv = rw (take_all k values l, drop_of_length-le ws e, append-nil) at inv

-- What is read hangs on a packet's own bytes alone.
values_front : (ws s t : List ℕ) → sum_widths ws ≤ length s → values_in ws (s ++ t) ≡ values_in ws s
unfolding values_in
values_front [] s t h = refl
values_front (w ∷ ws) s t h =
    let r = values_front ws (drop w s) t (rw length-drop (omega arith)) in
    rw (take-append-le w s t (omega arith), drop-append-le w s t (omega arith), r) refl

packets_both : (m n : ℕ) (s t : List ℕ) → packet_size * m ≡ length s → packets_from (m + n) (s ++ t) ≡ packets_from m s ++ packets_from n t
unfolding each_in
packets_both zero n [] t h =
    let e : 0 + n ≡ n = omega arith in
    rw e refl
packets_both zero n (x ∷ s) t h = absurd (omega arith)
packets_both (suc m) n s t h =
    let e : suc m + n ≡ suc (m + n) = omega arith in
    let r = packets_both m n (drop packet_size s) t (rw length-drop (omega arith)) in
    rw (e, values_front widths s t (omega arith), drop-append-le packet_size s t (omega arith), r) refl

-- Whole packets, and others behind them.
module _ (s t : List ℕ) (whole : length s % packet_size ≡ 0) where
  pub whole_both : length (s ++ t) / packet_size ≡ length s / packet_size + length t / packet_size
  whole_both = rw length-append (omega (arith, whole))

  pub rest_both : length (s ++ t) % packet_size ≡ length t % packet_size
  rest_both = rw length-append (omega (arith, whole))

  pub packets-append : packets_in (s ++ t) ≡ packets_in s ++ packets_in t
  packets-append = ap (λ (n : ℕ). packets_from n (s ++ t)) whole_both ∙ packets_both (length s / packet_size) (length t / packet_size) s t (omega (arith, whole))

-- The highest value of a field is the highest number of its width.
values_inside : (f : List Field) (s : List ℕ) → every exact f ≡ true → Each Byte s → sum_widths (map width_of f) ≤ length s
    → inside (values_in (map width_of f) s) (full_over (map highest_of f)) ≡ true
unfolding every values_in inside full_over
values_inside [] s e b h = refl
values_inside (f ∷ fs) s e b h =
    let d = and_true (exact f) (every exact fs) e in
    let w = eqb-true (suc f.highest) (256 ^ f.width) d.0 in
    let n = number_bound f.width (take f.width s) (length-take-le f.width s (omega arith)) (bytes_take f.width s b) in
    let x : ℕ = number_in (take f.width s) in
    and_both (within x (range 0 f.highest)) _
    (and_both (leb 0 x) (leb x f.highest) (le-leb 0 x (omega arith)) (le-leb x f.highest (omega (arith, w, n))))
    (values_inside fs (drop f.width s) d.1 (bytes_drop f.width s b) (rw length-drop (omega arith)))

packet_inside : (s : List ℕ) → Each Byte s → packet_size ≤ length s → InLimits (packet_in s)
unfolding highest every
packet_inside s b h = values_inside field_table s refl b h

packets_from_lem : (n : ℕ) (s : List ℕ) → Each Byte s → packet_size * n ≤ length s → Each InLimits (packets_from n s)
unfolding each_in Each
packets_from_lem zero s b h = tt
packets_from_lem (suc n) s b h =
    (packet_inside s b (omega arith), packets_from_lem n (drop packet_size s) (bytes_drop packet_size s b) (rw length-drop (omega arith)))

pub packets_inside : (s : List ℕ) → Each Byte s → Each InLimits (packets_in s)
packets_inside s b = packets_from_lem (whole_packets s) s b (omega arith)
