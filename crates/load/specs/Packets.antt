-- Packets and readings in bytes (02, W3). Assumes nothing.
use Rattle.std.specs.Prelude.{ℕ, zero, suc, ◌+◌, ◌/◌, ◌%◌, List, [], ◌∷◌, length, take, drop, ◌==◌, nat_le}
use Rattle.policy.specs.Fields.{widths}
use Rattle.policy.specs.Ranges.{Packet}
use Rattle.policy.specs.Refusals.{Outcome, accepted, test}
use Rattle.policy.specs.Move.{Pair}
use Rattle.wire.specs.Numbers.{number_in}
use Rattle.wire.specs.Records.{each_in}
use Rattle.load.specs.Load.{Load, load_of, plus, hits_between}

-- A packet has one number for each field, in the field's width.
unfoldable pub values_in : List ℕ → List ℕ → Packet
values_in [] s = []
values_in (w ∷ ws) s = number_in (take w s) ∷ values_in ws (drop w s)

abbrev pub packet_in : List ℕ → Packet
packet_in s = values_in widths s

abbrev pub sum_widths : List ℕ → ℕ
sum_widths [] = 0
sum_widths (w ∷ ws) = w + sum_widths ws

abbrev pub packet_size : ℕ
packet_size = sum_widths widths

-- How many whole packets the bytes have, and these packets one after another.
abbrev pub whole_packets : List ℕ → ℕ
whole_packets s = length s / packet_size

abbrev pub packets_from : ℕ → List ℕ → List Packet
packets_from n s = each_in packet_size packet_in n s

abbrev pub packets_in : List ℕ → List Packet
packets_in s = packets_from (whole_packets s) s

-- The most packets of one report.
abbrev pub packets_most : ℕ
packets_most = 1000000

-- A block of packets added to the load of those before it: 2 where the whole packets are then too many, else 3 where the last one is
-- broken.
unfoldable pub added_to : Pair → Load → List ℕ → Outcome Load
added_to q t s =
    test (nat_le (t.packets + whole_packets s) packets_most) 2
    (test (length s % packet_size == 0) 3 (accepted (plus t (load_of q (packets_in s)))))

-- A file of readings has four bytes for each place of the new cell list, in list order; the hits at each of n places between the
-- readings of two files.
abbrev pub reading_size : ℕ
reading_size = 4

unfoldable pub hits_in : ℕ → List ℕ → List ℕ → List ℕ
hits_in zero earlier later = []
hits_in (suc n) earlier later =
    hits_between (number_in (take reading_size earlier)) (number_in (take reading_size later)) ∷ hits_in n (drop reading_size earlier) (drop reading_size later)
