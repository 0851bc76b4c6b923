-- What is claimed of a report, as a type that has one value in proofs/Theorems.antt. Assumes nothing.
use Rattle.std.specs.Prelude.{◌≡◌, List, ℕ, ◌<◌}
use Rattle.lists.specs.Lists.{Each}
use Rattle.policy.specs.Fields.{limits}
use Rattle.policy.specs.Refusals.{accepted}
use Rattle.policy.specs.Move.{Pair, gate_list, cell_list}
use Rattle.wire.specs.Numbers.{Byte}
use Rattle.promises.specs.Calls.{check_of}
use Rattle.load.specs.Load.{forwarded_by, load_of, gain_of}
use Rattle.load.specs.Packets.{packets_in, hits_in}
use Rattle.load.specs.Theorems.{PlaceCounted, LowestGain}
use Rattle.reporting.specs.Report.{Report, places, report_of}

-- 02, W3, of a report that is accepted. The load is that of the packets in the bytes, on the sheet's pair. For each of them what is
-- counted after is its place in the new cell list. The loaded lists forward the same ones of them as A and B. The gain is in lowest
-- terms, and 0 over 0 where there is no packet. The hits are those at each place of the new cell list.
pub record ReportHolds (s packets earlier later : List ℕ) (r : Report) : Type 0 where
  pub pair : Pair
  pub checks : check_of limits s ≡ accepted pair
  pub load : r.load ≡ load_of pair (packets_in packets)
  pub after : Each (PlaceCounted pair) (packets_in packets)
  pub forwarded : forwarded_by (gate_list pair) (cell_list pair) (packets_in packets) ≡ forwarded_by pair.order.gate pair.order.own (packets_in packets)
  pub gain : 0 < r.load.packets → LowestGain r.load
  pub none : r.load.packets ≡ 0 → ((gain_of r.load).numerator ≡ 0) × ((gain_of r.load).denominator ≡ 0)
  pub hits : r.hits ≡ hits_in (places pair) earlier later

abbrev pub ReportTheorem : Type 0
ReportTheorem =
    (s packets earlier later : List ℕ) (r : Report) → Each Byte packets → report_of limits s packets earlier later ≡ accepted r → ReportHolds s packets earlier later r
