-- `packet_at` meets its contract. Assumes nothing.
use Rattle.std.proofs.Common.{◌≡◌, ◌+◌, ◌≤◌, ◌++◌, length, take, drop}
use Rattle.policy.specs.Fields.{fields, widths}
use Rattle.load.specs.Packets.{values_in, sum_widths, packet_in}
use Rattle.load.proofs.packet_at.Given as goal

abbrev pub invariant-loop-k : goal.invariant-loop-k
invariant-loop-k l =
    (length l.values ≡ fields) × (l.at + sum_widths (drop l.k widths) ≤ length l.s) × (take l.k l.values ++ values_in (drop l.k widths) (drop l.at l.s) ≡ packet_in l.s)
