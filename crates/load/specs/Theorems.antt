-- What is claimed of a load, of its gain and of hits, each theorem as a type that has one value in proofs/Theorems.antt. A and B are the
-- sheet's lists. Assumes nothing.
use Rattle.std.specs.Prelude.{◌≡◌, ℕ, ◌+◌, ◌*◌, ◌%◌, ◌<◌, true, List, ◌++◌, length}
use Rattle.std.specs.Int.{◌∣◌}
use Rattle.lists.specs.Lists.{Each}
use Rattle.policy.specs.Fields.{limits}
use Rattle.policy.specs.Ranges.{Packet}
use Rattle.policy.specs.Rules.{found, first, in_limits}
use Rattle.policy.specs.Refusals.{accepted, and_then}
use Rattle.policy.specs.Move.{Pair, gate_list, cell_list}
use Rattle.wire.specs.Numbers.{Byte}
use Rattle.promises.specs.Calls.{check_of}
use Rattle.load.specs.Load.{tries_after, forwarded_by, Load, load_of, plus, gain_of, round, hits_between}
use Rattle.load.specs.Packets.{packet_size, packets_in, added_to}

-- Blocks add up: the load of all packets is the sum of the loads of their parts.
abbrev pub LoadAppendTheorem : Type 0
LoadAppendTheorem = (q : Pair) (ps rest : List Packet) → load_of q (ps ++ rest) ≡ plus (load_of q ps) (load_of q rest)

-- Packets that come in two blocks, the first one of whole packets: adding one after the other gives what adding both at once gives, 2
-- and 3 included.
abbrev pub BlocksTheorem : Type 0
BlocksTheorem =
    (q : Pair) (t : Load) (block rest : List ℕ) → length block % packet_size ≡ 0
    → and_then (added_to q t block) (λ u. added_to q u rest) ≡ added_to q t (block ++ rest)

-- Every whole packet in bytes is inside the limits.
abbrev pub InLimits : Packet → Type 0
InLimits p = in_limits p ≡ true

abbrev pub PacketsTheorem : Type 0
PacketsTheorem = (s : List ℕ) → Each Byte s → Each InLimits (packets_in s)

-- 02, W3: for a packet inside the limits first match finds a place in the new cell list, and what is counted after the move is 1 for the
-- gate's one rule, and that place and 1.
pub record PlaceCounted (q : Pair) (p : Packet) : Type 0 where
  pub place : ℕ
  pub action : ℕ
  pub finds : first p (cell_list q) ≡ found place action
  pub counted : tries_after q p ≡ 1 + (place + 1)

abbrev pub AfterTheorem : Type 0
AfterTheorem = (s : List ℕ) (q : Pair) → check_of limits s ≡ accepted q → (p : Packet) → InLimits p → PlaceCounted q p

-- The packets that the loaded lists forward are those that A and B forward.
abbrev pub ForwardedTheorem : Type 0
ForwardedTheorem =
    (s : List ℕ) (q : Pair) → check_of limits s ≡ accepted q → (ps : List Packet)
    → forwarded_by (gate_list q) (cell_list q) ps ≡ forwarded_by q.order.gate q.order.own ps

-- The gain is before over after, and no number above 1 divides both its parts.
pub record LowestGain (t : Load) : Type 0 where
  pub same : (gain_of t).numerator * t.after ≡ (gain_of t).denominator * t.before
  pub lowest : (n : ℕ) → n ∣ (gain_of t).numerator → n ∣ (gain_of t).denominator → n ≡ 1

abbrev pub GainTheorem : Type 0
GainTheorem = (t : Load) → 0 < t.after → LowestGain t

-- A counter stood at `start` hits, and so many came: fewer than a round of them are what its two readings give.
abbrev pub HitsTheorem : Type 0
HitsTheorem = (start hits : ℕ) → hits < round → hits_between (start % round) ((start + hits) % round) ≡ hits
