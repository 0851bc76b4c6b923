-- The load of two filters over a list of packets, before and after a move, and the hits that a filter has counted between two readings
-- (02, W3). Assumes nothing.
use Rattle.std.specs.Prelude.{ℕ, zero, suc, ◌+◌, ◌-◌, ◌/◌, ◌%◌, cond, List, [], ◌∷◌, length, ◌==◌}
use Rattle.policy.specs.Ranges.{Packet}
use Rattle.policy.specs.Rules.{Rule, Found, found, nothing, first, allows, forwards}
use Rattle.policy.specs.Move.{Pair, gate_list, cell_list}

-- The rules that first match tries: the place that it finds, and 1. (A complete list has a rule for every packet inside the limits; of a
-- list that has none, no try is counted.)
abbrev pub tried : Found → ℕ
tried (found n a) = n + 1
tried nothing = 0

-- Two filters in a line: the second one tries its rules only for a packet that the first one forwards.
unfoldable pub tries_of : List Rule → List Rule → Packet → ℕ
tries_of gate cell p = tried (first p gate) + cond (allows p gate) (tried (first p cell)) 0

-- Before the move the lists are A and B, after it those that are loaded.
abbrev pub tries_before : Pair → Packet → ℕ
tries_before q p = tries_of q.order.gate q.order.own p

abbrev pub tries_after : Pair → Packet → ℕ
tries_after q p = tries_of (gate_list q) (cell_list q) p

-- The packets of a list that two filters forward, in their order.
unfoldable pub forwarded_by : List Rule → List Rule → List Packet → List Packet
forwarded_by gate cell [] = []
forwarded_by gate cell (p ∷ ps) = cond (forwards p gate cell) (p ∷ forwarded_by gate cell ps) (forwarded_by gate cell ps)

-- The exact sum of a number of each packet.
unfoldable pub sum_of : (Packet → ℕ) → List Packet → ℕ
sum_of f [] = 0
sum_of f (p ∷ ps) = f p + sum_of f ps

-- How many packets there are, the rules tried for them before and after, and how many are forwarded.
pub record Load : Type 0 where
  pub packets : ℕ
  pub before : ℕ
  pub after : ℕ
  pub forwarded : ℕ

abbrev pub load : ℕ → ℕ → ℕ → ℕ → Load
load n b a f = record { packets = n; before = b; after = a; forwarded = f }

unfoldable pub load_of : Pair → List Packet → Load
load_of q ps = load (length ps) (sum_of (tries_before q) ps) (sum_of (tries_after q) ps) (length (forwarded_by q.order.gate q.order.own ps))

-- Two loads together, and the load of no packets.
unfoldable pub plus : Load → Load → Load
plus t u = load (t.packets + u.packets) (t.before + u.before) (t.after + u.after) (t.forwarded + u.forwarded)

abbrev pub no_load : Load
no_load = load 0 0 0 0

-- The greatest common divisor by Euclid's steps: while the second number is not 0, it takes the place of the first one, and what the
-- division leaves takes its own. It gets smaller each time, so as many steps as it says are enough.
unfoldable pub common_in : ℕ → ℕ → ℕ → ℕ
common_in zero a b = a
common_in (suc steps) a b = cond (b == 0) a (common_in steps b (a % b))

abbrev pub common : ℕ → ℕ → ℕ
common a b = common_in b a b

-- The gain: before over after, in lowest terms. (Of no packets 0 over 0, since a number divided by 0 is 0 here.)
pub record Gain : Type 0 where
  pub numerator : ℕ
  pub denominator : ℕ

unfoldable pub gain_of : Load → Gain
gain_of t = record { numerator = t.before / common t.before t.after; denominator = t.after / common t.before t.after }

-- A counter of hits has 32 bits: behind its highest number it begins again with 0.
abbrev pub round : ℕ
round = 4294967296

-- The hits between two readings: the later one less the earlier one, a round added where that is needed.
unfoldable pub hits_between : ℕ → ℕ → ℕ
hits_between earlier later = (later + (round - earlier)) % round
