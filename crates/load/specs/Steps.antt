-- What the inner parts of a report answer: the code's loads and gains as mathematics has them. Assumes nothing.
use Rattle.std.specs.Prelude.{ℕ, ◌+◌, ◌*◌, ◌≤◌}
use Rattle.policy.specs.Fields.{limits}
use Rattle.origins.specs.declared.Trace.{Trace}
use Rattle.origins.specs.declared.Trace.TheVariants.{Gate, Own, Nowhere}
use Rattle.load.specs.Load.{Load, load, Gain}
use Rattle.load.specs.Packets.{packets_most}
use Rattle.load.specs.declared.Load.{Load as LoadValue}
use Rattle.load.specs.declared.Gain.{Gain as GainValue}

abbrev pub load_value : LoadValue → Load
load_value t = load t.packets t.before t.after t.forwarded

abbrev pub gain_value : GainValue → Gain
gain_value g = record { numerator = g.numerator; denominator = g.denominator }

-- What a traced packet comes to.
unfoldable pub trace_load : Trace → Load
trace_load (Gate rule number place) = load 1 (rule + 1) (1 + (place + 1)) 0
trace_load (Own passed rule place action) = load 1 (passed + 1 + (rule + 1)) (1 + (place + 1)) action
trace_load Nowhere = load 1 0 0 0

-- The load of at most as many packets as a report takes, each with at most as many tries as the loaded lists can have rules.
abbrev pub tries_most : ℕ
tries_most = 1 + limits.total

pub record Bounded (t : Load) : Type 0 where
  pub packets : t.packets ≤ packets_most
  pub before : t.before ≤ tries_most * t.packets
  pub after : t.after ≤ tries_most * t.packets
  pub forwarded : t.forwarded ≤ t.packets
