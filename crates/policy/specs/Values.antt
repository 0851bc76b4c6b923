-- The code's ranges, boxes, rules and packets as mathematics has them. Assumes nothing.
use Rattle.std.specs.Prelude.{List, [], ◌∷◌, ℕ}
use Rattle.policy.specs.Ranges.{Range, range, Region, Packet}
use Rattle.policy.specs.Rules.{Rule, rule}
use Rattle.policy.specs.declared.Range.{Range as RangeValue}
use Rattle.policy.specs.declared.Box.{Box}
use Rattle.policy.specs.declared.Rule.{Rule as RuleValue}
use Rattle.policy.specs.declared.Packet.{Packet as PacketValue}

abbrev pub range_of : RangeValue → Range
range_of r = range r.low r.high

-- Lows and highs, field by field.
unfoldable pub ranges : List ℕ → List ℕ → Region
ranges [] hs = []
ranges (l ∷ ls) [] = []
ranges (l ∷ ls) (h ∷ hs) = range l h ∷ ranges ls hs

abbrev pub region_of : Box → Region
region_of b = ranges b.low b.high

abbrev pub rule_of : RuleValue → Rule
rule_of r = rule (region_of r.bounds) r.action

abbrev pub packet_of : PacketValue → Packet
packet_of p = p.values
