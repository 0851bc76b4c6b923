-- Two lookups, computed: a bad rule is refused before the packet is compared with it, and behind the rule that fits it is not
-- looked at. Assumes nothing.
use Rattle.std.proofs.Common.{◌≡◌, [], ◌∷◌, drop, refl}
use Rattle.policy.specs.Fields.{highest}
use Rattle.lists.specs.Lists.{every_both}
use Rattle.policy.specs.Ranges.{range, Packet, inside, full_over}
use Rattle.policy.specs.Rules.{full, Rule, rule, sound}
use Rattle.policy.specs.Refusals.{accepted, refused}
use Rattle.filter.specs.Lookup.{hit, look_from}

abbrev pub zeros : Packet
zeros = 0 ∷ 0 ∷ 0 ∷ 0 ∷ 0 ∷ []

-- its source begins above its end
abbrev pub bad : Rule
bad = rule (range 2 1 ∷ drop 1 full) 1

pub bad_first : look_from 0 zeros (bad ∷ rule full 1 ∷ []) ≡ refused 4
unfolding look_from sound inside highest full_over every_both
bad_first = refl

pub bad_behind : look_from 0 zeros (rule full 1 ∷ bad ∷ []) ≡ accepted (hit 0 1)
unfolding look_from sound inside highest full_over every_both
bad_behind = refl
