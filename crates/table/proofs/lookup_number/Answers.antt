-- `lookup_number` meets its contract: what the lookup answers is small. Assumes nothing.
use Rattle.std.proofs.Common.{map, ◌∙◌, ap}
use Rattle.policy.specs.Values.{rule_of, packet_of}
use Rattle.filter.specs.Lookup.{lookup_number}
use Rattle.table.proofs.Turns.{lookup_in_total}
use Rattle.table.proofs.lookup_number.Goals as goal

pub verdict_number-requires : goal.verdict_number-requires
verdict_number-requires c = lookup_in_total (packet_of c.args.p) (map rule_of c.args.rules.now) c.lookup.result c.lookup.ensures

pub returns : goal.returns
returns c = c.verdict_number.ensures ∙ ap lookup_number c.lookup.ensures
