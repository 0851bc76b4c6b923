-- `lookup_number` meets its contract: what the lookup answers is small. Assumes nothing.
use Rattle.std.proofs.Common.{◌∙◌, ap}
use Rattle.policy.specs.Values.{packet_of}
use Rattle.filter.specs.Lookup.{lookup_number}
use Rattle.filter.proofs.Verdicts.{lookup_in_total}
use Rattle.filter.proofs.lookup_number.Goals as goal

pub verdict_number-requires : goal.verdict_number-requires
verdict_number-requires c = lookup_in_total (packet_of c.args.p) c.args.list.now c.lookup.result c.lookup.ensures

pub returns : goal.returns
returns c = c.verdict_number.ensures ∙ ap lookup_number c.lookup.ensures
