-- `foldplover_lookup` meets its contract. Assumes nothing.
use mathlib.Core.Path.{ap, ◌∙◌}
use Rattle.policy.specs.Fields.{limits}
use Rattle.policy.specs.Ranges.{Packet}
use Rattle.filter.specs.Lookup.{lookup, lookup_number}
use Rattle.foldplover.proofs.foldplover_lookup.Goals as goal

pub returns : goal.returns
returns c = c.lookup_number.ensures ∙ ap (λ (p : Packet). lookup_number (lookup limits.total p c.args.list.now)) c.packet_of.ensures
