-- `add_list` puts the records one behind another.
use Rattle.std.proofs.Common.{◌≡◌, ◌+◌, ◌*◌, ◌++◌, length, take, flat_map}
use Rattle.policy.specs.Fields.{record_size}
use Rattle.test_draws.proofs.order.Sheet.add_list.Given as goal

abbrev pub invariant-loop-record : goal.invariant-loop-record
invariant-loop-record l =
    (length l.self.bytes ≡ length l.initial.self.bytes)
    × (l.self.used ≡ l.initial.self.used + record_size * l.record-index)
    × (take l.self.used l.self.bytes ≡ take l.initial.self.used l.initial.self.bytes ++ flat_map (λ r. r) (take l.record-index l.record-items))
