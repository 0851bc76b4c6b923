-- `count_denies` counts the deny rules: those counted, and those among the rules that are left. Assumes nothing.
use Rattle.std.proofs.Common.{◌≡◌, ◌+◌, ◌*◌, ◌-◌, ◌≤◌, drop}
use Rattle.policy.specs.Fields.{count_size, record_size}
use Rattle.policy.specs.Rules.{denies}
use Rattle.wire.specs.Records.{rules_in}
use Rattle.sheet.specs.Steps.{rules_of}
use Rattle.sheet.proofs.count_denies.Given as goal

abbrev pub invariant-loop-i : goal.invariant-loop-i
invariant-loop-i l =
    (l.count ≤ l.i) × (l.count + denies (rules_in (l.n - l.i) (drop (count_size + record_size * l.i) l.s)) ≡ denies (rules_of l.n l.s))
