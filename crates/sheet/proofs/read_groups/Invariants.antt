-- `read_groups` reads group after group: the groups that are left decide. Assumes nothing.
use Rattle.sheet.specs.Steps.{with_total}
use Rattle.sheet.proofs.GroupReader.{GroupsLeft}
use Rattle.sheet.proofs.read_groups.Given as goal

abbrev pub invariant-loop : goal.invariant-loop
invariant-loop l = GroupsLeft (with_total l.most) l.n l.own l.s l.counter l.total l.at
