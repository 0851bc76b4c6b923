-- `read_groups` reads group after group: the groups that are left decide. Assumes nothing.
use borrow.Author.Rules.{rules}
use native.Mathlib.Omega.{arith}
use Rattle.sheet.proofs.GroupReader.{groups_first, groups_stop, groups_next, groups_done}
use Rattle.sheet.proofs.read_groups.Goals as goal

pub loop-init : goal.loop-init
loop-init c = search (rules, groups_first)

pub returns-in_err-group : goal.returns-in_err-group
returns-in_err-group c = search (rules, groups_stop)

pub overflow_add-total : goal.overflow_add-total
overflow_add-total c =
    let h = groups_next c.loop.invariant c.loop-test.true c.read_group.ensures c.in_ok-group.group c.in_ok-group.was in
    omega (arith, h.limit)

pub overflow_add-at : goal.overflow_add-at
overflow_add-at c =
    let h = groups_next c.loop.invariant c.loop-test.true c.read_group.ensures c.in_ok-group.group c.in_ok-group.was in
    omega (arith, h.inside)

pub loop-preserved : goal.loop-preserved
loop-preserved c = groups_next c.loop.invariant c.loop-test.true c.read_group.ensures c.in_ok-group.group c.in_ok-group.was

pub returns : goal.returns
returns c = search (rules, groups_done)
