-- `read_pair` answers at each of its tests what the definition gives there. Assumes nothing.
use borrow.Author.Rules.{rules}
use native.Mathlib.Omega.{arith}
use Rattle.sheet.proofs.PairReader.{pair_refusal, gate_inside, own_within, no_group_count, groups_differ, third_refusal, pair_over, pair_read}
use Rattle.sheet.proofs.read_pair.Goals as goal

pub returns-in_err-order : goal.returns-in_err-order
returns-in_err-order c = search (rules, pair_refusal)

pub returns-then-s-at-lt-COUNT_BYTES : goal.returns-then-s-at-lt-COUNT_BYTES
returns-then-s-at-lt-COUNT_BYTES c = search (rules, no_group_count)

pub count_denies-groups-requires : goal.count_denies-groups-requires
count_denies-groups-requires c = search (rules, gate_inside)

pub returns-then-count_at-groups : goal.returns-then-count_at-groups
returns-then-count_at-groups c =
    groups_differ c.read_lists.ensures c.in_ok-order.order c.in_ok-order.was (omega arith) _ c.count_denies-groups.ensures _ c.count_at.ensures.0 (λ q. omega arith)

pub read_groups-requires : goal.read_groups-requires
read_groups-requires c = search (rules, own_within)

pub returns-in_err-third : goal.returns-in_err-third
returns-in_err-third c = search (rules, third_refusal)

pub returns-then-third-s : goal.returns-then-third-s
returns-then-third-s c =
    pair_over c.read_lists.ensures c.in_ok-order.order c.in_ok-order.was (omega arith) _ c.count_denies-groups.ensures _ c.count_at.ensures.0 (omega arith)
    c.read_groups.ensures c.in_ok-third.third c.in_ok-third.was (omega arith)

pub returns : goal.returns
returns c =
    pair_read c.read_lists.ensures c.in_ok-order.order c.in_ok-order.was (omega arith) _ c.count_denies-groups.ensures _ c.count_at.ensures.0 (omega arith)
    c.read_groups.ensures c.in_ok-third.third c.in_ok-third.was (omega arith)
