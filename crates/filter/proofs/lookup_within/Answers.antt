-- `lookup_within` meets its contract, return by return. Assumes nothing.
use Rattle.std.proofs.Common.{◌≤◌, ◌∙◌, arith, rules}
use Rattle.filter.proofs.Lookups.{no_count, no_rules, too_many, wrong_length, good_head}
use Rattle.filter.proofs.lookup_within.Goals as goal
use Rattle.filter.proofs.lookup_within.Goals.{then-count-lt1-via-then-count-lt1, then-count-lt1-via-else-count-lt1+then-most-count}

pub returns-then-list-lt-COUNT_BYTES : goal.returns-then-list-lt-COUNT_BYTES
returns-then-list-lt-COUNT_BYTES c = search (rules, no_count)

pub returns-then-count-lt1 : goal.returns-then-count-lt1
returns-then-count-lt1 c =
    let a = c.args in
    let n = c.count_at-count in
    elim c.then-count-lt1.branch [ then-count-lt1-via-then-count-lt1 w ↦ no_rules a.most a.p.values a.list.now (omega arith) n.result n.ensures.0 (omega arith) | then-count-lt1-via-else-count-lt1+then-most-count w ↦ too_many a.most a.p.values a.list.now (omega arith) n.result n.ensures.0 (omega arith) (omega arith) ]

pub returns-then-list-count : goal.returns-then-list-count
returns-then-list-count c = let few : c.count_at-count.result ≤ c.args.most = omega arith in search (rules, wrong_length)

pub returns : goal.returns
returns c =
    let a = c.args in
    let n = c.count_at-count in
    c.scan.ensures ∙ good_head a.most a.p.values a.list.now (omega arith) n.result n.ensures.0 (omega arith) (omega arith) (omega arith)
