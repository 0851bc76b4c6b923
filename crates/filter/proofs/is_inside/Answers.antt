-- `is_inside` meets its contract: the loop's invariant says what the count of misses tells of the fields passed. Assumes nothing.
use Rattle.std.proofs.Common.{◌≡◌, ◌≤◌, length, get_or, sym, ap, subst, ◌∙◌, arith, rules}
use Rattle.policy.specs.Fields.{fields}
use Rattle.policy.specs.Ranges.{Range}
use Rattle.policy.specs.Values.{region_of}
use Rattle.policy.proofs.Values.{ranges-length}
use Rattle.filter.specs.Steps.{miss_of}
use Rattle.filter.proofs.Insides.{range_whole}
use Rattle.filter.proofs.Misses.{passed_first, passed_next, passed_last}
use Rattle.filter.proofs.is_inside.Goals as goal

pub loop-k-init : goal.loop-k-init
loop-k-init c =
    let a = c.args in
    let l : length a.bounds.low ≡ fields = search rules in
    let h : length a.bounds.high ≡ fields = search rules in
    (search rules, ranges-length a.bounds.low a.bounds.high (cc) ∙ l, passed_first a.p.values (region_of a.bounds))

pub miss-missed-requires : goal.miss-missed-requires
miss-missed-requires c =
    let s = c.loop-k in
    let h = range_whole (region_of c.args.bounds) s.k c.requires (omega arith) in
    subst (λ (r : Range). r.low ≤ r.high) (sym c.range.ensures) h

pub overflow_add-missed : goal.overflow_add-missed
overflow_add-missed c = let h = c.loop-k.invariant.2.few in omega arith

pub loop-k-preserved : goal.loop-k-preserved
loop-k-preserved c =
    let s = c.loop-k in
    let a = c.args in
    let e = c.miss-missed.ensures.0 ∙ ap (λ (r : Range). miss_of (get_or a.p.values s.k 0) r) c.range.ensures in
    (s.invariant.0, s.invariant.1, passed_next a.p.values (region_of a.bounds) s.k s.missed (omega arith) (omega arith) s.invariant.2 c.miss-missed.result e)

pub returns : goal.returns
returns c =
    let s = c.loop-k in
    let a = c.args in
    passed_last a.p.values (region_of a.bounds) s.k s.missed (cc) (omega arith) s.invariant.2
