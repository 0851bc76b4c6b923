-- `Box::is_proper` meets its contract: the loop's invariant says that every field passed is proper. Assumes nothing.
use Rattle.std.proofs.Common.{rules, arith, ◌≡◌, ◌∙◌, sym, ap, length, get_or, ◌-◌}
use Rattle.lists.proofs.Both.{fails_at, holds_of_each, above_more}
use Rattle.policy.specs.Fields.{fields, highest}
use Rattle.policy.specs.Ranges.{range, Region, proper_range}
use Rattle.policy.specs.Values.{region_of}
use Rattle.policy.proofs.Values.{ranges-length}
use Rattle.policy.proofs.Box.is_proper.Goals as goal
use Rattle.policy.proofs.Box.is_proper.Invariants.{ProperAt}

pub loop-k-init : goal.loop-k-init
loop-k-init c =
    let b = c.args.self in
    let l : length b.low ≡ fields = search rules in
    let h : length b.high ≡ fields = search rules in
    (ranges-length b.low b.high (cc) ∙ l, λ j u v. absurd (omega arith))

pub returns-then-not-is_proper : goal.returns-then-not-is_proper
unfolding highest
returns-then-not-is_proper c =
    let s = c.loop-k in
    let b : Region = region_of c.args.self in
    let t = c.is_proper.ensures ∙ ap (proper_range (get_or highest (s.k - 1) 0)) c.range.ensures in
    sym (fails_at proper_range 0 (range 0 0) highest b (s.k - 1) (omega arith) (omega arith) (sym t ∙ c.if-not-is_proper.true))

pub loop-k-preserved : goal.loop-k-preserved
unfolding highest
loop-k-preserved c =
    let s = c.loop-k in
    let b : Region = region_of c.args.self in
    let t = c.is_proper.ensures ∙ ap (proper_range (get_or highest (s.k - 1) 0)) c.range.ensures in
    (s.invariant.0, above_more (ProperAt b) fields s.k s.invariant.1 (sym t ∙ c.if-not-is_proper.false))

pub returns : goal.returns
unfolding highest
returns c =
    let s = c.loop-k in
    sym (holds_of_each proper_range 0 (range 0 0) highest (region_of c.args.self) (sym s.invariant.0) (λ k h. s.invariant.1 k (omega arith) h))
