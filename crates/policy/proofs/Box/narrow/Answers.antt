-- `Box::narrow` meets its contract: the loop's invariant says whether field k has been passed. Assumes nothing.
use borrow.Author.Rules.{rules}
use native.Mathlib.Omega.{arith}
use mathlib.Core.Path.{ap, sym, ◌∙◌}
use Prim.Native.Nat.{ℕ, ◌+◌}
use lib.ListN.{set}
use Rattle.policy.specs.Ranges.{Region}
use Rattle.policy.specs.Values.{range_of, region_of}
use Rattle.policy.proofs.Values.{ranges-set, walk_before, walk_after, walk_past}
use Rattle.policy.proofs.Box.narrow.Goals as goal
use Rattle.policy.proofs.Box.narrow.Goals.{then-j-k, else-j-k}

pub loop-j-init : goal.loop-j-init
loop-j-init c =
    let a = c.args in
    (search rules, sym (walk_before a.k 0 (set (region_of a.self) a.k (range_of a.r)) (region_of a.self) (omega arith)))

pub loop-j-preserved : goal.loop-j-preserved
loop-j-preserved c =
    let a = c.args in
    let s = c.loop-j in
    let old : Region = region_of a.self in
    let new : Region = set old a.k (range_of a.r) in
    elim c.if-j-k.branch [
      | then-j-k w ↦ (
        omega arith,
        ap region_of w.b-is
            ∙ (ranges-set s.b.low s.b.high s.j a.r.low a.r.high
            ∙ (ap (λ (i : ℕ). set (region_of s.b) i (range_of a.r)) w.if-j-k.true
            ∙ (ap (λ (b : Region). set b a.k (range_of a.r)) (s.invariant.1 ∙ walk_before a.k s.j new old (omega arith)) ∙ sym (walk_after a.k (s.j + 1) new old (omega arith))))),
      )
      | else-j-k w ↦ (omega arith, ap region_of w.b-is ∙ (s.invariant.1 ∙ walk_past a.k s.j new old w.if-j-k.false))
    ]

pub returns : goal.returns
returns c =
    let a = c.args in
    let s = c.loop-j in
    s.invariant.1 ∙ walk_after a.k s.j (set (region_of a.self) a.k (range_of a.r)) (region_of a.self) (omega arith)
