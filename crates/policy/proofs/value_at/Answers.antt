-- `value_at` meets its contract: the loop's invariant says whether field k has been passed. Assumes nothing.
use borrow.Author.Rules.{rules}
use native.Mathlib.Omega.{arith}
use mathlib.Core.Path.{ap, sym, ◌∙◌}
use Prim.Native.Nat.{ℕ, ◌+◌}
use lib.ListN.{get_or}
use Rattle.policy.proofs.Values.{walk_before, walk_after, walk_past}
use Rattle.policy.proofs.value_at.Goals as goal
use Rattle.policy.proofs.value_at.Goals.{then-j-k, else-j-k}

pub loop-j-init : goal.loop-j-init
loop-j-init c = (search rules, sym (walk_before c.args.k 0 (get_or c.args.values c.args.k 0) 0 (omega arith)))

pub loop-j-preserved : goal.loop-j-preserved
loop-j-preserved c =
    let a = c.args in
    let s = c.loop-j in
    let x = get_or a.values a.k 0 in
    elim c.if-j-k.branch [
      | then-j-k w ↦ (omega arith, w.x-is ∙ (ap (λ (i : ℕ). get_or a.values i 0) w.if-j-k.true ∙ sym (walk_after a.k (s.j + 1) x 0 (omega arith))))
      | else-j-k w ↦ (omega arith, w.x-is ∙ (s.invariant.1 ∙ walk_past a.k s.j x 0 w.if-j-k.false))
    ]

pub returns : goal.returns
returns c =
    let a = c.args in
    let s = c.loop-j in
    s.invariant.1 ∙ walk_after a.k s.j (get_or a.values a.k 0) 0 (omega arith)
