-- `take_allows` meets its contract: the loop's invariant says that the pieces and the allows left come to what the start and all
-- allows come to. Assumes nothing.
use mathlib.Core.Path.{sym, ◌∙◌}
use Prim.Native.Nat.{◌+◌}
use native.Mathlib.Omega.{arith}
use Rattle.std.proofs.lemmas.Result.{err_from_is_err_and}
use Rattle.groups.proofs.Works.{proper_at, working_deny, working_over, working_next, working_done}
use Rattle.groups.proofs.take_allows.Goals as goal
use Rattle.groups.proofs.take_allows.Goals.{then-is_allow+in_ok-left, else-is_allow}

pub take_allow-requires-clause-standing : goal.take_allow-requires-clause-standing
take_allow-requires-clause-standing c =
    (c.loop-j.invariant.stands, proper_at (c.args.i + 1) c.args.rules.now c.loop-j.j c.requires.room.0.2 (omega arith) c.rule_at-rule.ensures)

pub returns-in_err-left : goal.returns-in_err-left
returns-in_err-left c =
    let refused = err_from_is_err_and c.from_residual.result c.from_residual.ensures.1 in
    rw (refused.1, refused.2) (working_over c.loop-j.invariant c.loop-j-test.true c.rule_at-rule.ensures (sym c.is_allow.ensures ∙ c.if-is_allow.true) c.in_err-left.ensures)

pub loop-j-preserved : goal.loop-j-preserved
loop-j-preserved c =
    let s = c.loop-j in
    let t = c.loop-j-test.true in
    let e = c.rule_at-rule.ensures in
    let b = sym c.is_allow.ensures in
    elim c.if-is_allow.branch [
      | then-is_allow+in_ok-left w ↦ rw (w.left-is, w.pieces-is, w.out-is) (working_next s.invariant t e (b ∙ w.if-is_allow.true) w.in_ok-left.ensures (proper_at (c.args.i + 1) c.args.rules.now s.j c.requires.room.0.2 (omega arith) e) w.take_allow.auto.pieces w.take_allow.auto.out)
      | else-is_allow w ↦ rw (w.left-is, w.pieces-is, w.out-is) (working_deny s.invariant t e (b ∙ w.if-is_allow.false))
    ]

pub returns : goal.returns
returns c = working_done c.loop-j.invariant c.loop-j-test.false
