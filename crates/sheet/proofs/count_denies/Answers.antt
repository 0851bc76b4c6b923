-- `count_denies` counts the deny rules: those counted, and those among the rules that are left. Assumes nothing.
use Rattle.std.proofs.Common.{arith, ◌≡◌, ℕ, ap, ◌∙◌, ◌+◌, ◌*◌, ◌-◌, drop}
use Rattle.policy.specs.Fields.{count_size, record_size}
use Rattle.policy.specs.Rules.{Rule, is_allow, denies}
use Rattle.wire.specs.Records.{rules_in}
use Rattle.sheet.proofs.Loops.{rules_left, no_rules, deny_counts, allow_skips, no_denies}
use Rattle.sheet.proofs.count_denies.Goals as goal
use Rattle.sheet.proofs.count_denies.Goals.{else-not-is_allow, then-not-is_allow}

pub loop-i-init : goal.loop-i-init
loop-i-init c =
    let all : ℕ → ℕ = λ k. denies (rules_in k (drop count_size c.args.s.now)) in
    let d : all (c.args.n - 0) ≡ all c.args.n = ap all (omega arith) in
    (omega arith, omega arith)

pub loop-i-preserved : goal.loop-i-preserved
loop-i-preserved c =
    let h = c.loop-i in
    let a = c.args in
    let at : ℕ = count_size + record_size * h.i in
    let e = rules_left a.n h.i at a.s.now (omega arith) in
    let x = c.is_allow.ensures ∙ ap (λ (r : Rule). is_allow r) c.rule_at.ensures in
    let left : ℕ → ℕ = λ k. denies (rules_in (a.n - (h.i + 1)) (drop k a.s.now)) in
    let next : left (at + record_size) ≡ left (count_size + record_size * (h.i + 1)) = ap left (omega arith) in
    elim c.if-not-is_allow.branch [ then-not-is_allow w ↦ let d = deny_counts e x w.if-not-is_allow.true in (omega arith, omega arith) | else-not-is_allow w ↦ let d = allow_skips e x w.if-not-is_allow.false in (omega arith, omega arith) ]

pub returns : goal.returns
returns c =
    let h = c.loop-i in
    let a = c.args in
    let e = no_denies (no_rules a.n h.i (drop (count_size + record_size * h.i) a.s.now) (omega arith)) in
    omega arith
