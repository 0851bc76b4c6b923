-- `origin` meets its contract. Assumes nothing.
use mathlib.Core.Path.{sym, ap, ◌∙◌}
use Rattle.std.proofs.lemmas.Result.{err_from_is_err_and}
use Rattle.policy.specs.Fields.{limits}
use Rattle.promises.specs.Calls.{check_of}
use Rattle.origins.proofs.Calls.{lent_short, origin_refused, origin_told}
use Rattle.origins.proofs.origin.Goals as goal

pub returns-then-numbers-lt-ORIGIN_NUMBERS : goal.returns-then-numbers-lt-ORIGIN_NUMBERS
returns-then-numbers-lt-ORIGIN_NUMBERS c = lent_short _ _ _ _ c.then-numbers-lt-ORIGIN_NUMBERS.either

pub returns-in_err-checked : goal.returns-in_err-checked
returns-in_err-checked c =
    let e = c.in_err-checked.ensures in
    let refused = err_from_is_err_and c.from_residual.result c.from_residual.ensures.1 in
    rw (refused.1, refused.2)
    (origin_refused _ _ _ _ c.if-numbers-lt-ORIGIN_NUMBERS.false c.if-work-lt-WORK_BYTES.false e.cleared e.checks)

pub returns : goal.returns
returns c =
    let e = c.in_ok-checked.ensures in
    origin_told _ _ _ _ c.if-numbers-lt-ORIGIN_NUMBERS.false c.if-work-lt-WORK_BYTES.false e.cleared
    (ap (check_of limits) (sym e.checks) ∙ c.in_ok-checked.checked.checked.checks) c.trace_packet.ensures.traced c.tell.ensures
