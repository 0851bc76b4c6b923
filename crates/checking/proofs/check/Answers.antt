-- `check` meets its contract. Assumes nothing.
use Rattle.std.proofs.lemmas.Result.{err_from_is_err_and}
use Rattle.checking.proofs.Checking.{check_short, check_no, check_yes}
use Rattle.checking.proofs.check.Goals as goal

pub returns-then-work-lt-WORK_BYTES : goal.returns-then-work-lt-WORK_BYTES
returns-then-work-lt-WORK_BYTES c = check_short _ _ c.if-work-lt-WORK_BYTES.true

pub returns-in_err-checked : goal.returns-in_err-checked
returns-in_err-checked c =
    let refused = err_from_is_err_and c.from_residual.result c.from_residual.ensures.1 in
    rw (refused.1, refused.2) (check_no _ _ c.if-work-lt-WORK_BYTES.false c.in_err-checked.ensures.1 c.in_err-checked.ensures.0)

pub returns : goal.returns
returns c = check_yes _ _ c.if-work-lt-WORK_BYTES.false c.in_ok-checked.ensures.1 c.in_ok-checked.ensures.0
