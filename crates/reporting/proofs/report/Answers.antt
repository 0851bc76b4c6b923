-- `report` meets its contract. Assumes nothing.
use Rattle.std.proofs.lemmas.Result.{err_from_is_err_and}
use Rattle.reporting.proofs.Calls.{lengths_of, lent_short, passes, check_refuses, readings_refuse, load_refuses, report_told}
use Rattle.reporting.proofs.report.Goals as goal

pub returns-then-totals-lt-TOTALS_NUMBERS : goal.returns-then-totals-lt-TOTALS_NUMBERS
returns-then-totals-lt-TOTALS_NUMBERS c = lent_short _ _ _ _ _ _ _ c.then-totals-lt-TOTALS_NUMBERS.either

pub returns-in_err-checked : goal.returns-in_err-checked
returns-in_err-checked c =
    let e = c.in_err-checked.ensures in
    let stop = err_from_is_err_and c.from_residual.result c.from_residual.ensures.1 in
    rw (stop.1, stop.2)
    (check_refuses _ _ _ _ _ _ _ c.if-totals-lt-TOTALS_NUMBERS.false c.if-hits-lt-HITS_NUMBERS.false c.if-work-lt-WORK_BYTES.false e.cleared e.checks)

pub returns-in_err-readings : goal.returns-in_err-readings
returns-in_err-readings c =
    let checks = passes c.in_ok-checked.checked.checked c.in_ok-checked.ensures.checks in
    let wrong = c.in_err-readings.ensures in
    let stop = err_from_is_err_and c.from_residual-in_err-readings.result c.from_residual-in_err-readings.ensures.1 in
    rw (stop.1, stop.2)
    (readings_refuse _ _ _ _ _ _ _ c.if-totals-lt-TOTALS_NUMBERS.false c.if-hits-lt-HITS_NUMBERS.false c.if-work-lt-WORK_BYTES.false c.new.ensures.cleared _ checks c.places.ensures.places wrong.0 wrong.1)

pub returns-in_err-load : goal.returns-in_err-load
returns-in_err-load c =
    let checks = passes c.in_ok-checked.checked.checked c.in_ok-checked.ensures.checks in
    let lengths = lengths_of c.in_ok-readings.ensures c.in_ok-readings.readings.lengths in
    let stop = err_from_is_err_and c.from_residual-in_err-load.result c.from_residual-in_err-load.ensures.1 in
    rw (stop.1, stop.2)
    (load_refuses _ _ _ _ _ _ _ c.if-totals-lt-TOTALS_NUMBERS.false c.if-hits-lt-HITS_NUMBERS.false c.if-work-lt-WORK_BYTES.false c.new.ensures.cleared _ checks c.places.ensures.places lengths c.in_err-load.ensures)

pub returns : goal.returns
returns c =
    let checks = passes c.in_ok-checked.checked.checked c.in_ok-checked.ensures.checks in
    let e = c.in_ok-readings.ensures in
    let lengths = lengths_of e c.in_ok-readings.readings.lengths in
    rw e.2
    (report_told _ _ _ _ _ _ _ c.if-totals-lt-TOTALS_NUMBERS.false c.if-hits-lt-HITS_NUMBERS.false c.if-work-lt-WORK_BYTES.false c.new.ensures.cleared _ checks c.places.ensures.places
    lengths c.in_ok-load.load c.in_ok-load.ensures c.put_totals.ensures (rw (e.0, e.1, e.2) at c.put_hits.ensures))
