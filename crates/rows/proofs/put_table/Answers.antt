-- `put_table` meets its contract. Assumes nothing.
use native.Mathlib.Omega.{arith}
use mathlib.Core.Path.{◌∙◌}
use Rattle.origins.proofs.Searches.{holds_read}
use Rattle.origins.proofs.Traces.{run_count}
use Rattle.origins.proofs.Tracing.{gate_length, own_length}
use Rattle.rows.proofs.Tables.{groups_proper, table_put}
use Rattle.rows.proofs.put_table.Goals as goal

pub put_rows-requires : goal.put_rows-requires
put_rows-requires c =
    let checked = c.args.sheet.checked in
    let h = c.gate-gate.ensures in
    (omega (arith, run_count _ h, gate_length checked, c.requires, checked.laid.lists.gate_limit), holds_read h)

pub put_groups-requires : goal.put_groups-requires
put_groups-requires c =
    let checked = c.args.sheet.checked in
    let l = checked.laid in
    let n = run_count _ c.gate-gate.ensures in
    (omega (arith, l.groups_end, l.whole, l.boxes_are), omega (arith, n, gate_length checked, c.requires, l.lists.gate_limit, l.total_limit, l.boxes_are), groups_proper checked)

pub put_rows-requires-2 : goal.put_rows-requires-2
put_rows-requires-2 c =
    let checked = c.args.sheet.checked in
    let l = checked.laid in
    let h = c.own-own.ensures in
    (omega (arith, run_count _ h, run_count _ c.gate-gate.ensures, gate_length checked, own_length checked, c.requires, l.lists.gate_limit, l.total_limit), holds_read h)

pub returns : goal.returns
returns c =
    let checked = c.args.sheet.checked in
    let h = c.gate-gate.ensures in
    table_put checked _ (omega (arith, c.requires)) c.put_fronts.ensures (run_count _ h ∙ gate_length checked) h.are c.own-own.ensures.are c.put_rows.ensures c.put_groups.ensures c.put_rows-2.ensures
