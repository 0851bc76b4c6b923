-- `group` meets its contract. Assumes nothing.
use native.Mathlib.Omega.{arith}
use Rattle.rows.proofs.Tables.{fronts_inside, front_is, front_below, next_few, group_run}
use Rattle.rows.proofs.TabledSheetBoxes.group.Goals as goal

pub front_at-front-requires : goal.front_at-front-requires
front_at-front-requires c = omega (arith, fronts_inside c.args.self.sheet.checked c.args.self.tabled c.requires)

pub overflow_add-place : goal.overflow_add-place
overflow_add-place c = let h = fronts_inside c.args.self.sheet.checked c.args.self.tabled c.requires in omega arith

pub front_at-requires : goal.front_at-requires
front_at-requires c = fronts_inside c.args.self.sheet.checked c.args.self.tabled c.requires

pub overflow_sub-count : goal.overflow_sub-count
overflow_sub-count c = front_below c.args.self.sheet.checked c.args.self.tabled c.requires c.front_at-front.ensures c.front_at.ensures

pub overflow_add-result : goal.overflow_add-result
overflow_add-result c =
    let h = c.args.self.sheet.checked in
    let t = c.args.self.tabled in
    omega (arith, front_below h t c.requires c.front_at-front.ensures c.front_at.ensures, next_few h t c.requires c.front_at-front.ensures c.front_at.ensures, h.laid.total_limit, h.laid.lists.gate_limit)

pub overflow_mul-result : goal.overflow_mul-result
overflow_mul-result c =
    let h = c.args.self.sheet.checked in
    let t = c.args.self.tabled in
    omega (arith, front_below h t c.requires c.front_at-front.ensures c.front_at.ensures, next_few h t c.requires c.front_at-front.ensures c.front_at.ensures, h.laid.total_limit, h.laid.lists.gate_limit)

pub returns-clause-front : goal.returns-clause-front
returns-clause-front c = front_is c.args.self.sheet.checked c.args.self.tabled c.requires c.front_at-front.ensures c.front_at.ensures

pub returns-clause-run : goal.returns-clause-run
returns-clause-run c = group_run c.args.self.sheet.checked c.args.self.tabled c.requires c.front_at-front.ensures c.front_at.ensures (omega arith)
