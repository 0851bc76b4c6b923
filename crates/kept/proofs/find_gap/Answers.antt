-- `find_gap` meets its contract. Assumes nothing.
use native.Mathlib.Omega.{arith}
use Rattle.kept.proofs.Runs.{boxes_behind, part_there, gap_begins, gap_inside, gap_counted}
use Rattle.kept.proofs.find_gap.Goals as goal

pub count_boxes-front-requires : goal.count_boxes-front-requires
count_boxes-front-requires c = omega (arith, boxes_behind c.args.earlier c.args.gone c.args.s.now)

pub overflow_mul-at-2 : goal.overflow_mul-at-2
overflow_mul-at-2 c = omega (arith, gap_inside c.args.earlier c.args.gone c.args.s.now c.requires c.count_boxes-front.ensures)

pub overflow_add-at : goal.overflow_add-at
overflow_add-at c = omega (arith, gap_inside c.args.earlier c.args.gone c.args.s.now c.requires c.count_boxes-front.ensures)

pub slice_bounds-count_boxes-count : goal.slice_bounds-count_boxes-count
slice_bounds-count_boxes-count c = omega (arith, gap_inside c.args.earlier c.args.gone c.args.s.now c.requires c.count_boxes-front.ensures)

pub slice_bounds-count_boxes-start : goal.slice_bounds-count_boxes-start
slice_bounds-count_boxes-start c = omega (arith, gap_inside c.args.earlier c.args.gone c.args.s.now c.requires c.count_boxes-front.ensures)

pub count_boxes-boxes-requires : goal.count_boxes-boxes-requires
count_boxes-boxes-requires c = part_there c.args.earlier c.args.gone c.args.s.now c.requires _ (gap_begins c.args.earlier c.args.gone c.args.s.now c.requires c.count_boxes-front.ensures)

pub overflow_add-result : goal.overflow_add-result
overflow_add-result c =
    let a = c.args in
    omega (arith, gap_begins a.earlier a.gone a.s.now c.requires c.count_boxes-front.ensures, gap_counted a.earlier a.gone a.s.now c.requires c.count_boxes-front.ensures c.count_boxes-boxes.ensures)

pub overflow_mul-result-2 : goal.overflow_mul-result-2
overflow_mul-result-2 c =
    let a = c.args in
    omega (arith, gap_begins a.earlier a.gone a.s.now c.requires c.count_boxes-front.ensures, gap_counted a.earlier a.gone a.s.now c.requires c.count_boxes-front.ensures c.count_boxes-boxes.ensures)

pub overflow_add-result-2 : goal.overflow_add-result-2
overflow_add-result-2 c =
    let a = c.args in
    omega (arith, gap_begins a.earlier a.gone a.s.now c.requires c.count_boxes-front.ensures, gap_counted a.earlier a.gone a.s.now c.requires c.count_boxes-front.ensures c.count_boxes-boxes.ensures)

pub returns : goal.returns
returns c =
    let a = c.args in
    let begins = gap_begins a.earlier a.gone a.s.now c.requires c.count_boxes-front.ensures in
    let counted = gap_counted a.earlier a.gone a.s.now c.requires c.count_boxes-front.ensures c.count_boxes-boxes.ensures in
    (begins, omega arith, counted)
