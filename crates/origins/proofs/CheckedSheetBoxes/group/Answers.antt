-- `group` meets its contract. Assumes nothing.
use borrow.Author.Rules.{rules}
use native.Mathlib.Omega.{arith}
use Rattle.origins.proofs.Tracing.{deny_record, earlier_inside, start_inside, group_front, group_run}
use Rattle.origins.proofs.CheckedSheetBoxes.group.Goals as goal

pub count_denies-earlier-requires : goal.count_denies-earlier-requires
count_denies-earlier-requires c = omega (arith, deny_record c.args.self.checked c.requires)

pub count_boxes-front-requires : goal.count_boxes-front-requires
count_boxes-front-requires c = earlier_inside c.args.self.checked c.requires c.count_denies-earlier.ensures

pub overflow_mul-start : goal.overflow_mul-start
overflow_mul-start c = let h = start_inside c.args.self.checked c.requires c.count_denies-earlier.ensures c.count_boxes-front.ensures in search rules

pub overflow_add-start : goal.overflow_add-start
overflow_add-start c = let h = start_inside c.args.self.checked c.requires c.count_denies-earlier.ensures c.count_boxes-front.ensures in search rules

pub overflow_mul-start-2 : goal.overflow_mul-start-2
overflow_mul-start-2 c = let h = start_inside c.args.self.checked c.requires c.count_denies-earlier.ensures c.count_boxes-front.ensures in search rules

pub overflow_add-start-2 : goal.overflow_add-start-2
overflow_add-start-2 c = let h = start_inside c.args.self.checked c.requires c.count_denies-earlier.ensures c.count_boxes-front.ensures in search rules

pub overflow_add-result : goal.overflow_add-result
overflow_add-result c = let h = start_inside c.args.self.checked c.requires c.count_denies-earlier.ensures c.count_boxes-front.ensures in search rules

pub count_at-requires : goal.count_at-requires
count_at-requires c = start_inside c.args.self.checked c.requires c.count_denies-earlier.ensures c.count_boxes-front.ensures

pub returns-clause-front : goal.returns-clause-front
returns-clause-front c = group_front c.args.self.checked c.requires c.count_denies-earlier.ensures c.count_boxes-front.ensures

pub returns-clause-run : goal.returns-clause-run
returns-clause-run c =
    group_run c.args.self.checked c.requires c.count_denies-earlier.ensures c.count_boxes-front.ensures c.count_at.ensures.0 (omega arith)
