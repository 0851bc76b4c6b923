-- `count_boxes` meets its contract: the boxes so far and those of the groups that are left are all. Assumes nothing.
use native.Mathlib.Omega.{arith}
use Prim.Native.Nat.{◌+◌, ◌-◌}
use lib.ListN.{drop}
use Rattle.kept.proofs.Runs.{boxes_turn, boxes_none}
use Rattle.kept.proofs.count_boxes.Goals as goal

pub loop-preserved : goal.loop-preserved
loop-preserved c =
    let h = c.loop in
    let n = boxes_turn (c.args.n - h.counter) (c.args.n - (h.counter + 1)) c.args.s.now h.at c.count_at-count.result (omega arith) c.count_at-count.ensures.0 in
    (omega arith, omega arith)

pub returns : goal.returns
returns c =
    let z = boxes_none (c.args.n - c.loop.counter) (drop c.loop.at c.args.s.now) (omega arith) in
    omega arith
