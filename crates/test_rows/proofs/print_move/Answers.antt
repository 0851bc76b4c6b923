-- `print_move`: a move's answer is within the sheet that it is lent. Assumes nothing.
use Rattle.std.proofs.Common.{rules, arith, sym, length-take-le}
use Rattle.sheet.specs.Pairs.{pair_bytes, pair_size}
use Rattle.promises.proofs.Lengths.{call_length}
use Rattle.test_rows.proofs.print_move.Goals as goal

pub slice_bounds-sheet-end : goal.slice_bounds-sheet-end
slice_bounds-sheet-end g c =
    let h = call_length pair_bytes pair_size _ _ _ c.move_order.ensures (search rules) _ c.in-Ok.is in
    omega arith

pub slice_bounds-print_boxes-end : goal.slice_bounds-print_boxes-end
slice_bounds-print_boxes-end g c =
    let h = call_length pair_bytes pair_size _ _ _ c.move_order.ensures (search rules) _ c.in-Ok.is in
    sym (length-take-le _ _ (omega arith))
