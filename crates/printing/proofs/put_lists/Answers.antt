-- `put_lists`: a move's answer is within the sheet that it is lent. Assumes nothing.
use Rattle.std.proofs.Common.{rules, arith, sym, length-take-le}
use Rattle.sheet.specs.Pairs.{pair_bytes, pair_size}
use Rattle.promises.proofs.Lengths.{call_length}
use Rattle.printing.proofs.put_lists.Goals as goal

pub slice_bounds-sheet-end : goal.slice_bounds-sheet-end
slice_bounds-sheet-end c =
    let h = call_length pair_bytes pair_size _ _ _ c.move_order.ensures (search rules) _ c.in_ok-n.was in
    omega arith

pub slice_bounds-pair-end : goal.slice_bounds-pair-end
slice_bounds-pair-end c =
    let h = call_length pair_bytes pair_size _ _ _ c.move_order.ensures (search rules) _ c.in_ok-n.was in
    sym (length-take-le _ _ (omega arith))
