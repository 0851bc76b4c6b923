-- `gate_list` meets its contract. Assumes nothing.
use Rattle.std.proofs.lemmas.Result.{err_from_is_err_and}
use Rattle.promises.specs.Calls.{gate_bytes}
use Rattle.listing.proofs.Listing.{gate_put, list_refused, list_written}
use Rattle.listing.proofs.gate_list.Goals as goal

pub returns-in_err-checked_with_room : goal.returns-in_err-checked_with_room
returns-in_err-checked_with_room c =
    let refused = err_from_is_err_and c.from_residual.result c.from_residual.ensures.1 in
    rw (refused.1, refused.2) (list_refused gate_bytes c.in_err-checked_with_room.ensures)

pub returns : goal.returns
returns c =
    let checked = c.in_ok-checked_with_room.ensures in
    list_written gate_bytes checked (gate_put _ c.args.out.now _ _ _ checked.read.laid.1 c.allow_all.ensures c.put_count.ensures c.put_rule.ensures)
