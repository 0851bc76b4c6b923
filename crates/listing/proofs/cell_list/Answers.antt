-- `cell_list` meets its contract. Assumes nothing.
use Rattle.std.proofs.lemmas.Result.{err_from_is_err_and}
use Rattle.promises.specs.Calls.{cell_bytes}
use Rattle.listing.proofs.Listing.{list_refused, list_written}
use Rattle.listing.proofs.cell_list.Goals as goal

pub returns-in_err-layout : goal.returns-in_err-layout
returns-in_err-layout c =
    let refused = err_from_is_err_and c.from_residual.result c.from_residual.ensures.1 in
    rw (refused.1, refused.2) (list_refused cell_bytes c.in_err-layout.ensures)

pub returns : goal.returns
returns c = list_written cell_bytes c.in_ok-layout.ensures c.put_cell_list.ensures
