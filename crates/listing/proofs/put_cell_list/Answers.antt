-- `put_cell_list` meets its contract. Assumes nothing.
use native.Mathlib.Omega.{arith}
use mathlib.Core.Path.{refl}
use Rattle.sheet.proofs.Parts.{bytes_of}
use Rattle.listing.proofs.Listing.{cell_put}
use Rattle.listing.proofs.put_cell_list.Goals as goal

pub returns : goal.returns
returns c =
    let p = c.requires.0 in
    let put = c.put_bytes-end.ensures in
    cell_put p (bytes_of c.args.sheet.now c.type_inv.sheet) c.args.out.now _ _ _ _ _ _ _ refl put.0 (omega (arith, put.0, p.lists.own_end, p.total_limit)) c.requires.1
    c.put_count.ensures c.deny_groups.ensures put.1 c.zero.ensures
