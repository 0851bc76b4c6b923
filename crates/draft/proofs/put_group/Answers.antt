-- `put_group` meets its contract. Assumes nothing.
use Rattle.draft.proofs.Sheets.{group_put}
use Rattle.draft.proofs.put_group.Goals as goal

pub returns : goal.returns
returns c =
    let a = c.args in
    group_put a.out.now c.put_count.new.out c.put_bytes.new.out a.boxes.now a.n
    c.put_count.ensures c.put_bytes.ensures.1
