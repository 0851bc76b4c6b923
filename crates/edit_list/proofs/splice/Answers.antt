-- `splice` meets its contract: four parts one behind another. Assumes nothing.
use mathlib.Core.Path.{refl}
use Rattle.edit_list.proofs.Splices.{splice_put}
use Rattle.edit_list.proofs.splice.Goals as goal

pub returns : goal.returns
returns c =
    let a = c.args in
    splice_put a.out.now a.s.now a.new.now c.put_count.new.out c.put_bytes.new.out c.put_bytes-end.new.out c.put_bytes-2.new.out
    a.count a.place a.taken _ _ c.put_bytes-end.result c.put_bytes-2.result refl refl c.requires.1
    c.put_count.ensures c.put_bytes.ensures.1 c.put_bytes-end.ensures.1 c.put_bytes-2.ensures.1
    c.put_bytes-end.ensures.0 c.put_bytes-2.ensures.0
