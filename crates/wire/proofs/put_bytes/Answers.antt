-- `put_bytes` meets its contract. Assumes nothing.
use native.Mathlib.Omega.{arith}
use mathlib.Core.Path.{refl}
use Rattle.lists.proofs.Parts.{put_part}
use Rattle.wire.proofs.put_bytes.Goals as goal

pub returns : goal.returns
returns c =
    let a = c.args in
    (refl, put_part a.out.now c.copy_from_slice.new.self a.content.now a.at _ (omega arith) c.requires c.copy_from_slice.ensures.after)
