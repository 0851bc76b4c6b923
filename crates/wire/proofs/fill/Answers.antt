-- `fill` meets its contract: content copied to the front, then zero behind it. Assumes nothing.
use native.Mathlib.Omega.{arith}
use mathlib.Core.Path.{◌≡◌, refl, sym, ◌∙◌}
use lib.ListN.{length}
use Rattle.lists.proofs.Parts.{copied_sets}
use Rattle.wire.proofs.Buffers.{filled_is}
use Rattle.wire.proofs.fill.Goals as goal

pub returns : goal.returns
returns c =
    let a = c.args in
    let n : c.put_bytes-n.result ≡ length a.content.now = omega arith in
    filled_is a.content.now a.out.now _ _ _ a.end refl (omega arith) (omega arith)
    (c.put_bytes-n.ensures.1 ∙ sym (copied_sets a.out.now a.content.now (omega arith)))
    (rw n at c.zero.ensures)
