-- `deny_boxes` meets its contract: what is left of the boxes leads to all of them. Assumes nothing.
use native.Mathlib.Omega.{arith}
use Prim.Native.Nat.{◌-◌}
use Rattle.sheet.proofs.Parts.{bytes_of}
use Rattle.listing.proofs.Listing.{denials_next, denials_all}
use Rattle.listing.proofs.deny_boxes.Goals as goal

pub loop-i-preserved : goal.loop-i-preserved
loop-i-preserved c =
    let s = c.args.sheet.now in
    denials_next s _ (bytes_of s c.type_inv.sheet) (omega arith) (omega arith) c.loop-i.invariant c.box_at-bounds.ensures c.put_rule.ensures (omega arith) (omega arith)

pub returns : goal.returns
returns c = let h = c.loop-i in denials_all (c.args.n - h.i) _ (omega arith) h.invariant
