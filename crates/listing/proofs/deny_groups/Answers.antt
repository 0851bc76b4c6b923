-- `deny_groups` meets its contract: what is left of the groups leads to all of them. Assumes nothing.
use native.Mathlib.Omega.{arith}
use Prim.Native.Nat.{◌-◌}
use Rattle.sheet.proofs.Parts.{bytes_of}
use Rattle.listing.proofs.Listing.{group_count_lem, groups_next, groups_all}
use Rattle.listing.proofs.deny_groups.Goals as goal

pub deny_boxes-requires : goal.deny_boxes-requires
deny_boxes-requires c =
    let counted = group_count_lem c.args.sheet.now c.loop.start {groups = c.args.groups} {i = c.loop.counter} c.count_at-n.ensures.0 (omega arith) in
    (omega arith, omega (arith, c.loop.invariant.2.long))

pub loop-preserved : goal.loop-preserved
loop-preserved c =
    let s = c.args.sheet.now in
    let h = c.loop in
    let counted = group_count_lem s h.start {groups = c.args.groups} {i = h.counter} c.count_at-n.ensures.0 (omega arith) in
    (omega arith, omega arith, groups_next s h.start c.count_at-n.ensures.0 (omega arith) (bytes_of s c.type_inv.sheet) (omega arith) h.invariant.2 c.deny_boxes.ensures)

pub returns : goal.returns
returns c = let h = c.loop in groups_all (c.args.groups - h.counter) _ (omega arith) h.invariant.2
