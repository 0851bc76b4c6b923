-- `cut_piece` meets its contract: a piece that shares a packet with the allow is cut, any other is kept. Assumes nothing.
use mathlib.Core.Path.{sym, ◌∙◌}
use native.Mathlib.Omega.{arith}
use Rattle.policy.specs.Values.{region_of}
use Rattle.policy.proofs.Rest.{cut_whole}
use Rattle.groups.proofs.cut_piece.Goals as goal

pub cut_box-requires : goal.cut_box-requires
cut_box-requires c =
    let d = c.box_at-d in
    record { room = (c.requires.room.0, c.requires.room.1, sym c.shares.ensures ∙ c.if-shares.true); written = rw d.ensures c.requires.written }

pub store_part-requires : goal.store_part-requires
store_part-requires c =
    let d = c.box_at-d in
    record { room = (c.requires.room.0, omega arith, c.requires.written.0, omega arith); later = rw d.ensures c.requires.written.1 }

pub returns-then-shares : goal.returns-then-shares
returns-then-shares c = rw (← c.box_at-d.ensures) c.cut_box.ensures

pub returns : goal.returns
returns c =
    let d = c.box_at-d in
    let whole = cut_whole (region_of d.result) (region_of c.args.a) (sym c.shares.ensures ∙ c.if-shares.false) in
    rw (← d.ensures, whole) c.store_part.ensures
