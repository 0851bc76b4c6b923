-- `store_part` meets its contract: the copy and the fields over it are the part's bytes. Assumes nothing.
use borrow.Author.Rules.{rules}
use mathlib.Core.Path.{◌≡◌, ◌∙◌}
use Prim.Native.Nat.{◌*◌}
use native.Mathlib.Omega.{arith}
use lib.ListN.{length}
use Rattle.lists.proofs.Parts.{put_part}
use Rattle.policy.specs.Fields.{fields, box_size}
use Rattle.policy.specs.Values.{region_of}
use Rattle.policy.proofs.Values.{ranges-length}
use Rattle.groups.proofs.Stores.{stored_in, stored_past}
use Rattle.groups.proofs.Parts.{part_stored}
use Rattle.groups.proofs.store_part.Goals as goal
use Rattle.groups.proofs.store_part.Goals.{then-m-lt-PIECES_MOST, else-m-lt-PIECES_MOST}

pub returns : goal.returns
returns c =
    let a = c.args in
    let l : length a.part.low ≡ fields = search rules in
    let h : length a.part.high ≡ fields = search rules in
    let full = ranges-length a.part.low a.part.high (cc) ∙ l in
    elim c.if-m-lt-PIECES_MOST.branch [
      | then-m-lt-PIECES_MOST w ↦ rw w.out-is
          (stored_in a.out.now w.put_fields.new.out a.m (region_of a.part) w.if-m-lt-PIECES_MOST.true
          (part_stored a.k (region_of a.part) full a.piece.now a.out.now _ w.put_fields.new.out (box_size * a.m) c.requires.room.2 (omega arith) c.requires.later
          (put_part a.out.now w.copy_from_slice-then-m-lt-PIECES_MOST.new.self a.piece.now (box_size * a.m) _ (omega arith) (omega arith) (w.copy_from_slice-then-m-lt-PIECES_MOST.ensures.after ∙ w.copy_from_slice.ensures.after))
          w.put_fields.ensures))
      | else-m-lt-PIECES_MOST w ↦ rw w.out-is (stored_past a.out.now a.m (region_of a.part) w.if-m-lt-PIECES_MOST.false)
    ]
