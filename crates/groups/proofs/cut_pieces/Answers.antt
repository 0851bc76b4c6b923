-- `cut_pieces` meets its contract: the loop's invariant says what is left of the pieces from piece i on. Assumes nothing.
use borrow.Author.Rules.{rules}
use mathlib.Core.Path.{◌≡◌, ◌∙◌}
use native.Mathlib.Omega.{arith}
use lib.ListN.{length}
use Prim.Native.Nat.{◌+◌, ◌-◌, ◌*◌}
use Rattle.policy.specs.Fields.{fields, box_size}
use Rattle.policy.proofs.Values.{ranges-length}
use Rattle.groups.proofs.Pieces.{piece_written, piece_read}
use Rattle.groups.proofs.Passes.{passing_next, passing_last}
use Rattle.groups.proofs.cut_pieces.Goals as goal

pub cut_piece-m-requires-clause-written : goal.cut_piece-m-requires-clause-written
cut_piece-m-requires-clause-written c = piece_written c.requires.standing (omega arith) c.loop-i.i c.loop-i-test.true _ (omega arith)

pub loop-i-preserved : goal.loop-i-preserved
loop-i-preserved c =
    let l : length c.args.a.low ≡ fields = search rules in
    let h : length c.args.a.high ≡ fields = search rules in
    let size : box_size * c.loop-i.i + box_size - box_size * c.loop-i.i ≡ box_size = omega arith in
    let read = piece_read c.requires.standing (omega arith) c.loop-i.i c.loop-i-test.true _ size in
    passing_next c.loop-i.invariant c.requires.standing (ranges-length c.args.a.low c.args.a.high (cc) ∙ l) (omega arith) c.loop-i-test.true (rw read at c.cut_piece-m.ensures)

pub returns : goal.returns
returns c = passing_last c.loop-i.invariant (omega arith)
