-- `add_packets` meets its contract: the loop's invariant says what is left of the packets. Assumes nothing.
use Rattle.sheet.specs.Steps.{pair_at}
use Rattle.load.specs.Steps.{load_value}
use Rattle.load.proofs.Blocks.{Left}
use Rattle.load.proofs.add_packets.Given as goal

abbrev pub invariant-loop-bytes : goal.invariant-loop-bytes
invariant-loop-bytes l = Left (pair_at l.sheet.sheet.layout l.sheet.sheet.bytes.now) (load_value l.initial.sum) l.block (load_value l.sum) l.bytes-iterator
