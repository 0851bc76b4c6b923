-- `add_packets` meets its contract: the loop's invariant says what is left of the packets. Assumes nothing.
use Rattle.load.proofs.Blocks.{left_next, left_none}
use Rattle.load.proofs.add_packets.Goals as goal

pub loop-bytes-preserved : goal.loop-bytes-preserved
loop-bytes-preserved c =
    let one = c.load_one.ensures in
    left_next _ _ _ c.loop-bytes.invariant _ c.in-Some.bytes c.in-Some.ensures.steps c.packet_at.ensures one.0 one.1 c.add-sum.ensures

pub returns : goal.returns
returns c = left_none _ _ _ c.loop-bytes.invariant _ c.in-None.ensures.steps
