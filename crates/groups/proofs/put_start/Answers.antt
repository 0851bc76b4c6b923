-- `put_start` meets its contract: the deny rule's box is the start. Assumes nothing.
use Rattle.policy.specs.Values.{region_of}
use Rattle.groups.proofs.Starts.{started_alone}
use Rattle.groups.proofs.put_start.Goals as goal

pub returns : goal.returns
returns c =
    let box = c.box_at-start in
    started_alone c.args.rules.now c.args.i (region_of box.result) c.args.pieces.now c.requires.2 box.ensures c.requires.1 c.put_box.ensures
