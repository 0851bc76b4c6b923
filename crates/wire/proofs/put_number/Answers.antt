-- `put_number` meets its contract: the last bytes of the number's four are stored. Assumes nothing.
use mathlib.Core.Path.{ap, ◌∙◌}
use lib.Seq.{sets}
use Rattle.wire.proofs.Numbers.{width_most, last_bytes}
use Rattle.wire.proofs.put_number.Goals as goal

pub overflow_sub-w : goal.overflow_sub-w
overflow_sub-w c = width_most c.args.w c.requires.1

pub returns : goal.returns
returns c =
    let a = c.args in
    c.put_bytes.ensures.1 ∙ ap (sets a.out.now a.at) (last_bytes a.w a.x c.to_be_bytes-bytes.result (width_most a.w c.requires.1) c.to_be_bytes-bytes.ensures)
