-- `is_within` meets its contract. Assumes nothing.
use Rattle.std.proofs.Common.{ℕ, ◌+◌, ◌-◌, ◌%◌, ◌^◌, arith}
use Rattle.policy.specs.Values.{range_of}
use Rattle.filter.proofs.Insides.{wrapped_within}
use Rattle.filter.proofs.is_within.Goals as goal

pub returns : goal.returns
returns c =
    let a = c.args in
    let w : ℕ = (a.x + (2 ^ 32 - a.r.low)) % 2 ^ 32 in
    wrapped_within a.x w (range_of a.r) c.requires (omega arith) (omega arith) (omega arith)
