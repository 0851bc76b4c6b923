-- The theorems of specs/Theorems.antt. Assumes nothing.
use Rattle.std.proofs.Common.{[], ◌∷◌, refl, arith}
use Rattle.policy.specs.Rules.{first}
use Rattle.policy.specs.Move.{cell_list}
use Rattle.load.specs.Load.{forwarded_by, hits_between}
use Rattle.load.specs.Theorems.{LoadAppendTheorem, BlocksTheorem, PacketsTheorem, AfterTheorem, ForwardedTheorem, GainTheorem, HitsTheorem}
use Rattle.load.proofs.Sums.{loads_append}
use Rattle.load.proofs.Gains.{lowest_gain}
use Rattle.load.proofs.Packets.{packets_inside}
use Rattle.load.proofs.Blocks.{blocks_added}
use Rattle.load.proofs.Traces.{pair_forwards, place_counted}

pub load-append : LoadAppendTheorem
load-append = loads_append

pub blocks_as_one : BlocksTheorem
blocks_as_one = blocks_added

pub packets_in_limits : PacketsTheorem
packets_in_limits = packets_inside

pub after_is_list_place : AfterTheorem
after_is_list_place s q checks p h = place_counted s q checks p (first p (cell_list q)) refl h

pub forwarded_same : ForwardedTheorem
unfolding forwarded_by
forwarded_same s q checks [] = refl
forwarded_same s q checks (p ∷ ps) = rw (pair_forwards s q checks p, forwarded_same s q checks ps) refl

pub gain_lowest : GainTheorem
gain_lowest = lowest_gain

pub hits_between_lem : HitsTheorem
unfolding hits_between
hits_between_lem start hits h = omega arith
