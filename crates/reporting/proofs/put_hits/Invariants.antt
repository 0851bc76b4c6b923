-- `put_hits` meets its contract. Assumes nothing.
use mathlib.Core.Path.{◌≡◌}
use lib.ListN.{drop}
use lib.Seq.{sets}
use Rattle.load.specs.Packets.{hits_in}
use Rattle.reporting.specs.Report.{hits_size}
use Rattle.reporting.proofs.Hits.{padded}
use Rattle.reporting.proofs.put_hits.Given as goal

abbrev pub invariant-loop-place : goal.invariant-loop-place
invariant-loop-place l =
    let all = padded hits_size (hits_in l.readings.places l.readings.earlier.now l.readings.later.now) in
    sets l.front l.place (drop l.place all) ≡ sets l.initial.front 0 all
