-- `first_touched` meets its contract: the pieces before the one found stay. Assumes nothing.
use Rattle.std.proofs.Common.{rules, tests}
use Rattle.std.specs.Prelude.{⊤}
use Rattle.std.proofs.lemmas.Iterator.{first_from_Range}
use Rattle.policy.specs.Values.{region_of}
use Rattle.groups.proofs.Passes.{Stays, untouched_found}
use Rattle.groups.proofs.first_touched.Goals as goal

pub returns : goal.returns
returns c =
    let stays = Stays c.args.pieces.now (region_of c.args.a) in
    rw c.unwrap_or.ensures (untouched_found c.find.result (first_from_Range _ _ _ c.find.result (λ _. ⊤) stays c.find.ensures.ran (λ x q h. tt) (λ x q h. search (rules, tests))))
