-- `verdict_number` meets its contract: a verdict is turned into its number. Assumes nothing.
use Rattle.std.proofs.Common.{◌∙◌, ap, sym}
use Rattle.filter.specs.Lookup.{verdict, lookup_number}
use Rattle.filter.proofs.verdict_number.Goals as goal

pub returns-in-Ok : goal.returns-in-Ok
unfolding lookup_number
returns-in-Ok c = ap (λ v. lookup_number (verdict v)) (sym c.in-Ok.is)

pub returns-in-Err : goal.returns-in-Err
unfolding lookup_number
returns-in-Err c = c.refused_number.ensures ∙ ap (λ v. lookup_number (verdict v)) (sym c.in-Err.is)
