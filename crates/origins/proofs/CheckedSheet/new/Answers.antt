-- `new` meets its contract. Assumes nothing.
use Rattle.origins.proofs.Calls.{passes_check}
use Rattle.origins.proofs.CheckedSheet.new.Goals as goal

pub invariant_of-result : goal.invariant_of-result
invariant_of-result c = record { checked = passes_check c.in_ok-layout.ensures.0 }
