-- `checked` meets its contract. Assumes nothing.
use mathlib.Core.Path.{◌∙◌}
use Rattle.policy.specs.Fields.{work_size}
use Rattle.promises.proofs.Calls.{zeroed_same}
use Rattle.checking.proofs.checked.Goals as goal

pub returns : goal.returns
returns c =
    let x = c.compare-layout.ensures in
    (x.0, c.zero.ensures ∙ zeroed_same work_size _ _ x.1)
