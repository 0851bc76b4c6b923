-- `Box::high_part` meets its contract, by the range that the field has. Assumes nothing.
use borrow.Author.Rules.{rules}
use mathlib.Core.Path.{◌≡◌}
use lib.ListN.{length}
use Rattle.policy.specs.Fields.{fields}
use Rattle.policy.proofs.Values.{ranges_at}
use Rattle.policy.proofs.Box.high_part.Goals as goal

pub returns : goal.returns
returns c =
    let b = c.args.self in
    let l : length b.low ≡ fields = search rules in
    let h : length b.high ≡ fields = search rules in
    rw (ranges_at b.low b.high c.args.k (cc), ← c.value_at-high.ensures) c.narrow.ensures
