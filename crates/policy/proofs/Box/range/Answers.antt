-- `Box::range` meets its contract. Assumes nothing.
use borrow.Author.Rules.{rules}
use mathlib.Core.Path.{◌≡◌, sym}
use lib.ListN.{length}
use Rattle.policy.specs.Fields.{fields}
use Rattle.policy.proofs.Values.{ranges_at}
use Rattle.policy.proofs.Box.range.Goals as goal

pub returns : goal.returns
returns c =
    let b = c.args.self in
    let l : length b.low ≡ fields = search rules in
    let h : length b.high ≡ fields = search rules in
    sym (ranges_at b.low b.high c.args.k (cc))
