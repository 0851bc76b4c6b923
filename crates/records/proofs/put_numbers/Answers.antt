-- `put_numbers` meets its contract: the lows, the highs and the action are stored one behind the other. Assumes nothing.
use borrow.Author.Rules.{rules}
use lib.ListN.{length}
use mathlib.Core.Path.{◌≡◌}
use Rattle.policy.specs.Fields.{fields}
use Rattle.records.proofs.Calls.{numbers_put}
use Rattle.records.proofs.put_numbers.Goals as goal

pub returns : goal.returns
returns c =
    let a = c.args in
    let b = a.r.bounds in
    let l : length b.low ≡ fields = search rules in
    let h : length b.high ≡ fields = search rules in
    rw (c.put_values-2.ensures, c.put_values.ensures) (numbers_put a.numbers.now b.low b.high a.r.action l h)
