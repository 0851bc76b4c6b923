-- `put_values` meets its contract. Assumes nothing.
use borrow.Author.Rules.{rules}
use native.Mathlib.Omega.{arith}
use mathlib.Core.Path.{◌≡◌}
use lib.ListN.{length}
use Rattle.lists.proofs.Parts.{put_part}
use Rattle.policy.specs.Fields.{fields}
use Rattle.records.proofs.put_values.Goals as goal

pub returns : goal.returns
returns c =
    let a = c.args in
    let l : length a.values ≡ fields = search rules in
    put_part a.numbers.now c.copy_from_slice.new.self a.values a.at _ (omega arith) (omega arith) c.copy_from_slice.ensures.after
