-- `put_rule` meets its contract. Assumes nothing.
use borrow.Author.Rules.{rules}
use mathlib.Core.Path.{◌≡◌, ◌∙◌}
use lib.ListN.{length}
use Rattle.policy.specs.Fields.{fields}
use Rattle.policy.specs.Values.{rule_of}
use Rattle.policy.proofs.Values.{ranges-length}
use Rattle.wire.proofs.Steps.{rule_put}
use Rattle.wire.proofs.put_rule.Goals as goal

pub returns : goal.returns
returns c =
    let a = c.args in
    let b = a.r.bounds in
    let l : length b.low ≡ fields = search rules in
    let h : length b.high ≡ fields = search rules in
    rule_put a.out.now _ _ a.at (rule_of a.r) (ranges-length b.low b.high (cc) ∙ l) c.put_box.ensures c.put_number.ensures
