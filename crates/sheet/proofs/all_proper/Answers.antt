-- `all_proper` meets its contract: every box is proper. Assumes nothing.
use Rattle.std.proofs.Common.{rules, tests, ℕ, Bool, drop, ◌+◌, ◌*◌, ◌∙◌, refl, ap, arith}
use Rattle.std.proofs.lemmas.Iterator.{YieldsList-from_range}
use Rattle.std.proofs.lemmas.Iterator.Search.{all_from_yields_List}
use Rattle.policy.specs.Fields.{count_size, box_size, highest}
use Rattle.policy.specs.Ranges.{proper}
use Rattle.wire.specs.Records.{box_in}
use Rattle.sheet.proofs.Loops.{all_items}
use Rattle.sheet.proofs.all_proper.Goals as goal

pub returns : goal.returns
returns c =
    let s = c.args.s.now in
    let test : ℕ → Bool = λ i. (proper highest) (box_in (drop (count_size + box_size * i) s)) in
    all_from_yields_List test _ _ c.all.result c.all.ensures.ran (YieldsList-from_range 0 c.args.n c.args.n refl (omega arith)) (λ x b q k. search (rules, tests))
    ∙ all_items box_size (λ t. box_in t) (proper highest) test c.args.n 0 count_size s (λ i. ap test (omega arith))
