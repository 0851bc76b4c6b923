-- `Box::is_full` meets its contract: the range is full in every field. Assumes nothing.
use Rattle.std.proofs.Common.{rules, tests, ◌≡◌, ℕ, Bool, length, ◌∙◌, sym, refl, ap, arith, get_or}
use Rattle.std.proofs.lemmas.Iterator.{YieldsList-from_range}
use Rattle.std.proofs.lemmas.Iterator.Search.{all_from_yields_List}
use Rattle.policy.specs.Fields.{fields, highest}
use Rattle.policy.specs.Ranges.{range, Region, full_range}
use Rattle.policy.specs.Values.{region_of}
use Rattle.policy.specs.Steps.{range_at}
use Rattle.policy.proofs.Fields.{all_numbers}
use Rattle.policy.proofs.Values.{ranges-length}
use Rattle.policy.proofs.Box.is_full.Goals as goal

pub returns : goal.returns
unfolding highest
returns c =
    let q = c.args in
    let b : Region = region_of q.self in
    let test : ℕ → Bool = λ k. full_range (get_or highest k 0) (range_at b k) in
    let low : length q.self.low ≡ fields = search rules in
    let high : length q.self.high ≡ fields = search rules in
    all_from_yields_List test _ _ c.all.result c.all.ensures.ran (YieldsList-from_range 0 fields (length highest) refl refl) (λ x b q k. search (rules, tests))
    ∙ all_numbers full_range 0 (range 0 0) test highest b 0 (sym (ranges-length q.self.low q.self.high (cc) ∙ low)) (λ j. ap test (omega arith))
