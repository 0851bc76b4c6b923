-- `Box::shares` meets its contract: the ranges meet in every field. Assumes nothing.
use Rattle.std.proofs.Common.{rules, tests, ◌≡◌, ℕ, Bool, length, ◌∙◌, sym, refl, ap, arith}
use Rattle.std.proofs.lemmas.Iterator.{YieldsList-from_range}
use Rattle.std.proofs.lemmas.Iterator.Search.{all_from_yields_List}
use Rattle.policy.specs.Fields.{fields}
use Rattle.policy.specs.Ranges.{range, Region}
use Rattle.policy.specs.Cut.{meets}
use Rattle.policy.specs.Values.{region_of}
use Rattle.policy.specs.Steps.{range_at}
use Rattle.policy.proofs.Fields.{all_numbers}
use Rattle.policy.proofs.Values.{ranges-length}
use Rattle.policy.proofs.Box.shares.Goals as goal

pub returns : goal.returns
returns c =
    let q = c.args in
    let d : Region = region_of q.self in
    let a : Region = region_of q.a in
    let test : ℕ → Bool = λ k. meets (range_at d k) (range_at a k) in
    let low : length q.self.low ≡ fields = search rules in
    let high : length q.self.high ≡ fields = search rules in
    let low' : length q.a.low ≡ fields = search rules in
    let high' : length q.a.high ≡ fields = search rules in
    let every : length d ≡ fields = ranges-length q.self.low q.self.high (cc) ∙ low in
    let every' : length a ≡ fields = ranges-length q.a.low q.a.high (cc) ∙ low' in
    all_from_yields_List test _ _ c.all.result c.all.ensures.ran (YieldsList-from_range 0 fields (length d) refl (sym every)) (λ x b q k. search (rules, tests))
    ∙ all_numbers meets (range 0 0) (range 0 0) test d a 0 (every ∙ sym every') (λ j. ap test (omega arith))
