-- `put_origin` meets its contract. Assumes nothing.
use Rattle.std.proofs.Common.{◌≡◌, ℕ, List, [], ◌∷◌, ◌++◌, drop, ap, sym, ◌∙◌, arith}
use Rattle.lists.proofs.Lists.{sets-parts}
use Rattle.origins.specs.Origin.{origin_size}
use Rattle.origins.proofs.put_origin.Goals as goal

pub returns : goal.returns
returns c =
    let a = c.args in
    let all : List ℕ = a.which ∷ a.rule ∷ a.number ∷ [] in
    let put : c.copy_from_slice.new.self ≡ all = c.copy_from_slice.ensures.after in
    ap (λ (front : List ℕ). front ++ drop origin_size a.numbers.now) put ∙ sym (sets-parts a.numbers.now 0 all (omega (arith, c.requires.0)))
