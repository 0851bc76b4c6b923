-- `put_totals` meets its contract. Assumes nothing.
use native.Mathlib.Omega.{arith}
use mathlib.Core.Path.{◌≡◌, refl, ap, sym, ◌∙◌}
use mathlib.Core.List.{List, ◌++◌}
use Prim.Native.Nat.{ℕ}
use lib.ListN.{drop}
use Rattle.lists.proofs.Lists.{sets-parts}
use Rattle.load.specs.Steps.{load_value}
use Rattle.reporting.specs.Report.{totals_size, totals_of}
use Rattle.reporting.proofs.put_totals.Goals as goal

pub returns : goal.returns
unfolding totals_of
returns c =
    let totals : List ℕ = c.args.totals.now in
    let all : List ℕ = totals_of (load_value c.args.t) in
    let put : c.copy_from_slice.new.self ≡ all = c.copy_from_slice.ensures.after ∙ rw (← c.gain-gain.ensures) refl in
    ap (λ (front : List ℕ). front ++ drop totals_size totals) put ∙ sym (sets-parts totals 0 all (omega (arith, c.requires)))
