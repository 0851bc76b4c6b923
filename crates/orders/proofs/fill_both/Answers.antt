-- `fill_both` leaves both contents and zeros behind them. Assumes nothing.
use mathlib.Core.Path.{refl, ap}
use mathlib.Core.List.{List, ◌++◌}
use Prim.Native.Nat.{ℕ}
use lib.ListN.{length, drop}
use Rattle.orders.proofs.Joins.{filled_both}
use Rattle.orders.proofs.fill_both.Goals as goal

pub returns : goal.returns
returns c =
    let a = c.args in
    let copied : List ℕ = c.copy_from_slice.new.self ++ drop (length a.first.now) a.out.now in
    filled_both a.out.now a.first.now a.second.now copied c.fill.new.out (length a.first.now) a.end refl c.requires.0 c.requires.1
    (ap (λ (l : List ℕ). l ++ drop (length a.first.now) a.out.now) c.copy_from_slice.ensures.after) c.fill.ensures
