-- `draft_all` meets its contract. Assumes nothing.
use native.Mathlib.Omega.{arith}
use mathlib.Core.Path.{◌≡◌}
use mathlib.Core.List.{List}
use Prim.Native.Nat.{ℕ, ◌-◌}
use lib.ListN.{length, take, drop}
use Rattle.lists.proofs.Parts.{tail_whole}
use Rattle.policy.specs.Fields.{count_size}
use Rattle.draft.proofs.draft_all.Goals as goal

pub returns : goal.returns
returns c =
    let list : List ℕ = c.args.s.now in
    let rules : take (length list - count_size) (drop count_size list) ≡ drop count_size list =
    tail_whole list count_size (omega (arith, c.requires.records)) in
    rw rules at c.draft_groups.ensures
