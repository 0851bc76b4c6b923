-- When lists are refused that are handed over as lists: the numbers that reading their bytes and a move of them give, in one chain.
-- Assumes nothing.
use mathlib.Core.List.{List}
use mathlib.Core.Bool.{not}
use Prim.Native.Nat.{ℕ}
use lib.ListN.{length}
use Rattle.policy.specs.Fields.{Limits}
use Rattle.policy.specs.Rules.{Rule, complete}
use Rattle.policy.specs.Refusals.{given, or_else, rules_refusal}
use Rattle.policy.specs.Move.{slots_of, room, Order, bad_count}

-- What reading gives of one list: 2 for its count, 4 for a rule, 5 unless it is complete.
unfoldable pub list_refusal : ℕ → List Rule → ℕ
list_refusal most l = or_else (given (bad_count most (length l)) 2) (or_else (rules_refusal l) (given (not (complete l)) 5))

-- A move of two lists: what reading gives of A, then of B, then 6 and 7. With 0 it is accepted and gives `moved`.
unfoldable pub move_refusal : Limits → Order → ℕ
move_refusal lim o =
    or_else (list_refusal lim.gate o.gate) (or_else (list_refusal lim.own o.own) (room lim o (slots_of o)))
