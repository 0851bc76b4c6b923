-- What is known of a sheet that reads well: where its two lists stand, and that their bytes are theirs. Assumes nothing.
use mathlib.Core.Path.{◌≡◌, ap, sym, ◌∙◌}
use mathlib.Core.List.{List, ◌++◌, append_assoc}
use Prim.Native.Nat.{ℕ, ◌+◌, ◌-◌, ◌≤◌}
use native.Mathlib.Omega.{arith}
use lib.ListN.{length, take, drop, take-append-drop}
use lib.Seq.{take_at, drop_at}
use Rattle.lists.specs.Lists.{Each}
use Rattle.policy.specs.Rules.{Rule}
use Rattle.policy.specs.Move.{Order}
use Rattle.wire.specs.Lists.{list_size, list_bytes}
use Rattle.wire.specs.Records.{records_bytes}
use Rattle.wire.proofs.Records.{RuleFits, rules_back}
use Rattle.wire.proofs.Counts.{count_behind}
use Rattle.wire.proofs.Lists.{list_bytes-length}
use Rattle.wire.specs.Numbers.{number_bytes}
use Rattle.policy.specs.Fields.{count_size, limits}
use Rattle.sheet.specs.Orders.{order_bytes}
use Rattle.sheet.specs.Steps.{rules_of, pair_at}
use Rattle.sheet.specs.declared.PairLayout.{PairLayout}
use Rattle.sheet.proofs.Accepted.{PairAccepted}
use Rattle.editing.proofs.Revised as revised

-- a list that bytes begin with, back from them
pub list_first : (l : List Rule) (rest : List ℕ) → Each RuleFits l → rules_of (length l) (list_bytes l ++ rest) ≡ l
unfolding list_bytes
list_first l rest fit =
    rw (append_assoc (number_bytes count_size (length l)) (records_bytes l) rest, count_behind (length l) (records_bytes l ++ rest)) (rules_back l rest fit)

module _ (sheet : List ℕ) {l : PairLayout} (a : PairAccepted (take l.end sheet) l) (inside : l.end ≤ length sheet) where
  abbrev s : List ℕ
  s = take l.end sheet

  abbrev o : Order
  o = (pair_at l s).order

  abbrev middle : ℕ
  middle = l.order.middle

  abbrev third : ℕ
  third = l.order.end

  pub known : revised.ListsKnown o l.order.gate l.order.own
  known = revised.lists_known a

  pub gate_long : length (list_bytes o.gate) ≡ middle
  gate_long = omega (arith, list_bytes-length o.gate known.gate.rules, known.gate_count, a.laid.lists.gate_end)

  pub own_long : length (list_bytes o.own) ≡ list_size l.order.own
  own_long = omega (arith, list_bytes-length o.own known.own.rules, known.own_count)

  -- the sheet's parts: A, B, section C, and what is behind them
  sheet_is : sheet ≡ list_bytes o.gate ++ (list_bytes o.own ++ (drop third s ++ drop l.end sheet))
  unfolding order_bytes
  sheet_is =
      sym (take-append-drop l.end sheet) ∙ ap (λ (x : List ℕ). x ++ drop l.end sheet) (sym (take-append-drop third s) ∙ ap (λ (x : List ℕ). x ++ drop third s) (sym a.lists_bytes))
      ∙ append_assoc (list_bytes o.gate ++ list_bytes o.own) (drop third s) (drop l.end sheet) ∙ append_assoc (list_bytes o.gate) (list_bytes o.own) (drop third s ++ drop l.end sheet)

  pub gate_bytes_lem : take middle sheet ≡ list_bytes o.gate
  gate_bytes_lem = ap (take middle) sheet_is ∙ take_at (list_bytes o.gate) (list_bytes o.own ++ (drop third s ++ drop l.end sheet)) middle gate_long

  pub own_bytes_lem : take (third - middle) (drop middle sheet) ≡ list_bytes o.own
  own_bytes_lem =
      ap (λ (x : List ℕ). take (third - middle) (drop middle x)) sheet_is
      ∙ ap (take (third - middle)) (drop_at (list_bytes o.gate) (list_bytes o.own ++ (drop third s ++ drop l.end sheet)) middle gate_long)
      ∙ take_at (list_bytes o.own) (drop third s ++ drop l.end sheet) (third - middle) (omega (arith, own_long, a.laid.lists.own_end))

  -- where they stand
  pub parts_there : (middle ≤ third) × (third ≤ l.end) × (l.from ≡ third + count_size) × (l.from ≤ l.end)
  parts_there = (
    omega (arith, a.laid.lists.own_end),
    omega (arith, a.laid.begin, a.laid.groups_end),
    a.laid.begin,
    omega (arith, a.laid.groups_end),
  )

  pub gate_there : (1 ≤ l.order.gate) × (l.order.gate ≤ limits.gate) × (middle ≤ length sheet) × (list_size l.order.gate ≤ l.end)
  gate_there =
      let t = parts_there in
      (known.gate_some, a.laid.lists.gate_limit, omega (arith, t.0, t.1), omega (arith, t.0, t.1, a.laid.lists.gate_end))

  pub gate_bytes-length : length (take middle sheet) ≡ list_size l.order.gate
  gate_bytes-length = ap length gate_bytes_lem ∙ gate_long ∙ a.laid.lists.gate_end

  pub own_there : (1 ≤ l.order.own) × (l.order.own ≤ limits.own) × (middle ≤ third) × (third ≤ length sheet)
  own_there = (known.own_some, a.laid.lists.own_limit, parts_there.0, omega (arith, parts_there.1))

  pub own_bytes-length : length (take (third - middle) (drop middle sheet)) ≡ list_size l.order.own
  own_bytes-length = ap length own_bytes_lem ∙ own_long
