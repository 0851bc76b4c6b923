-- A packet traced on a sheet that passes check: what each search finds tells the rule that decides. Assumes nothing.
use mathlib.Core.Path.{◌≡◌, refl, ap, sym, ◌∙◌}
use mathlib.Core.List.{List, []}
use mathlib.Core.Bool.{Bool, true, false}
use Prim.Native.Nat.{ℕ, ◌+◌, ◌<◌}
use native.Mathlib.Omega.{arith}
use lib.ListN.{length, drop}
use borrow.Author.Tests.{eqb-true, eqb-false}
use Rattle.policy.specs.Fields.{limits}
use Rattle.policy.specs.Ranges.{Region, Packet}
use Rattle.policy.specs.Rules.{Rule, rule, is_allow, found, first}
use Rattle.policy.specs.Refusals.{accepted}
use Rattle.policy.specs.Move.{Pair, together}
use Rattle.policy.specs.Demands.{group_at}
use Rattle.policy.specs.Origins.{HasOrigin, place_of}
use Rattle.policy.specs.Steps.{box_number, regions}
use Rattle.policy.proofs.Origins.{first_found, first_nothing}
use Rattle.wire.proofs.Items.{items_count}
use Rattle.sheet.specs.Steps.{pair_at}
use Rattle.sheet.specs.declared.PairLayout.{PairLayout}
use Rattle.sheet.proofs.Outcomes.{readable}
use Rattle.promises.specs.Calls.{check_of}
use Rattle.filter.proofs.Lists.{found_small}
use Rattle.origins.specs.Steps.{Checked, place_in, Denies, front_of, Holds, trace_heard, GateTraced, Traced, TraceSmall}
use Rattle.origins.specs.declared.Run.{Run}
use Rattle.origins.specs.declared.Trace.{Trace}
use Rattle.origins.specs.declared.Trace.TheVariants.{Gate, Own, Nowhere}
use Rattle.origins.proofs.Searches.{number_within, regions-length}
use Rattle.origins.proofs.Tracing.{gate_length, own_length}
use Rattle.origins.proofs.Deciding.{good, gate_clean, has_box, own_has, by_gate, by_own, by_nothing, decided}

-- As many boxes of a run as of rules whose boxes they are.
pub run_count : {size : ℕ} {read : List ℕ → Region} {s : List ℕ} {run : Run} (rules : List Rule) → Holds size read s run (regions rules) → run.count ≡ length rules
run_count {read = read} {s = s} {run = run} rules h = sym (items_count run.step read run.count (drop run.from s)) ∙ (ap length h.are ∙ regions-length rules)

-- A sheet whose pair it is: how many rules and boxes there are.
module _ {s : List ℕ} {l : PairLayout} (c : Checked s l) {q : Pair} (same : pair_at l s ≡ q) where
  pub gate_count_lem : length q.order.gate ≡ l.order.gate
  gate_count_lem = ap (λ (x : Pair). length x.order.gate) (sym same) ∙ gate_length c

  pub own_count_lem : length q.order.own ≡ l.order.own
  own_count_lem = ap (λ (x : Pair). length x.order.own) (sym same) ∙ own_length c

  pub boxes_count_lem : l.boxes ≡ length (together q.groups)
  boxes_count_lem = c.laid.boxes_are ∙ ap (λ (x : Pair). length (together x.groups)) same

module _ (s : List ℕ) (q : Pair) (checks : check_of limits s ≡ accepted q) (p : Packet) where
  -- a trace's numbers are those of a place of the cell list
  pub traced_small : (t : Trace) → Traced p q t → TraceSmall t
  unfolding trace_heard GateTraced TraceSmall HasOrigin place_of
  traced_small (Gate rule number place) x =
      let d = decided s q checks p _ (sym x.says) in
      let g = readable limits.gate _ (good s q checks).gate in
      (omega (arith, d.has.0, g.many), omega (arith, d.place, d.back), d.place)
  traced_small (Own passed rule place action) x =
      let d = decided s q checks p _ (sym x.says) in
      let g = readable limits.own _ (good s q checks).own in
      let a = readable limits.gate _ (good s q checks).gate in
      let f = found_small p q.order.gate passed 1 (gate_clean s q checks).0 x.gate in
      (omega (arith, f.0, a.many), omega (arith, d.has, g.many), d.place, d.action)
  traced_small Nowhere x = tt

  -- A's boxes are searched.
  module _ (i : ℕ) (is : i ≡ box_number p (regions q.order.gate)) where
    pub nowhere : i ≡ length q.order.gate → Traced p q Nowhere
    unfolding trace_heard GateTraced
    nowhere e =
        let f = first_nothing 0 p q.order.gate (omega (arith, is, e)) in
        record { says = sym (by_nothing s q checks p f); gate = f }

    module _ (some : i ≡ length q.order.gate → ⊥) where
      pub gate_there : i < length q.order.gate
      gate_there = omega (arith, number_within p (regions q.order.gate), is, regions-length q.order.gate)

      gate_decides : (r : Rule) → r ≡ place_in q.order.gate i → first p q.order.gate ≡ found i r.action
      gate_decides r e =
          let f = first_found 0 p q.order.gate (rule [] 0) (omega (arith, is, gate_there)) in
          let z : 0 + box_number p (regions q.order.gate) ≡ i = omega (arith, is) in
          f ∙ rw (z, ← is, ← e) refl

      -- the rule that is found allows, or else it denies
      module _ {r : Rule} (read : r ≡ place_in q.order.gate i) {t : Bool} (tells : t ≡ is_allow r) where
        pub gate_allows : t ≡ true → first p q.order.gate ≡ found i 1
        gate_allows e = gate_decides r read ∙ ap (found i) (eqb-true r.action 1 (sym tells ∙ e))

        pub gate_drops : t ≡ false → first p q.order.gate ≡ found i 0
        gate_drops e =
            let decides = gate_decides r read in
            let h = found_small p q.order.gate i r.action (gate_clean s q checks).0 decides in
            let other = eqb-false r.action 1 (sym tells ∙ e) in
            let z : r.action ≡ 0 = omega (arith, h.1, other) in
            decides ∙ ap (found i) z

  -- B's, where A allows.
  module _ {j : ℕ} (allowed : first p q.order.gate ≡ found j 1) (i : ℕ) (is : i ≡ box_number p (regions q.order.own)) where
    pub own_there : i < length q.order.own
    own_there = omega (arith, own_has s q checks p j allowed, is)

    pub own_traced : (r : Rule) → r ≡ place_in q.order.own i → (boxes : ℕ) → boxes ≡ length (together q.groups) → Traced p q (Own j i (boxes + i) r.action)
    unfolding trace_heard GateTraced place_of
    own_traced r e boxes are = record { says = rw (are, e) (sym (by_own s q checks p j allowed i is)); gate = allowed }

  -- The group's, where A drops.
  module _ {j : ℕ} (dropped : first p q.order.gate ≡ found j 0) where
    pub dropped_denies : Denies q j
    unfolding HasOrigin
    dropped_denies = let h = has_box s q checks p j dropped in (h.0, h.1)

    pub gate_traced : (front b : ℕ) → front ≡ front_of q j → b ≡ box_number p (group_at q j) → Traced p q (Gate j b (front + b))
    unfolding trace_heard GateTraced place_of
    gate_traced front b f e = record { says = rw (f, e) (sym (by_gate s q checks p j dropped)); gate = dropped }

    -- and its numbers are small
    module _ (front b : ℕ) (before : front ≡ front_of q j) (is : b ≡ box_number p (group_at q j)) where
      pub gate_small : TraceSmall (Gate j b (front + b))
      gate_small = traced_small _ (gate_traced front b before is)

      pub gate_few : front + b < limits.total
      unfolding TraceSmall
      gate_few = gate_small.2
