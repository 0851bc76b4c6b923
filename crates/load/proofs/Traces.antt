-- A traced packet's load. Assumes nothing.
use Rattle.std.proofs.Common.{◌≡◌, ℕ, zero, suc, ◌+◌, ◌≤◌, true, false, cond, eqb, List, [], ◌∷◌, length, sym, refl, ◌∙◌, subst, arith}
use Rattle.policy.specs.Fields.{limits}
use Rattle.policy.specs.Ranges.{Packet}
use Rattle.policy.specs.Rules.{Found, found, nothing, first_from, first, in_limits, forwards}
use Rattle.policy.specs.Refusals.{accepted}
use Rattle.policy.specs.Move.{Pair, gate_list, cell_list}
use Rattle.policy.proofs.Moves.{nothing_above, moved_pair_forwards}
use Rattle.sheet.specs.Steps.{pair_at}
use Rattle.sheet.specs.declared.PairLayout.{PairLayout}
use Rattle.promises.specs.Calls.{check_of}
use Rattle.promises.proofs.Demands.{limits_small, check_accepted}
use Rattle.origins.specs.Origin.{origin_of}
use Rattle.origins.specs.Steps.{Checked, trace_heard, GateTraced, Traced, TraceSmall}
use Rattle.origins.specs.declared.Trace.{Trace}
use Rattle.origins.specs.declared.Trace.TheVariants.{Gate, Own, Nowhere}
use Rattle.origins.proofs.Deciding.{gate_clean, cell_clean, inside_found, decided}
use Rattle.origins.proofs.Theorems.{own_rule_decided}
use Rattle.load.specs.Load.{tries_of, tries_after, forwarded_by, sum_of, load, load_of}
use Rattle.load.specs.Theorems.{PlaceCounted}
use Rattle.load.specs.Steps.{trace_load, Bounded}
use Rattle.load.proofs.Sums.{load_same}

module _ (s : List ℕ) (q : Pair) (checks : check_of limits s ≡ accepted q) (p : Packet) where
  -- Both pairs forward the same packets.
  pub pair_forwards : forwards p (gate_list q) (cell_list q) ≡ forwards p q.order.gate q.order.own
  pair_forwards =
      let g = gate_clean s q checks in
      subst (λ (x : Pair). forwards p (gate_list x) (cell_list x) ≡ forwards p q.order.gate q.order.own) (sym (check_accepted limits limits_small s q checks).moved)
      (moved_pair_forwards q.order p g.0 g.1)

  -- the gate's one rule has a packet inside the limits, and no other
  gate_passes : in_limits p ≡ true → first p (gate_list q) ≡ found 0 1
  unfolding first_from
  gate_passes h = rw h refl

  gate_misses : in_limits p ≡ false → first p (gate_list q) ≡ nothing
  unfolding first_from
  gate_misses h = rw h refl

  tries_after_lem : (n a : ℕ) → in_limits p ≡ true → first p (cell_list q) ≡ found n a → tries_after q p ≡ 1 + (n + 1)
  unfolding tries_of
  tries_after_lem n a h e = rw (gate_passes h, e) (omega arith)

  tries_none : in_limits p ≡ false → tries_after q p ≡ 0
  unfolding tries_of
  tries_none h = rw (gate_misses h) refl

  pub place_counted : (x : Found) → first p (cell_list q) ≡ x → in_limits p ≡ true → PlaceCounted q p
  place_counted (found n a) e h = record { place = n; action = a; finds = e; counted = tries_after_lem n a h e }
  place_counted nothing e h =
      let w : true ≡ false = sym h ∙ nothing_above p (cell_list q) 0 (cell_clean s q checks).0 (cell_clean s q checks).1 e in
      let z : ◌≡◌ {A = ℕ} 0 1 = cc in
      absurd (omega arith)

-- an action, counted
action_counted : (p : Packet) (a : ℕ) → a ≤ 1 → a ≡ length (cond (eqb a 1) (p ∷ []) [])
action_counted p zero h = refl
action_counted p (suc zero) h = refl
action_counted p (suc (suc a)) h = absurd (omega arith)

module _ {s : List ℕ} {l : PairLayout} (c : Checked s l) (p : Packet) where
  abbrev q : Pair
  q = pair_at l s

  pub traced_load : (t : Trace) → Traced p q t → trace_load t ≡ load_of q (p ∷ [])
  unfolding trace_load trace_heard GateTraced tries_of load_of sum_of forwarded_by origin_of
  traced_load (Gate rule number place) x =
      let d = decided s q c.checks p _ (sym x.says) in
      let h = inside_found s q c.checks p rule 0 x.gate in
      let a = tries_after_lem s q c.checks p place 0 h d.found in
      rw x.gate (load_same refl (omega arith) (omega (arith, a)) refl)
  traced_load (Own passed rule place action) x =
      let d = decided s q c.checks p _ (sym x.says) in
      let h = inside_found s q c.checks p passed 1 x.gate in
      let a = tries_after_lem s q c.checks p place action h d.found in
      let is : origin_of limits p s ≡ trace_heard (Own passed rule place action) = rw c.checks (sym x.says) in
      let o = own_rule_decided p s q c.checks _ is rule refl in
      rw (x.gate, o.own) (load_same refl (omega arith) (omega (arith, a)) (action_counted p action d.action))
  traced_load Nowhere x =
      let h = nothing_above p q.order.gate 0 (gate_clean s q c.checks).0 (gate_clean s q c.checks).1 x.gate in
      let a = tries_none s q c.checks p h in
      rw x.gate (load_same refl (omega arith) (omega (arith, a)) refl)

pub trace_bounded : (t : Trace) → TraceSmall t → Bounded (trace_load t)
unfolding TraceSmall trace_load
trace_bounded (Gate rule number place) h = record { packets = omega arith; before = omega (arith, h.0); after = omega (arith, h.2); forwarded = omega arith }
trace_bounded (Own passed rule place action) h =
    record { packets = omega arith; before = omega (arith, h.0, h.1); after = omega (arith, h.2); forwarded = omega (arith, h.3) }
trace_bounded Nowhere h = record { packets = omega arith; before = omega arith; after = omega arith; forwarded = omega arith }

-- The arms of a trace.
pub gate_load : (rule number place : ℕ) → load 1 (rule + 1) (1 + (place + 1)) 0 ≡ trace_load (Gate rule number place)
unfolding trace_load
gate_load rule number place = refl

pub own_load : (passed rule place action : ℕ) → load 1 (passed + rule + 2) (1 + (place + 1)) action ≡ trace_load (Own passed rule place action)
unfolding trace_load
own_load passed rule place action = load_same refl (omega arith) refl refl

pub nowhere_load : load 1 0 0 0 ≡ trace_load Nowhere
unfolding trace_load
nowhere_load = refl
