-- Whose rule decides on a sheet that passes check: a box of the gate's rule, an own rule, or none. Assumes nothing.
use mathlib.Core.Path.{◌≡◌, refl, ap, sym, ◌∙◌, subst}
use mathlib.Core.List.{List, [], ◌∷◌}
use mathlib.Core.Bool.{Bool, true, false, false≢true}
use Prim.Native.Nat.{ℕ, zero, suc, ◌<◌, ◌≤◌}
use native.Mathlib.Omega.{arith}
use lib.Dec.{ltb}
use lib.ListN.{length, get_or, take}
use borrow.Author.Tests.{ltb-true, ltb-false}
use Rattle.lists.specs.Lists.{Each, every}
use Rattle.lists.proofs.Lists.{each_every}
use Rattle.policy.specs.Fields.{limits, highest}
use Rattle.policy.specs.Ranges.{Packet, proper}
use Rattle.policy.specs.Rules.{rule, Proper, denies, complete, Found, found, nothing, first_from, first, says_drop, in_limits}
use Rattle.policy.specs.Refusals.{accepted, refused, rules_refusal}
use Rattle.policy.specs.Move.{Pair, together, cell_list}
use Rattle.policy.specs.Demands.{group_at}
use Rattle.policy.specs.Origins.{Origin, gate_rule, own_rule, origin_at, place_of, HasOrigin}
use Rattle.policy.specs.Steps.{box_number, regions}
use Rattle.policy.proofs.Refused.{list_refusal}
use Rattle.policy.proofs.Edits.{list_accepted}
use Rattle.policy.proofs.Moves.{above_from, nothing_above}
use Rattle.policy.proofs.Places.{place_back}
use Rattle.policy.proofs.Origins.{first_found, first_nothing, own_decides, box_there, box_decides}
use Rattle.sheet.proofs.Outcomes.{readable}
use Rattle.sheet.proofs.Pairs.{ProperGroup, PairGood, pair_good}
use Rattle.promises.specs.Calls.{check_of}
use Rattle.promises.proofs.Good.{cell_list_good}
use Rattle.promises.proofs.Demands.{limits_small, CheckAccepted, check_accepted}
use Rattle.filter.specs.Lookup.{hit}
use Rattle.filter.proofs.Lists.{found_small}
use Rattle.origins.specs.Origin.{Decision, decision}
use Rattle.origins.proofs.Searches.{rules_proper}

-- A decision by its origin: the place is the origin's.
abbrev pub decided_at : Pair → Origin → ℕ → Decision
decided_at q x action = record { hit = hit (place_of q x) action; origin = x }

-- one of a list, or what is read past its end
each_at : {A : Type 0} (P : A → Type 0) (l : List A) (i : ℕ) (d : A) → P d → Each P l → P (get_or l i d)
unfolding Each
each_at P [] i d n h = n
each_at P (a ∷ l) zero d n h = h.0
each_at P (a ∷ l) (suc i) d n h = each_at P l i d n h.1

module _ (s : List ℕ) (q : Pair) (checks : check_of limits s ≡ accepted q) where
  known : CheckAccepted limits limits_small s q
  known = check_accepted limits limits_small s q checks

  pub good : PairGood limits q
  good = pair_good limits s q known.reads (omega arith)

  pub gate_clean : (rules_refusal q.order.gate ≡ 0) × (complete q.order.gate ≡ true)
  gate_clean = list_accepted limits.gate q.order.gate good.gate

  pub own_clean : (rules_refusal q.order.own ≡ 0) × (complete q.order.own ≡ true)
  own_clean = list_accepted limits.own q.order.own good.own

  -- every box is proper
  pub gate_proper : Each Proper (regions q.order.gate)
  gate_proper = rules_proper q.order.gate gate_clean.0

  pub own_proper : Each Proper (regions q.order.own)
  own_proper = rules_proper q.order.own own_clean.0

  pub group_proper : (j : ℕ) → Each Proper (group_at q j)
  unfolding every
  group_proper j =
      each_every (proper highest) Proper (λ b e. e) (group_at q j)
      (each_at ProperGroup q.groups (denies (take j q.order.gate)) [] refl good.groups.boxes)

  pub cell_readable : list_refusal limits.total (cell_list q) ≡ 0
  cell_readable = subst (λ (x : Pair). list_refusal limits.total (cell_list x) ≡ 0) (sym known.moved) (cell_list_good limits q.order known.none)

  pub cell_clean : (rules_refusal (cell_list q) ≡ 0) × (complete (cell_list q) ≡ true)
  cell_clean = list_accepted limits.total (cell_list q) cell_readable

  -- an origin that is there, found by its place
  at_origin : (p : Packet) (x : Origin) (action : ℕ) → HasOrigin q x → first p (cell_list q) ≡ found (place_of q x) action
      → decision q (first p (cell_list q)) ≡ accepted (decided_at q x action)
  at_origin p x action h e =
      let b = ((place_back q good.counted).back x h).1 in
      ap (decision q) e ∙ ap (λ (y : Origin). accepted (record { hit = hit (place_of q x) action; origin = y })) b

  module _ (p : Packet) where
    -- the gate dropped the packet
    module _ (j : ℕ) (dropped : first p q.order.gate ≡ found j 0) where
      abbrev box : Pair → Origin
      box x = gate_rule j (box_number p (group_at x j))

      pub has_box : HasOrigin q (box q)
      has_box = subst (λ (x : Pair). HasOrigin x (box x)) (sym known.moved) (box_there q.order p gate_clean.0 j dropped)

      pub by_gate : decision q (first p (cell_list q)) ≡ accepted (decided_at q (box q) 0)
      by_gate =
          at_origin p (box q) 0 has_box
          (subst (λ (x : Pair). first p (cell_list x) ≡ found (place_of x (box x)) 0) (sym known.moved) (box_decides q.order p gate_clean.0 j dropped))

    -- a packet that A has a rule for is inside the limits
    pub inside_found : (j a : ℕ) → first p q.order.gate ≡ found j a → in_limits p ≡ true
    inside_found j a e = go (in_limits p) refl
      where
        go : (t : Bool) → in_limits p ≡ t → in_limits p ≡ true
        go true h = h
        go false h =
            let w : nothing ≡ found j a = sym (above_from p q.order.gate 0 gate_clean.0 h) ∙ e in
            let z : ◌≡◌ {A = ℕ} 0 1 = cc in
            absurd (omega arith)

    -- it allowed the packet: then an own rule has it
    module _ (j : ℕ) (allowed : first p q.order.gate ≡ found j 1) where
      pub own_has : box_number p (regions q.order.own) < length q.order.own
      own_has = go (ltb (box_number p (regions q.order.own)) (length q.order.own)) refl
        where
          go : (t : Bool) → ltb (box_number p (regions q.order.own)) (length q.order.own) ≡ t → box_number p (regions q.order.own) < length q.order.own
          go true h = ltb-true (box_number p (regions q.order.own)) (length q.order.own) h
          go false h =
              let n = first_nothing 0 p q.order.own (ltb-false (box_number p (regions q.order.own)) (length q.order.own) h) in
              absurd (false≢true (sym (nothing_above p q.order.own 0 own_clean.0 own_clean.1 n) ∙ inside_found j 1 allowed))

      to_own : first p (cell_list q) ≡ first_from (length (together q.groups)) p q.order.own
      to_own =
          subst (λ (x : Pair). first p (cell_list x) ≡ first_from (length (together x.groups)) p q.order.own) (sym known.moved)
          (own_decides q.order p gate_clean.0 (ap says_drop allowed))

      pub by_own : (i : ℕ) → i ≡ box_number p (regions q.order.own)
          → decision q (first p (cell_list q)) ≡ accepted (decided_at q (own_rule i) (get_or q.order.own i (rule [] 0)).action)
      unfolding HasOrigin place_of
      by_own i is =
          at_origin p (own_rule i) (get_or q.order.own i (rule [] 0)).action (omega (arith, own_has))
          (to_own ∙ rw is (first_found (length (together q.groups)) p q.order.own (rule [] 0) own_has))

    -- no rule of A has it: then it is outside the limits, and no rule of the cell list has it
    pub by_nothing : first p q.order.gate ≡ nothing → decision q (first p (cell_list q)) ≡ refused 5
    by_nothing e = ap (decision q) (above_from p (cell_list q) 0 cell_clean.0 (nothing_above p q.order.gate 0 gate_clean.0 gate_clean.1 e))

    -- What a decision is: first match in the cell list, at the place of an origin that is there.
    pub record DecidedAs (d : Decision) : Type 0 where
      pub found : first p (cell_list q) ≡ found d.hit.place d.hit.action
      pub place : d.hit.place < limits.total
      pub action : d.hit.action ≤ 1
      pub has : HasOrigin q d.origin
      pub back : place_of q d.origin ≡ d.hit.place

    decided_by_lem : (x : Found) → first p (cell_list q) ≡ x → (d : Decision) → decision q x ≡ accepted d → DecidedAs d
    decided_by_lem (found n a) e d h =
        let small = found_small p (cell_list q) n a cell_clean.0 e in
        let many = (readable limits.total (cell_list q) cell_readable).many in
        let there = (place_back q good.counted).there n small.0 in
        let is : record { hit = hit n a; origin = origin_at q n } ≡ d = cc in
        subst DecidedAs is (record { found = e; place = omega (arith, small.0); action = small.1; has = there.0; back = there.1 })
    decided_by_lem nothing e d h = let z : ◌≡◌ {A = ℕ} 0 1 = cc in absurd (omega arith)

    pub decided : (d : Decision) → decision q (first p (cell_list q)) ≡ accepted d → DecidedAs d
    decided d h = decided_by_lem (first p (cell_list q)) refl d h
