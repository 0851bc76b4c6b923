-- The theorems on origins. Assumes nothing.
use mathlib.Core.Path.{◌≡◌, refl, ap, sym, ◌∙◌, subst}
use mathlib.Core.List.{List, []}
use mathlib.Core.Bool.{false}
use Prim.Native.Nat.{ℕ, suc, zero, ◌+◌}
use native.Mathlib.Omega.{arith}
use lib.ListN.{get_or}
use Rattle.policy.specs.Fields.{limits}
use Rattle.policy.specs.Ranges.{Packet}
use Rattle.policy.specs.Rules.{Rule, rule, Found, found, nothing, first, says_allow, in_limits}
use Rattle.policy.specs.Refusals.{Outcome, accepted, refused}
use Rattle.policy.specs.Move.{Pair, cell_list}
use Rattle.policy.specs.Demands.{group_at}
use Rattle.policy.specs.Origins.{Origin, gate_rule, own_rule, place_of, rule_from, HasOrigin}
use Rattle.policy.specs.Steps.{box_number, regions}
use Rattle.policy.proofs.Moves.{above_from, nothing_above}
use Rattle.policy.proofs.Places.{place_back}
use Rattle.policy.proofs.Origins.{number_has, first_found, found_number}
use Rattle.sheet.proofs.Outcomes.{readable}
use Rattle.filter.specs.Lookup.{hit, lookup, decided_by}
use Rattle.filter.proofs.Lists.{found_small, lookup_first}
use Rattle.promises.specs.Calls.{check_of, cell_bytes}
use Rattle.origins.specs.Origin.{Decision, decision, origin_of}
use Rattle.origins.specs.Theorems.{hit_of, worked_out, OriginAgreesTheorem, GateRuleDecided, GateRuleTheorem, OwnRuleDecided, OwnRuleTheorem, NoRuleTheorem}
use Rattle.origins.proofs.Deciding.{decided_at, good, gate_clean, cell_clean, cell_readable, has_box, own_has, by_gate, by_own, by_nothing, decided}

module _ (p : Packet) (s : List ℕ) (q : Pair) (checks : check_of limits s ≡ accepted q) where
  origin_is : origin_of limits p s ≡ decision q (first p (cell_list q))
  unfolding origin_of
  origin_is = rw checks refl

  -- first match in the cell list is what a lookup in its bytes answers
  hit_is : (x : Found) → hit_of (decision q x) ≡ decided_by x
  hit_is (found n a) = refl
  hit_is nothing = refl

  looks_up : hit_of (origin_of limits p s) ≡ lookup limits.total p (cell_bytes q)
  unfolding cell_bytes
  looks_up =
      let f = readable limits.total (cell_list q) (cell_readable s q checks) in
      ap hit_of origin_is ∙ (hit_is (first p (cell_list q)) ∙ sym (lookup_first limits.total p (cell_list q) (cell_clean s q checks).0 f.few f.many (omega arith)))

  works_out : (x : Outcome Decision) → origin_of limits p s ≡ x → worked_out q x ≡ hit_of x
  works_out (accepted d) e =
      let k = decided s q checks p d (sym origin_is ∙ e) in
      let n = found_number 0 p (cell_list q) (rule [] 0) d.hit.place d.hit.action k.found in
      let m : box_number p (regions (cell_list q)) ≡ place_of q d.origin = omega (arith, n.place, k.back) in
      let r = (place_back q (good s q checks).counted).names d.origin k.has in
      let a : (rule_from q d.origin).action ≡ d.hit.action = ap (λ (y : Rule). y.action) (sym r) ∙ (rw m at n.action) in
      λ i. accepted (hit (k.back i) (a i))
  works_out (refused n) e = refl

  -- An origin names the rule that decides in A, or the one that decides in B behind an allow.
  unfoldable Names : ℕ → Origin → Type 0
  Names action (gate_rule j b) = GateRuleDecided p q j b
  Names action (own_rule i) = OwnRuleDecided p q i action

  named_gate : (j : ℕ) → first p q.order.gate ≡ found j 0 → Names 0 (gate_rule j (box_number p (group_at q j)))
  unfolding Names HasOrigin
  named_gate j e = record { gate = e; box = number_has p (group_at q j) (has_box s q checks p j e).2 }

  named_own : (j : ℕ) → first p q.order.gate ≡ found j 1
      → Names (get_or q.order.own (box_number p (regions q.order.own)) (rule [] 0)).action (own_rule (box_number p (regions q.order.own)))
  unfolding Names
  named_own j e =
      let i : ℕ = box_number p (regions q.order.own) in
      let z : 0 + i ≡ i = omega arith in
      record { gate = ap says_allow e; own = first_found 0 p q.order.own (rule [] 0) (own_has s q checks p j e) ∙ rw z refl }

  names_by : (x : Found) → first p q.order.gate ≡ x → (d : Decision) → origin_of limits p s ≡ accepted d → Names d.hit.action d.origin
  names_by (found j zero) e d h =
      let is : decided_at q (gate_rule j (box_number p (group_at q j))) 0 ≡ d = let w : accepted d ≡ accepted (decided_at q (gate_rule j (box_number p (group_at q j))) 0) = sym h ∙ (origin_is ∙ by_gate s q checks p j e) in cc in
      subst (λ (y : Decision). Names y.hit.action y.origin) is (named_gate j e)
  names_by (found j (suc a)) e d h =
      let i : ℕ = box_number p (regions q.order.own) in
      let z : suc a ≡ 1 = omega (arith, found_small p q.order.gate j (suc a) (gate_clean s q checks).0 e) in
      let f : first p q.order.gate ≡ found j 1 = e ∙ ap (found j) z in
      let is : decided_at q (own_rule i) (get_or q.order.own i (rule [] 0)).action ≡ d = let w : accepted d ≡ accepted (decided_at q (own_rule i) (get_or q.order.own i (rule [] 0)).action) = sym h ∙ (origin_is ∙ by_own s q checks p j f i refl) in cc in
      subst (λ (y : Decision). Names y.hit.action y.origin) is (named_own j f)
  names_by nothing e d h =
      let w : accepted d ≡ refused 5 = sym h ∙ (origin_is ∙ by_nothing s q checks p e) in
      let z : ◌≡◌ {A = ℕ} 0 1 = cc in
      absurd (omega arith)

  names : (d : Decision) → origin_of limits p s ≡ accepted d → Names d.hit.action d.origin
  names d h = names_by (first p q.order.gate) refl d h

  refused_only : (x : Found) → first p (cell_list q) ≡ x → (n : ℕ) → decision q x ≡ refused n → (n ≡ 5) × (in_limits p ≡ false)
  refused_only (found k a) e n h = let z : ◌≡◌ {A = ℕ} 0 1 = cc in absurd (omega arith)
  refused_only nothing e n h = (cc, nothing_above p (cell_list q) 0 (cell_clean s q checks).0 (cell_clean s q checks).1 e)

pub origin_agrees : OriginAgreesTheorem
origin_agrees p s q checks = record {
  answer = looks_up p s q checks;
  origin = works_out p s q checks (origin_of limits p s) refl ∙ looks_up p s q checks;
  places = place_back q (good s q checks).counted;
}

pub gate_rule_decided : GateRuleTheorem
unfolding Names
gate_rule_decided p s q checks d h j b o = rw o at (names p s q checks d h)

pub own_rule_decided : OwnRuleTheorem
unfolding Names
own_rule_decided p s q checks d h i o = rw o at (names p s q checks d h)

pub no_rule_above_limits : NoRuleTheorem
no_rule_above_limits p s q checks = record {
  only = λ n h. refused_only p s q checks (first p (cell_list q)) refl n (sym (origin_is p s q checks) ∙ h);
  exactly = λ h. origin_is p s q checks ∙ ap (decision q) (above_from p (cell_list q) 0 (cell_clean s q checks).0 h);
}
