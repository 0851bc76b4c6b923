-- The loop over the rules before a deny rule: what it knows at place j, and what one allow does. Assumes nothing.
use mathlib.Core.Path.{◌≡◌, refl, ap, sym, ◌∙◌}
use mathlib.Core.List.{List, [], ◌∷◌}
use mathlib.Core.Bool.{Bool, true, false, cond}
use Prim.Native.Nat.{ℕ, ◌+◌, ◌*◌, ◌<◌, ◌≤◌}
use native.Mathlib.Omega.{arith}
use native.Mathlib.Numerals.{add-one}
use lib.ListN.{length, drop, drop_of_length-le}
use lib.Seq.{drop-cons}
use borrow.Author.Tests.{ltb-false}
use Rattle.lists.specs.Lists.{every}
use Rattle.lists.proofs.Lists.{every_at}
use Rattle.policy.specs.Fields.{record_size, limits}
use Rattle.policy.specs.Ranges.{Region}
use Rattle.policy.specs.Rules.{Rule, rule, Proper, sound, is_allow, allows_in}
use Rattle.policy.specs.Cut.{group}
use Rattle.policy.specs.Move.{over}
use Rattle.policy.proofs.Moves.{rule_proper}
use Rattle.wire.specs.Records.{boxes_bytes, boxes_in, rule_in, rules_in}
use Rattle.wire.proofs.Records.{boxes_in-length, rules_in-length, rule_in_place}
use Rattle.groups.specs.Steps.{allows_at, worked_of, AllTaken, capacity, half_size, Stands, Taken}
use Rattle.std.specs.Prelude.{Result, Ok, Err}
use Rattle.policy.specs.declared.Refusal.{Refusal}
use Rattle.policy.specs.declared.Refusal.TheVariants.{TooManyPieces}
use Rattle.groups.proofs.Taken.{cut_each-proper}

pub proper_at : (n : ℕ) (rules : List ℕ) (j : ℕ) {r : Rule} → every sound (rules_in n rules) ≡ true → j < n → r ≡ rule_in (drop (record_size * j) rules) → Proper r.region
proper_at n rules j {r} h k e =
    let d : Rule = rule [] 0 in
    rule_proper r (rw (rule_in_place j n rules d k, ← e) at (every_at sound (rules_in n rules) d h j (rw rules_in-length k)))

-- A deny rule plays no part in what is left of the list, an allow is the next to take.
module _ (rules : List ℕ) (i j : ℕ) (t : j < i) {r : Rule} (e : r ≡ rule_in (drop (record_size * j) rules)) where
  left : drop j (rules_in i rules) ≡ r ∷ drop (j + 1) (rules_in i rules)
  left =
      let d : Rule = rule [] 0 in
      drop-cons (rules_in i rules) j d (rw rules_in-length t) ∙ rw (add-one j, rule_in_place j i rules d t, e)

  pub left_deny : is_allow r ≡ false → allows_in (drop j (rules_in i rules)) ≡ allows_in (drop (j + 1) (rules_in i rules))
  unfolding allows_in
  left_deny h = rw (left, h)

  pub left_allow : is_allow r ≡ true → allows_in (drop j (rules_in i rules)) ≡ r.region ∷ allows_in (drop (j + 1) (rules_in i rules))
  unfolding allows_in
  left_allow h = rw (left, h)

-- What an answer tells of whether number 6 came of it.
pub err_told : (o : Bool) (f : Refusal) (m : ℕ) → ◌≡◌ {A = Result ℕ Refusal} (Err f) (cond o (Err TooManyPieces) (Ok m)) → (f ≡ TooManyPieces) × (o ≡ true)
err_told true f m e = (cc, refl)
err_told false f m e = let z : ◌≡◌ {A = ℕ} 0 1 = cc in absurd (omega arith)

pub ok_told : (o : Bool) (n m : ℕ) → ◌≡◌ {A = Result ℕ Refusal} (Ok n) (cond o (Err TooManyPieces) (Ok m)) → (o ≡ false) × (n ≡ m)
ok_told true n m e = let z : ◌≡◌ {A = ℕ} 0 1 = cc in absurd (omega arith)
ok_told false n m e = (refl, cc)

-- At rule j: the pieces that stand and the allows left to take come to what the start and all allows come to, number 6 included.
pub record Working (start : List Region) (rules : List ℕ) (i : ℕ) (pieces₀ out₀ pieces out : List ℕ) (n j : ℕ) : Type 0 where
  pub few : n ≤ capacity
  pub wide : length pieces ≡ length pieces₀
  pub out_wide : length out ≡ length out₀
  pub stands : Stands n pieces
  pub beyond : drop half_size out ≡ drop half_size out₀
  pub boxes : group (boxes_in n pieces) (allows_in (drop j (rules_in i rules))) ≡ group start (allows_at i rules)
  pub number : over capacity (boxes_in n pieces) (allows_in (drop j (rules_in i rules))) ≡ over capacity start (allows_at i rules)

module _ {start : List Region} {rules : List ℕ} {i : ℕ} {pieces₀ out₀ pieces out : List ℕ} {n j : ℕ} (g : Working start rules i pieces₀ out₀ pieces out n j) where
  module _ (t : j < i) {r : Rule} (e : r ≡ rule_in (drop (record_size * j) rules)) where
    pub working_deny : is_allow r ≡ false → Working start rules i pieces₀ out₀ pieces out n (j + 1)
    working_deny h = record {
      few = g.few;
      wide = g.wide;
      out_wide = g.out_wide;
      stands = g.stands;
      beyond = g.beyond;
      boxes = rw (left_deny rules i j t e h) at g.boxes;
      number = rw (left_deny rules i j t e h) at g.number;
    }

    -- The rule is an allow, taken from every piece.
    module _ (h : is_allow r ≡ true) {pieces' out' : List ℕ} where
      -- More than number 6 allows are left.
      pub working_over : {f : Refusal} → Taken n r.region pieces out pieces' out' (Err f) → AllTaken start rules i out₀ pieces' out' (Err f)
      unfolding over worked_of
      working_over {f} k =
          let w = err_told _ f _ k.answer in
          let o : over capacity (boxes_in n pieces) (allows_in (drop j (rules_in i rules))) ≡ true = rw (left_allow rules i j t e h, w.1) refl in
          record { answer = rw (← g.number, o, w.0) refl; few = tt; boxes = tt; beyond = k.beyond ∙ g.beyond }

      pub working_next : {m : ℕ} → Taken n r.region pieces out pieces' out' (Ok m) → Proper r.region → length pieces' ≡ length pieces → length out' ≡ length out
          → Working start rules i pieces₀ out₀ pieces' out' m (j + 1)
      unfolding group over
      working_next {m} k p l l' =
          let w = ok_told _ m _ k.answer in
          let b = k.boxes in
          record {
            few = omega (arith, w.1, ltb-false _ _ w.0);
            wide = l ∙ g.wide;
            out_wide = l' ∙ g.out_wide;
            stands = record {
              each = rw b (cut_each-proper (boxes_in n pieces) r.region g.stands.each p);
              written = k.bytes ∙ ap boxes_bytes (sym b);
            };
            beyond = k.beyond ∙ g.beyond;
            boxes = rw b (rw (left_allow rules i j t e h) at g.boxes);
            number =
                rw b
                (rw (left_allow rules i j t e h, w.0) at g.number);
          }

  -- Every rule before the deny rule has been looked at.
  module _ (h : i ≤ j) where
    none_left : drop j (rules_in i rules) ≡ []
    none_left = let l : length (rules_in i rules) ≤ j = rw rules_in-length h in drop_of_length-le (rules_in i rules) l

    group_stands : boxes_in n pieces ≡ group start (allows_at i rules)
    unfolding group allows_in
    group_stands = rw none_left at g.boxes

    answered : Ok n ≡ worked_of limits start (allows_at i rules)
    unfolding over worked_of allows_in
    answered =
        let o : over capacity start (allows_at i rules) ≡ false = sym g.number ∙ rw none_left in
        rw (o, ← group_stands, boxes_in-length)

    pub working_done : AllTaken start rules i out₀ pieces out (Ok n)
    working_done = record {
      answer = answered;
      few = g.few;
      boxes = g.stands.written ∙ ap boxes_bytes group_stands;
      beyond = g.beyond;
    }
