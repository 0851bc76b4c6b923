-- What drafting all groups of a pair sheet's A gives: 6; or how many boxes there are and, while they are within the total together
-- with the own rules, the bytes of the moved pair's groups. Assumes nothing.
use mathlib.Core.Path.{◌≡◌}
use mathlib.Core.List.{List, []}
use mathlib.Core.Bool.{true, false}
use Prim.Native.Nat.{ℕ, ◌+◌, ◌≤◌}
use native.Mathlib.Omega.{arith}
use lib.ListN.{length, take, drop}
use borrow.Author.Tests.{le-ltb}
use Rattle.policy.specs.Fields.{count_size, limits, work_size}
use Rattle.policy.specs.Rules.{allows_in}
use Rattle.policy.specs.Move.{alone, slots_of, start_of, together, any_over, work, room, Order, moved}
use Rattle.policy.proofs.Refused.{move_refusal}
use Rattle.policy.proofs.Numbers.{or_else-both}
use Rattle.wire.specs.Records.{each_in}
use Rattle.wire.proofs.Records.{rules_in-length}
use Rattle.sheet.specs.Pairs.{groups_bytes}
use Rattle.sheet.specs.Steps.{rules_of, order_at}
use Rattle.sheet.specs.declared.PairLayout.{PairLayout}
use Rattle.sheet.proofs.Outcomes.{readable}
use Rattle.sheet.proofs.Accepted.{PairAccepted}
use Rattle.sheet.proofs.Pairs.{ProperGroup, denies_most}
use Rattle.lists.specs.Lists.{Each}
use Rattle.policy.proofs.Edits.{slots_length}
use Rattle.draft.specs.Steps.{AllReady, Drafting, DraftedGroups, draft_size}
use Rattle.draft.specs.declared.Drafted.{Drafted}
use Rattle.std.specs.Prelude.{Ok, Err}
use Rattle.policy.specs.Refusals.{Answered}
use Rattle.policy.specs.declared.Refusal.{Refusal}
use Rattle.policy.specs.declared.Refusal.TheVariants.{TooManyPieces}
use Rattle.draft.proofs.Drawn.{drawn_over, drawn_light, drawn_boxes, drawn_content}
use Rattle.promises.proofs.Good.{moved_good}

module _ {s : List ℕ} {l : PairLayout} (a : PairAccepted s l) where
  abbrev o : Order
  o = order_at l.order s

  -- what a draft of them is
  abbrev pub AllDrafted : List ℕ → List ℕ → Answered Drafted → List ℕ → List ℕ → Type 0
  AllDrafted draft w r draft' w' = DraftedGroups alone (drop count_size s) 0 l.order.gate draft 0 0 w r draft' w'

  pub draft_ready : (draft w : List ℕ) → draft_size ≤ length draft → work_size ≤ length w → AllReady s l.order.gate draft w
  draft_ready draft w d k =
      let p = a.laid.lists in
      record {
        records = omega (arith, p.gate_end, p.own_end, p.inside);
        rules_sound = (readable limits.gate (rules_of l.order.gate s) a.good.gate).sounds;
        few = p.gate_limit;
        room = d;
        work_room = k;
      }

  module _ {draft w draft' w' : List ℕ} where
    -- all of A, drafted, is the slots of a move
    drafting : {r : Answered Drafted} → AllDrafted draft w r draft' w' → Drafting limits (slots_of o) draft 0 0 r draft'
    unfolding each_in allows_in
    drafting x = x.drafting

    pub draft_over : {f : Refusal} → AllDrafted draft w (Err f) draft' w' → (f ≡ TooManyPieces) × (any_over limits.pieces (slots_of o) ≡ true)
    draft_over x = drawn_over (drafting x)

    module _ {d : Drafted} (x : AllDrafted draft w (Ok d) draft' w') where
      pub draft_light : any_over limits.pieces (slots_of o) ≡ false
      draft_light = drawn_light (drafting x)

      pub draft_boxes : d.boxes ≡ length (together (moved o).groups)
      draft_boxes = let e = drawn_boxes (drafting x) in omega arith

      module _ (h : d.boxes + l.order.own ≤ limits.total) where
        -- a move of the two lists is accepted
        pub draft_moves : move_refusal limits o ≡ 0
        unfolding move_refusal room work
        draft_moves =
            let t : length (together (moved o).groups) + length o.own ≤ limits.total = omega (arith, draft_boxes, rules_in-length l.order.own (drop count_size (drop l.order.middle s))) in
            or_else-both _ _ a.good.gate (or_else-both _ _ a.good.own (rw (draft_light, le-ltb _ _ t)))

        module _ (roomy : draft_size ≤ length draft) where
          proper : Each ProperGroup (moved o).groups
          proper = (moved_good limits o draft_moves).groups.boxes

          few : d.boxes ≤ limits.total
          few = omega (arith, h)

          short : length (slots_of o) ≤ limits.gate
          short = omega (arith, slots_length (start_of o) [] o.gate, denies_most o.gate, rules_in-length l.order.gate (drop count_size s), a.laid.lists.gate_limit)

          -- the draft is section C of the moved pair
          pub draft_content : take d.end draft' ≡ groups_bytes (moved o).groups
          draft_content = drawn_content (drafting x) few proper short roomy
