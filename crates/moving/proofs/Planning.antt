-- What a move gives: what reading refuses, 6, 7, or the pair sheet of the lists and their groups. Assumes nothing.
use Rattle.std.specs.Prelude.{Ok, Err}
use mathlib.Core.Path.{◌≡◌, refl, ap, sym, ◌∙◌}
use mathlib.Core.List.{List, [], ◌++◌}
use mathlib.Core.Bool.{false}
use Prim.Native.Nat.{ℕ, ◌+◌, ◌<◌, ◌≤◌}
use native.Mathlib.Omega.{arith}
use mir.Val.{Fits}
use mir.Syntax.{w8}
use lib.ListN.{length, take, drop, get_or, length-append, length-map, take-append-drop}
use lib.Seq.{sets, sets-eq, take_all}
use borrow.Author.Tests.{lt-ltb, le-ltb}
use Rattle.lists.proofs.Lists.{sets-append}
use Rattle.policy.specs.Fields.{count_size, limits, work_size}
use Rattle.policy.specs.Rules.{allows_in}
use Rattle.policy.specs.Move.{Slot, slots_of, start_of, alone, boxes_of, together, any_over, work, room, Order, moved, groups_of}
use Rattle.policy.specs.declared.Refusal.{Refusal}
use Rattle.policy.specs.declared.Refusal.TheVariants.{TooManyBoxes}
use Rattle.policy.specs.Refusals.{Answered}
use Rattle.policy.proofs.Answers.{given_refusal}
use Rattle.policy.proofs.Refused.{list_refusal, move_refusal}
use Rattle.policy.proofs.Numbers.{or_else-both}
use Rattle.policy.proofs.Edits.{slots_length}
use Rattle.wire.specs.Numbers.{number_bytes}
use Rattle.wire.specs.Records.{each_in}
use Rattle.wire.specs.Buffers.{zeroed, filled, written, length_of}
use Rattle.wire.proofs.Numbers.{number_bytes-length}
use Rattle.wire.proofs.Records.{rules_in-length}
use Rattle.wire.proofs.Buffers.{filled_is}
use Rattle.sheet.specs.Orders.{order_bytes}
use Rattle.sheet.specs.Pairs.{groups_bytes, pair_bytes, pair_size}
use Rattle.sheet.specs.Steps.{order_at, OrderRead}
use Rattle.sheet.specs.declared.OrderLayout.{OrderLayout}
use Rattle.sheet.proofs.Parts.{bytes_of}
use Rattle.sheet.proofs.Outcomes.{readable}
use Rattle.sheet.proofs.Pairs.{PairGood, denies_most}
use Rattle.sheet.proofs.Accepted.{OrderAccepted, order_accepted}
use Rattle.draft.specs.Steps.{stretch, draft_size, AllReady, Drafting, DraftedGroups, sheet_of}
use Rattle.draft.specs.declared.Drafted.{Drafted}
use Rattle.draft.proofs.Drawn.{drawn_over, drawn_light, drawn_boxes, drawn_content}
use Rattle.draft.proofs.Laid.{groups_laid}
use Rattle.promises.specs.Calls.{plan_of, move_of}
use Rattle.promises.proofs.Calls.{refuses}
use Rattle.promises.proofs.Good.{moved_good, pair_short}
use Rattle.moving.specs.Steps.{PairPut, Planned}

-- the order sheet, the count and the groups written one behind another, zeros behind them
pub pair_put : {s order draft : List ℕ} {n : ℕ} → PairPut s order n draft → (c₁ c₂ c₃ last : List ℕ) (at end : ℕ) → (at ≡ 0 + length order) × (c₁ ≡ sets s 0 order)
    → c₂ ≡ sets c₁ at (number_bytes count_size n) → c₃ ≡ sets c₂ (at + count_size) draft → end ≡ at + count_size + length draft → last ≡ zeroed end pair_size c₃
    → (end ≡ length (sheet_of order n draft)) × (last ≡ filled pair_size s (sheet_of order n draft))
pair_put {s} {order} {draft} {n} h c₁ c₂ c₃ last at end e₁ e₂ e₃ ee el =
    let content : List ℕ = sheet_of order n draft in
    let number : List ℕ = number_bytes count_size n in
    let ln : length number ≡ count_size = number_bytes-length count_size n in
    let lc : length content ≡ end = rw (length-append, length-append, ln) (omega (arith, e₁.0)) in
    let p₁ : sets s 0 content ≡ sets c₁ at (number ++ draft) = sets-append s 0 order (number ++ draft) ∙ rw (e₁.1, e₁.0) in
    let p₂ : sets c₁ at (number ++ draft) ≡ c₃ = sets-append c₁ at number draft ∙ rw (e₃, e₂, ln) in
    let z : 0 + end ≡ end = omega arith in
    let q : c₃ ≡ take end content ++ drop end s =
    sym (p₁ ∙ p₂) ∙ sets-eq content s 0 (omega (arith, h.fits, h.room, e₁.0)) ∙ rw (lc, z, take_all end content (omega arith)) in
    (sym lc, filled_is content s c₃ last end pair_size (sym lc) (omega (arith, h.fits, e₁.0)) h.room q el)

pub plan_refused : {s : List ℕ} {f : Refusal} → OrderRead s (Err f) → {out w : List ℕ} → Planned s out w (Err f) out w
unfolding move_of
plan_refused {f = f} x {out} {w} = refuses pair_bytes pair_size _ out w w f (rw (given_refusal x f refl) refl) refl

module _ {s : List ℕ} {l : OrderLayout} (read : OrderRead s (Ok l)) (of_s : (i : ℕ) → Fits w8 (get_or s i 0)) where
  a : OrderAccepted s l
  a = order_accepted read (bytes_of s of_s) l refl

  abbrev o : Order
  o = order_at l s

  abbrev all : List Slot
  all = slots_of o

  pub plan_ready : {draft w : List ℕ} → draft_size ≤ length draft → work_size ≤ length w → AllReady s l.gate draft w
  plan_ready h k = record {
    records = omega (arith, a.laid.lists.gate_end, a.laid.lists.own_end, a.laid.lists.inside);
    rules_sound = (readable limits.gate o.gate a.gate_readable).sounds;
    few = a.laid.lists.gate_limit;
    room = h;
    work_room = k;
  }

  -- they are drafted from the first rule on
  all_anew : stretch alone 0 l.gate (drop count_size s) ≡ all
  unfolding each_in allows_in
  all_anew = refl

  planned : move_of limits s ≡ plan_of limits o
  unfolding move_of
  planned = rw a.reads

  own_are : length o.own ≡ l.own
  own_are = rules_in-length l.own (drop count_size (drop l.middle s))

  -- what drafting all of A answers and leaves
  abbrev Drafts : List ℕ → List ℕ → Answered Drafted → List ℕ → List ℕ → Type 0
  Drafts draft w q draft' w' = DraftedGroups alone (drop count_size s) 0 l.gate draft 0 0 w q draft' w'

  module _ {draft draft' w w' : List ℕ} where
    pub plan_six : {f : Refusal} → Drafts draft w (Err f) draft' w' → {sheet : List ℕ} → Planned s sheet w (Err f) sheet w'
    unfolding plan_of room work
    plan_six {f} x {sheet} =
        let over = drawn_over (rw all_anew at x.drafting) in
        refuses pair_bytes pair_size _ sheet w w' f (planned ∙ rw (over.1, over.0) refl) x.beyond

    module _ {d : Drafted} (x : Drafts draft w (Ok d) draft' w') (roomy : draft_size ≤ length draft) where
      drafting : Drafting limits all draft 0 0 (Ok d) draft'
      drafting = rw all_anew at x.drafting

      light : any_over limits.pieces all ≡ false
      light = drawn_light drafting

      boxes_are_lem : d.boxes ≡ length (together (moved o).groups)
      boxes_are_lem = let e = drawn_boxes drafting in omega arith

      pub plan_seven : limits.total < d.boxes + l.own → {sheet : List ℕ} → Planned s sheet w (Err TooManyBoxes) sheet w'
      unfolding plan_of room work
      plan_seven h {sheet} =
          let t : limits.total < length (together (moved o).groups) + length o.own = omega (arith, boxes_are_lem, own_are) in
          refuses pair_bytes pair_size _ sheet w w' TooManyBoxes (planned ∙ rw (light, lt-ltb _ _ t)) x.beyond

      module _ (h : d.boxes + l.own ≤ limits.total) where
        none : room limits o all ≡ 0
        unfolding room work
        none =
            let t : length (together (moved o).groups) + length o.own ≤ limits.total = omega (arith, boxes_are_lem, own_are) in
            rw (light, le-ltb _ _ t)

        good : PairGood limits (moved o)
        unfolding move_refusal
        good = moved_good limits o (or_else-both (list_refusal limits.gate o.gate) _ a.gate_readable (or_else-both (list_refusal limits.own o.own) _ a.own_readable none))

        count_is : d.groups ≡ length all
        count_is = drafting.count

        groups_are : d.groups ≡ length (groups_of all)
        groups_are = count_is ∙ sym (length-map all boxes_of)

        short : length all ≤ limits.gate
        short = omega (arith, slots_length (start_of o) [] o.gate, denies_most o.gate, rules_in-length l.gate (drop count_size s), a.laid.lists.gate_limit)

        content : take d.end draft' ≡ groups_bytes (moved o).groups
        content = drawn_content drafting (omega arith) good.groups.boxes short roomy

        sheet_is : sheet_of s d.groups (take d.end draft') ≡ pair_bytes (moved o)
        unfolding pair_bytes order_bytes
        sheet_is = rw (content, groups_are, a.gate_bytes, a.own_bytes, take-append-drop l.middle s)

        pub plan_put : {sheet : List ℕ} → pair_size ≤ length sheet → PairPut sheet s d.groups (take d.end draft')
        plan_put room =
            let t = pair_short limits (moved o) (omega arith) (omega arith) good (omega arith) (omega arith) (omega arith) in
            let j : length (sheet_of s d.groups (take d.end draft')) ≡ length s + count_size + length (take d.end draft') = rw (length-append, length-append, number_bytes-length) (omega arith) in
            record {
              laid = rw (groups_are, content) (groups_laid (groups_of all) good.groups.boxes (omega (arith, boxes_are_lem)));
              few = omega (arith, count_is, short);
              fits = omega (arith, ap length sheet_is);
              room = room;
            }

        pub plan_accepted : {sheet sheet' : List ℕ} (n : ℕ)
            → (n ≡ length (sheet_of s d.groups (take d.end draft'))) × (sheet' ≡ filled pair_size sheet (sheet_of s d.groups (take d.end draft')))
            → Planned s sheet w (Ok n) sheet' w'
        unfolding plan_of length_of written
        plan_accepted n e = record {
          answer = rw (planned, none, e.0, sheet_is);
          result = rw (planned, none, e.1, sheet_is);
          beyond = x.beyond;
        }
