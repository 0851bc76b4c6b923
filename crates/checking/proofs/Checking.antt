-- What a check gives: the pair sheet refused, 6, 8, or its layout; and two outcomes of one check are equal.
-- Assumes nothing.
use Rattle.std.specs.Prelude.{Ok, Err}
use mathlib.Core.Path.{◌≡◌, refl, ap, sym, ◌∙◌}
use mathlib.Core.List.{List}
use mathlib.Core.Bool.{Bool, true, false}
use Prim.Native.Nat.{ℕ, ◌<◌, ◌≤◌}
use native.Mathlib.Omega.{arith}
use mir.Val.{Fits}
use mir.Syntax.{w8}
use lib.ListN.{length, take, drop, get_or}
use borrow.Author.Tests.{lt-leb}
use Rattle.std.proofs.lemmas.Bool.{false_from_ne_true}
use Rattle.policy.specs.Fields.{limits, work_size}
use Rattle.policy.specs.Ranges.{Region}
use Rattle.policy.specs.Refusals.{Answer, accepted}
use Rattle.policy.specs.Move.{together, work, Order, Pair, moved}
use Rattle.policy.specs.Check.{same_groups, check_refusal}
use Rattle.policy.specs.declared.Refusal.{Refusal}
use Rattle.policy.specs.declared.Refusal.TheVariants.{BufferShort, GroupsDiffer}
use Rattle.policy.proofs.Answers.{gives_refusal, given_refusal, said_once}
use Rattle.policy.proofs.Checks.{groups_sound, groups_self}
use Rattle.wire.specs.Buffers.{zeroed, answered, room_for}
use Rattle.sheet.specs.Pairs.{groups_bytes, pair_in, pair_bytes}
use Rattle.sheet.specs.Steps.{pair_at, PairRead}
use Rattle.sheet.specs.declared.PairLayout.{PairLayout}
use Rattle.sheet.proofs.Pairs.{pair_back}
use Rattle.sheet.proofs.Parts.{bytes_of}
use Rattle.sheet.proofs.Accepted.{PairAccepted, pair_accepted}
use Rattle.draft.specs.Steps.{draft_size}
use Rattle.draft.specs.declared.Drafted.{Drafted}
use Rattle.promises.specs.Calls.{work_after, checked_of, check_of, Checks}
use Rattle.checking.specs.Steps.{SameGroups, CheckRead}
use Rattle.promises.proofs.Good.{moved_good}
use Rattle.promises.proofs.Calls.{room_there}
use Rattle.checking.proofs.Drafting.{AllDrafted, draft_over, draft_light, draft_boxes, draft_moves, draft_content}

-- a pair sheet that was read
pub pair_read : {s : List ℕ} {l : PairLayout} → PairRead s (Ok l) → ((i : ℕ) → Fits w8 (get_or s i 0)) → PairAccepted s l
pair_read {s} {l} x of_s = pair_accepted x (bytes_of s of_s) l refl

pub check_refused : {s : List ℕ} {f : Refusal} → PairRead s (Err f) → CheckRead s (Err f)
unfolding check_of
check_refused {f = f} x = gives_refusal f (rw (given_refusal x f refl) refl)

module _ {s : List ℕ} {l : PairLayout} (a : PairAccepted s l) where
  abbrev p : Pair
  p = pair_at l s

  abbrev o : Order
  o = p.order

  module _ {draft w draft' w' : List ℕ} where
    pub check_six : {f : Refusal} → AllDrafted a draft w (Err f) draft' w' → CheckRead s (Err f)
    unfolding check_of checked_of check_refusal work
    check_six {f} x = let over = draft_over a x in gives_refusal f (rw (a.reads, over.1, over.0) refl)

    module _ {d : Drafted} (x : AllDrafted a draft w (Ok d) draft' w') where
      differs : (p.groups ≡ (moved o).groups → ⊥) → CheckRead s (Err GroupsDiffer)
      unfolding check_of checked_of check_refusal work
      differs f =
          let e = false_from_ne_true (same_groups p.groups (moved o).groups) (λ t. f (groups_sound p.groups (moved o).groups t)) in
          gives_refusal GroupsDiffer (rw (a.reads, draft_light a x, e) refl)

      -- the two pairs have the same bytes, and each is read back from them
      module _ (roomy : draft_size ≤ length draft) where
        content : d.boxes ≡ l.boxes → take d.end draft' ≡ groups_bytes (moved o).groups
        content h = draft_content a x (omega (arith, a.laid.total_limit)) roomy

        same : d.boxes ≡ l.boxes → take d.end draft' ≡ drop l.from s → p ≡ moved o
        unfolding pair_bytes
        same h e =
            let g = moved_good limits o (draft_moves a x (omega (arith, a.laid.total_limit))) in
            let c : length p.groups ≡ length (moved o).groups = a.good.counted ∙ sym g.counted in
            let q : groups_bytes p.groups ≡ groups_bytes (moved o).groups = a.group_bytes ∙ (sym e ∙ content h) in
            let k : pair_bytes p ≡ pair_bytes (moved o) = rw (c, q) in
            let u = pair_back limits p (omega arith) (omega arith) (omega arith) a.good in
            let v = pair_back limits (moved o) (omega arith) (omega arith) (omega arith) g in
            let z : accepted p ≡ accepted (moved o) = sym u ∙ (ap (pair_in limits) k ∙ v) in
            cc

        module _ {t : Bool} (found : SameGroups s l draft' d t) where
          pub check_differs : t ≡ false → CheckRead s (Err GroupsDiffer)
          check_differs f =
              differs (λ e.
              let h : d.boxes ≡ l.boxes = draft_boxes a x ∙ (ap (λ (g : List (List Region)). length (together g)) (sym e) ∙ sym a.laid.boxes_are) in
              found.no f h (content h ∙ (ap groups_bytes (sym e) ∙ a.group_bytes)))

          pub check_passes : t ≡ true → CheckRead s (Ok l)
          unfolding check_of checked_of check_refusal work
          check_passes f =
              let y = found.yes f in
              let e = same y.0 y.1 in
              let k : same_groups p.groups (moved o).groups ≡ true = ap (λ (q : Pair). same_groups q.groups (moved o).groups) e ∙ groups_self (moved o).groups in
              record { says = rw (a.reads, draft_light a x, k); laid = a.laid }

-- The call: 1 unless the work buffer is long enough, then what the check came to.
module _ (s w : List ℕ) where
  pub check_short : length w < work_size → Checks s w (Err BufferShort) w
  unfolding room_for work_after answered
  check_short h = let e = lt-leb work_size (length w) h in record { answer = rw e; work = rw e }

  module _ (h : work_size ≤ length w) {w' : List ℕ} (e : w' ≡ zeroed 0 work_size w) where
    pub check_no : {f : Refusal} → CheckRead s (Err f) → Checks s w (Err f) w'
    unfolding work_after answered
    check_no x = let l = room_there work_size w h in record { answer = rw (l, ← x.says); work = rw l e }

    pub check_yes : {l : PairLayout} → CheckRead s (Ok l) → Checks s w (Ok 0) w'
    unfolding work_after answered
    check_yes x = let l = room_there work_size w h in record { answer = rw (l, ← x.says); work = rw l e }

  pub check_once : {r q : Answer} {u v : List ℕ} → Checks s w r u → Checks s w q v → (r ≡ q) × (u ≡ v)
  check_once {r = r} {q = q} x y = (said_once r q (x.answer ∙ sym y.answer), x.work ∙ sym y.work)
