-- The group of one rule, and the bytes of kept groups behind it, at the front of the work buffer. Assumes nothing.
use Rattle.std.specs.Prelude.{Result, Ok, Err}
use mathlib.Core.Path.{◌≡◌, refl, ap, sym, ◌∙◌}
use mathlib.Core.List.{List, [], ◌∷◌, ◌++◌, append_assoc}
use mathlib.Core.Bool.{Bool, true, false}
use Prim.Native.Nat.{ℕ, ◌+◌, ◌*◌, ◌-◌, ◌≤◌, ◌<◌}
use native.Mathlib.Omega.{arith}
use lib.ListN.{length, take, drop, length-append, length-drop}
use lib.Seq.{sets, take_at, drop_at, drop-drop, length-sets, length-take-le}
use Rattle.lists.proofs.Lists.{append-none, drop-sets, sets-parts}
use Rattle.policy.specs.Fields.{box_size, count_size, record_size, limits, work_size}
use Rattle.policy.specs.Ranges.{Region}
use Rattle.policy.specs.Rules.{is_allow, any_allow}
use Rattle.policy.specs.declared.Refusal.{Refusal}
use Rattle.policy.specs.Cut.{group}
use Rattle.policy.specs.Move.{Slot, anew, boxes_of, together, over_slot, any_over}
use Rattle.wire.specs.Numbers.{number_bytes}
use Rattle.wire.specs.Records.{rule_in, boxes_bytes, each_bytes}
use Rattle.wire.specs.Steps.{copied_up}
use Rattle.wire.proofs.Numbers.{number_bytes-length}
use Rattle.groups.specs.Steps.{start_at, allows_at, Workable, WorkedOut}
use Rattle.sheet.specs.Pairs.{group_bytes}
use Rattle.sheet.specs.Steps.{rules_of}
use Rattle.sheet.proofs.Parts.{part_from}
use Rattle.draft.specs.Steps.{stretch, Told}
use Rattle.draft.proofs.Drafts.{stretch_none, stretch_allow, stretch_deny, rules_sound_front}
use Rattle.draft.proofs.Turns.{worked_over, worked_boxes, worked_few}
use Rattle.edit_groups.proofs.Touched.{only_rule}
use Rattle.edit_groups.specs.Steps.{NoneDenies, JoinReady, JoinedIn, Gathering, Gathered}

-- the rules of a list, behind its count
abbrev pub records_in : List ℕ → List ℕ
records_in list = take (length list - count_size) (drop count_size list)

-- no rule; and one that allows or denies
pub no_rule : (list : List ℕ) (place to : ℕ) → to ≡ place → NoneDenies list place to true
unfolding NoneDenies
no_rule list place to e = λ start. rw e (stretch_none start (drop count_size list) place)

rule_told : (list : List ℕ) (place to : ℕ) → to ≡ place + 1 → (b : Bool) → b ≡ is_allow (rule_in (drop (record_size * place) (drop count_size list))) → NoneDenies list place to b
unfolding NoneDenies
rule_told list place to e true h = λ start. rw e (stretch_allow start (drop count_size list) place (sym h))
rule_told list place to e false h = (omega arith, sym h)

pub one_rule : (list : List ℕ) (place to : ℕ) → to ≡ place + 1 → (b : Bool) → b ≡ any_allow (drop place (rules_of (place + (to - place)) list)) → NoneDenies list place to b
one_rule list place to e b h =
    let n : to - place ≡ 1 = omega arith in
    rule_told list place to e b (rw n at h ∙ only_rule place (drop count_size list))

-- the boxes moved up by a count, the count before them, the bytes behind them
module _ {w back : List ℕ} {n : ℕ} (h : JoinReady w n back) where
  pub joined_in : (w₁ w₂ w₃ : List ℕ) (r : ℕ) → w₁ ≡ copied_up count_size (box_size * n) w → w₂ ≡ sets w₁ 0 (number_bytes count_size n)
      → (r ≡ count_size + box_size * n + length back) × (w₃ ≡ sets w₂ (count_size + box_size * n) back) → JoinedIn w n back r w₃
  unfolding copied_up
  joined_in w₁ w₂ w₃ r e₁ e₂ e₃ =
      let f = h.fits in
      let m = h.room in
      let boxes : List ℕ = take (box_size * n) w in
      let number : List ℕ = number_bytes count_size n in
      let rest : List ℕ = drop (count_size + box_size * n) w in
      let lb : length boxes ≡ box_size * n = length-take-le (box_size * n) w (omega arith) in
      let ln : length number ≡ count_size = number_bytes-length count_size n in
      let lc : length (take count_size w) ≡ count_size = length-take-le count_size w (omega arith) in
      let l₁ : count_size ≤ length w₁ = rw (e₁, length-append, lc) (omega arith) in
      let z : 0 + length number ≡ count_size = omega arith in
      let d₁ : drop count_size w₁ ≡ boxes ++ rest = ap (drop count_size) e₁ ∙ drop_at (take count_size w) (boxes ++ rest) count_size lc in
      let p₂ : w₂ ≡ (number ++ boxes) ++ rest = e₂ ∙ sets-parts w₁ 0 number (omega arith) ∙ rw (z, d₁) (sym (append_assoc number boxes rest)) in
      let lg : length (number ++ boxes) ≡ count_size + box_size * n = length-append number boxes ∙ omega arith in
      let lr : length rest ≡ length w - (count_size + box_size * n) = length-drop (count_size + box_size * n) w in
      let l₂ : length w₂ ≡ length w = rw (p₂, length-append, lg) (omega arith) in
      let t₂ : take (count_size + box_size * n) w₂ ≡ number ++ boxes = ap (take (count_size + box_size * n)) p₂ ∙ take_at (number ++ boxes) rest (count_size + box_size * n) lg in
      let p₃ : w₃ ≡ ((number ++ boxes) ++ back) ++ drop (count_size + box_size * n + length back) w₂ =
      e₃.1 ∙ sets-parts w₂ (count_size + box_size * n) back (omega arith) ∙ rw t₂ (sym (append_assoc (number ++ boxes) back (drop (count_size + box_size * n + length back) w₂))) in
      let lj : length ((number ++ boxes) ++ back) ≡ r = length-append (number ++ boxes) back ∙ omega (arith, e₃.0) in
      let i : count_size + box_size * n + (work_size - (count_size + box_size * n)) ≡ work_size = omega arith in
      let b₂ : drop work_size w₂ ≡ drop work_size w =
      ap (λ (k : ℕ). drop k w₂) (sym i) ∙ sym (drop-drop (work_size - (count_size + box_size * n)) (count_size + box_size * n) w₂)
      ∙ ap (drop (work_size - (count_size + box_size * n))) (ap (drop (count_size + box_size * n)) p₂ ∙ drop_at (number ++ boxes) rest (count_size + box_size * n) lg)
      ∙ drop-drop (work_size - (count_size + box_size * n)) (count_size + box_size * n) w ∙ ap (λ (k : ℕ). drop k w) i in
      record {
        end = omega (arith, e₃.0);
        bytes = ap (take r) p₃ ∙ take_at ((number ++ boxes) ++ back) (drop (count_size + box_size * n + length back) w₂) r lj;
        beyond = ap (drop work_size) e₃.1 ∙ drop-sets work_size w₂ (count_size + box_size * n) back (omega arith) ∙ b₂;
      }

module _ (start : Region → List Region) {list : List ℕ} {place to boxes : ℕ} {back w : List ℕ} (ready : Gathering list place to boxes back w) where
  abbrev rules : List ℕ
  rules = drop count_size list

  back_fits : length back ≤ work_size
  back_fits = omega (arith, ready.size, ready.few)

  -- no group: the kept ones alone
  pub gathered_kept : {end : ℕ} {w' : List ℕ} → NoneDenies list place to true → (end ≡ 0 + length back) × (w' ≡ sets w 0 back) → Gathered start list place to boxes back w (Ok (record { groups = 0; boxes = boxes; end = end })) w'
  unfolding NoneDenies Told any_over together each_bytes
  gathered_kept {end} d e =
      let z : 0 + length back ≡ length back = omega arith in
      let p = e.1 ∙ sets-parts w 0 back (omega (arith, back_fits, ready.work_room)) in
      record {
        joined = rw (d start) (refl, omega arith, λ t. (rw (e.1, length-sets w 0 back) (omega (arith, e.0, back_fits, ready.work_room)), ap (take end) p ∙ take_at back (drop (0 + length back) w) end (omega (arith, e.0))));
        count = rw (d start) refl;
        beyond = ap (drop work_size) e.1 ∙ drop-sets work_size w 0 back (omega (arith, back_fits));
      }

  module _ (d : NoneDenies list place to false) where
    pub denied_place : place < to
    unfolding NoneDenies
    denied_place = d.0

    pub gathered_workable : Workable (records_in list) place w
    gathered_workable =
        let h = denied_place in
        rw (part_from list count_size) (rw length-drop (omega (arith, ready.records)), ready.work_room, rules_sound_front (place + 1) to rules (omega arith) ready.rules_sound)

    abbrev slot : Slot
    slot = anew (start_at start place rules) (allows_at place rules)

    stretch_is : stretch start place to rules ≡ slot ∷ []
    unfolding NoneDenies
    stretch_is = let e : to ≡ place + 1 = omega (arith, d.0, ready.one) in rw e (stretch_deny start rules place d.1)

    worked : {r : Result ℕ Refusal} {w' : List ℕ} → WorkedOut start (records_in list) place w r w' → WorkedOut start rules place w r w'
    worked x = rw (part_from list count_size) at x

    pub gathered_over : {f : Refusal} {w' : List ℕ} → WorkedOut start (records_in list) place w (Err f) w' → Gathered start list place to boxes back w (Err f) w'
    unfolding Told any_over over_slot
    gathered_over y = let x = worked y in let z = worked_over x in record { joined = (z.0, rw (stretch_is, z.1)); count = tt; beyond = x.beyond }

    module _ (short : length (start_at start place rules) ≤ limits.pieces) {n : ℕ} {w₁ : List ℕ} (y : WorkedOut start (records_in list) place w (Ok n) w₁) where
      x : WorkedOut start rules place w (Ok n) w₁
      x = worked y

      pub gathered_few : n ≤ limits.pieces
      gathered_few = worked_few short x

      abbrev g : List Region
      g = group (start_at start place rules) (allows_at place rules)

      -- past the total nothing is joined
      pub gathered_past : limits.total < boxes + n → Gathered start list place to boxes back w (Ok (record { groups = 1; boxes = boxes + n; end = 0 })) w₁
      unfolding Told any_over over_slot boxes_of together
      gathered_past h =
          let z = worked_boxes x in
          record {
            joined = rw stretch_is (rw z.0, rw (append-none g) (omega (arith, z.1)), λ t. absurd (omega arith));
            count = rw stretch_is refl;
            beyond = x.beyond;
          }

      pub join_ready : boxes + n ≤ limits.total → length w₁ ≡ length w → JoinReady w₁ n back
      join_ready h l = record { few = omega (arith, gathered_few); fits = omega (arith, ready.size); room = omega (arith, ready.work_room) }

      pub gathered_join : {end : ℕ} {w' : List ℕ} → boxes + n ≤ limits.total → length w' ≡ length w → JoinedIn w₁ n back end w' → Gathered start list place to boxes back w (Ok (record { groups = 1; boxes = boxes + n; end = end })) w'
      unfolding Told any_over over_slot boxes_of together group_bytes each_bytes
      gathered_join {end} h l j =
          let z = worked_boxes x in
          let c : number_bytes count_size n ++ take (box_size * n) w₁ ≡ number_bytes count_size (length g) ++ boxes_bytes g = ap (λ (t : List ℕ). number_bytes count_size n ++ t) x.boxes ∙ ap (λ (k : ℕ). number_bytes count_size k ++ boxes_bytes g) z.1 in
          record {
            joined = rw stretch_is (
              rw z.0,
              rw (append-none g) (omega (arith, z.1)),
              λ t. (omega (arith, j.end, ready.size, ready.work_room), rw (append-none (number_bytes count_size (length g) ++ boxes_bytes g)) (j.bytes ∙ ap (λ (u : List ℕ). u ++ back) c)),
            );
            count = rw stretch_is refl;
            beyond = j.beyond ∙ x.beyond;
          }
