-- Drafting slot by slot: what one slot drafts, and how a draft goes on. Assumes nothing.
use mathlib.Core.Path.{◌≡◌, refl, ap, sym, ◌∙◌}
use mathlib.Core.List.{List, [], ◌∷◌, ◌++◌}
use mathlib.Core.Bool.{Bool, true, false}
use Prim.Native.Nat.{ℕ, zero, suc, ◌+◌, ◌*◌, ◌-◌, ◌≤◌, ◌<◌}
use native.Mathlib.Omega.{arith}
use lib.ListN.{length, take, drop, length-append, drop_of_length-le, take-append-drop}
use lib.Seq.{sets, drop-drop}
use Rattle.lists.specs.Lists.{every}
use Rattle.lists.proofs.Lists.{map-append, append-none, sets-append, every_take}
use Rattle.policy.specs.Fields.{record_size, Limits}
use Rattle.policy.specs.Ranges.{Region}
use Rattle.policy.specs.Rules.{Rule, is_allow, sound, allows_in}
use Rattle.policy.specs.Cut.{group}
use Rattle.policy.specs.Move.{Slot, anew, slots, boxes_of, together, over, over_slot, any_over, groups_of}
use Rattle.policy.proofs.Edits.{slots-append, over-append, together-append, allows_in-append}
use Rattle.wire.specs.Records.{rule_in, rules_in, each_bytes, each_in}
use Rattle.wire.proofs.Records.{rules_from, rules_in-length}
use Rattle.sheet.specs.Pairs.{group_bytes, groups_bytes}
use Rattle.draft.specs.Steps.{stretch, Told, Drafting}
use Rattle.draft.specs.declared.Drafted.{Drafted}
use Rattle.std.specs.Prelude.{Result, Ok, Err}
use Rattle.policy.specs.declared.Refusal.{Refusal}
use Rattle.policy.specs.declared.Refusal.TheVariants.{TooManyPieces}
use Rattle.wire.proofs.Items.{bytes-append}

-- nothing to draft
pub drafting_none : (lim : Limits) (draft : List ℕ) (at boxes : ℕ) → Drafting lim [] draft at boxes (Ok (record { groups = 0; boxes = boxes; end = at })) draft
unfolding Told any_over together each_bytes
drafting_none lim draft at boxes = record { told = (refl, omega arith, λ h. (omega arith, refl)); count = refl }

-- one stretch behind another
pub drafting_over : {lim : Limits} {x : List Slot} (y : List Slot) {draft draft' : List ℕ} (last : List ℕ) {at boxes : ℕ} {f : Refusal}
    → Drafting lim x draft at boxes (Err f) draft' → Drafting lim (x ++ y) draft at boxes (Err f) last
unfolding Told
drafting_over {lim} {x} y last h = record { told = (h.told.0, over-append lim.pieces x y ∙ rw h.told.1); count = tt }

-- the answer of the second, with the groups of the first counted
abbrev pub further : ℕ → Result Drafted Refusal → Result Drafted Refusal
further g (Ok d) = Ok (record { groups = g + d.groups; boxes = d.boxes; end = d.end })
further g (Err f) = Err f

pub further_twice : (g k : ℕ) (r : Result Drafted Refusal) → further g (further k r) ≡ further (g + k) r
further_twice g k (Ok d) = ap (λ (j : ℕ). Ok (record { groups = j; boxes = d.boxes; end = d.end })) (omega arith)
further_twice g k (Err f) = refl

pub drafting_then : {lim : Limits} {x y : List Slot} {draft draft' last : List ℕ} {at boxes : ℕ} {d : Drafted} (r : Result Drafted Refusal)
    → Drafting lim x draft at boxes (Ok d) draft' → Drafting lim y draft' d.end d.boxes r last → Drafting lim (x ++ y) draft at boxes (further d.groups r) last
unfolding Told
drafting_then {lim} {x} {y} (Err f) h k = record { told = (k.told.0, over-append lim.pieces x y ∙ rw (h.told.0, k.told.1)); count = tt }
drafting_then {lim} {x} {y} {draft} {draft'} {last} {at} {boxes} {d} (Ok e) h k =
    let sum : length (together (groups_of (x ++ y))) ≡ length (together (groups_of x)) + length (together (groups_of y)) =
    rw (map-append boxes_of x y, together-append (groups_of x) (groups_of y)) (length-append (together (groups_of x)) (together (groups_of y))) in
    let f : groups_bytes (groups_of (x ++ y)) ≡ groups_bytes (groups_of x) ++ groups_bytes (groups_of y) =
    rw (map-append boxes_of x y) (bytes-append group_bytes (groups_of x) (groups_of y)) in
    let hb = h.told.1 in
    let kb = k.told.1 in
    record {
      told = (
        over-append lim.pieces x y ∙ rw (h.told.0, k.told.0),
        omega arith,
        λ t.
            let u = h.told.2 (omega arith) in
            let v = k.told.2 t in
            (rw (f, length-append) (omega arith), v.1 ∙ rw (u.1, f, sets-append draft at (groups_bytes (groups_of x)) (groups_bytes (groups_of y)), u.0)),
      );
      count = rw (length-append x y) (omega (arith, h.count, k.count));
    }

-- the deny rule at a place, alone
module _ (lim : Limits) (start allows : List Region) (draft : List ℕ) (at boxes : ℕ) where
  pub drafting_one_over : (last : List ℕ) {f : Refusal} → f ≡ TooManyPieces → over lim.pieces start allows ≡ true
      → Drafting lim (anew start allows ∷ []) draft at boxes (Err f) last
  unfolding Told any_over over_slot
  drafting_one_over last e h = record { told = (e, rw h); count = tt }

  pub drafting_one : (n b end : ℕ) (last : List ℕ) → over lim.pieces start allows ≡ false → n ≡ length (group start allows)
      → b ≡ boxes + n → (b ≤ lim.total → (end ≡ at + length (group_bytes (group start allows))) × (last ≡ sets draft at (group_bytes (group start allows))))
      → Drafting lim (anew start allows ∷ []) draft at boxes (Ok (record { groups = 1; boxes = b; end = end })) last
  unfolding Told any_over over_slot boxes_of together each_bytes
  drafting_one n b end last h e f g =
      record {
        told = (
          rw h,
          rw (append-none (group start allows)) (omega arith),
          λ t.
              let u = g t in
              (rw (append-none (group_bytes (group start allows))) u.0, rw (append-none (group_bytes (group start allows))) u.1),
        );
        count = refl;
      }

pub rules_front : (i n : ℕ) (s : List ℕ) → i ≤ n → take i (rules_in n s) ≡ rules_in i s
unfolding each_in
rules_front zero n s h = refl
rules_front (suc i) zero s h = absurd (omega arith)
rules_front (suc i) (suc n) s h = ap (λ (l : List Rule). rule_in s ∷ l) (rules_front i n (drop record_size s) (omega arith))

pub rules_sound_front : (i n : ℕ) (s : List ℕ) → i ≤ n → every sound (rules_in n s) ≡ true → every sound (rules_in i s) ≡ true
rules_sound_front i n s h e = rw (rules_front i n s h) at (every_take sound i (rules_in n s) e)

-- The rules from a place on, one at a time, wherever their groups start.
module _ (start : Region → List Region) (s : List ℕ) (i : ℕ) where
  abbrev here : Rule
  here = rule_in (drop (record_size * i) s)

  left-cons : (to : ℕ) → i < to → drop i (rules_in to s) ≡ here ∷ drop (i + 1) (rules_in to s)
  unfolding each_in
  left-cons to h =
      let e : to - i ≡ suc (to - (i + 1)) = omega arith in
      let f : record_size * i + record_size ≡ record_size * (i + 1) = omega arith in
      rw (rules_from i to s, rules_from (i + 1) to s, e, drop-drop record_size (record_size * i) s, f)

  one_left : drop i (rules_in (i + 1) s) ≡ here ∷ []
  one_left =
      let e = rules_in-length (i + 1) s in
      let f : length (rules_in (i + 1) s) ≤ i + 1 = omega arith in
      rw (left-cons (i + 1) (omega arith), drop_of_length-le (rules_in (i + 1) s) f)

  allows_next : allows_in (rules_in (i + 1) s) ≡ allows_in (rules_in i s) ++ allows_in (here ∷ [])
  allows_next =
      ap allows_in (sym (take-append-drop i (rules_in (i + 1) s)) ∙ rw (rules_front i (i + 1) s (omega arith), one_left))
      ∙ allows_in-append (rules_in i s) (here ∷ [])

  pub stretch_none : stretch start i i s ≡ []
  unfolding slots
  stretch_none =
      let e = rules_in-length i s in
      let f : length (rules_in i s) ≤ i = omega arith in
      rw (drop_of_length-le (rules_in i s) f)

  pub stretch_next : (to : ℕ) → i < to → stretch start i to s ≡ stretch start i (i + 1) s ++ stretch start (i + 1) to s
  stretch_next to h =
      rw (left-cons to h, one_left, allows_next)
      (slots-append start (allows_in (rules_in i s)) (here ∷ []) (drop (i + 1) (rules_in to s)))

  pub stretch_allow : is_allow here ≡ true → stretch start i (i + 1) s ≡ []
  unfolding slots
  stretch_allow h = rw (one_left, h)

  pub stretch_deny : is_allow here ≡ false → stretch start i (i + 1) s ≡ anew (start here.region) (allows_in (rules_in i s)) ∷ []
  unfolding slots
  stretch_deny h = rw (one_left, h)

  pub one_slot : length (stretch start i (i + 1) s) ≤ 1
  one_slot = go (is_allow here) refl
    where
      go : (b : Bool) → is_allow here ≡ b → length (stretch start i (i + 1) s) ≤ 1
      go true h = rw (stretch_allow h) (omega arith)
      go false h = rw (stretch_deny h) (omega arith)
