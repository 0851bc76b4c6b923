-- What each arm of drafting one rule, and each turn of drafting many, gives. Assumes nothing.
use mathlib.Core.Path.{◌≡◌, refl, ap, sym, ◌∙◌}
use mathlib.Core.List.{List, ◌++◌}
use mathlib.Core.Bool.{Bool, true, false}
use Prim.Native.Nat.{ℕ, ◌+◌, ◌*◌, ◌-◌, ◌≤◌, ◌<◌}
use native.Mathlib.Omega.{arith}
use lib.ListN.{length, take, drop, length-append}
use lib.Seq.{sets, length-take-le}
use Rattle.lists.proofs.Parts.{tail_sets}
use Rattle.policy.specs.Fields.{box_size, count_size, record_size, limits, work_size}
use Rattle.policy.specs.Ranges.{Region}
use Rattle.policy.specs.Rules.{Rule, is_allow}
use Rattle.policy.specs.Cut.{group}
use Rattle.policy.specs.Move.{over}
use Rattle.policy.proofs.Groups.{over_few}
use Rattle.wire.specs.Numbers.{number_bytes}
use Rattle.wire.specs.Records.{boxes_bytes, rule_in}
use Rattle.wire.proofs.Numbers.{number_bytes-length}
use Rattle.groups.specs.Steps.{start_at, allows_at, worked_of, WorkedFrom, WorkedOut}
use Rattle.groups.proofs.Works.{err_told, ok_told}
use Rattle.sheet.specs.Pairs.{group_size, group_bytes}
use Rattle.draft.specs.Steps.{Appended, stretch, Drafting, Bounded, Ready, DraftedGroups}
use Rattle.draft.specs.declared.Drafted.{Drafted}
use Rattle.std.specs.Prelude.{Result, Ok, Err}
use Rattle.policy.specs.declared.Refusal.{Refusal}
use Rattle.policy.specs.declared.Refusal.TheVariants.{TooManyPieces}
use Rattle.draft.proofs.Drafts.{drafting_none, drafting_over, further, drafting_then, drafting_one_over, drafting_one, stretch_none, stretch_next, stretch_allow, stretch_deny, rules_sound_front, further_twice, one_slot}

pub appended_in : (draft : List ℕ) (at boxes n : ℕ) (content y last : List ℕ) → length content ≡ box_size * n → at + group_size n ≤ length draft
    → y ≡ sets (take (length draft - at) (drop at draft)) 0 (number_bytes count_size n ++ content)
    → last ≡ take at draft ++ (y ++ drop (length draft - at) (drop at draft))
    → Appended draft at boxes n content (at + count_size + length content) last
appended_in draft at boxes n content y last l h e f =
    let k : length (number_bytes count_size n ++ content) ≡ group_size n = rw (length-append, number_bytes-length) (omega arith) in
    record {
      put = λ _. (omega arith, f ∙ rw e (tail_sets draft at (number_bytes count_size n ++ content) (omega arith)));
      short = omega arith;
    }

-- what an answer of the worked-out group says
module _ {ds : List Region} {rules : List ℕ} {i : ℕ} {w w' : List ℕ} where
  pub worked_over : {f : Refusal} → WorkedFrom ds rules i w (Err f) w' → (f ≡ TooManyPieces) × (over limits.pieces ds (allows_at i rules) ≡ true)
  unfolding worked_of
  worked_over x = err_told _ _ _ x.answer

  pub worked_boxes : {n : ℕ} → WorkedFrom ds rules i w (Ok n) w' → (over limits.pieces ds (allows_at i rules) ≡ false) × (n ≡ length (group ds (allows_at i rules)))
  unfolding worked_of
  worked_boxes x = ok_told _ _ _ x.answer

  pub worked_few : {n : ℕ} → length ds ≤ limits.pieces → WorkedFrom ds rules i w (Ok n) w' → n ≤ limits.pieces
  worked_few h x =
      let z = worked_boxes x in
      let f = over_few limits.pieces ds (allows_at i rules) z.0 h in
      omega arith

-- what the rule that was read tells of the rule at a place
pub allow_told : (rules : List ℕ) (i : ℕ) {r : Rule} {told answer : Bool} → r ≡ rule_in (drop (record_size * i) rules) → told ≡ is_allow r → told ≡ answer → is_allow (rule_in (drop (record_size * i) rules)) ≡ answer
allow_told rules i e f g = rw e at (sym f ∙ g)

module _ (start : Region → List Region) {rules : List ℕ} {i : ℕ} {draft : List ℕ} {at boxes : ℕ} {w : List ℕ} (ready : Ready rules i (i + 1) draft at boxes w) where
  pub drafted_allow : is_allow (rule_in (drop (record_size * i) rules)) ≡ true → DraftedGroups start rules i (i + 1) draft at boxes w (Ok (record { groups = 0; boxes = boxes; end = at })) draft w
  drafted_allow h = record {
    drafting = rw (stretch_allow start rules i h) (drafting_none limits draft at boxes);
    ends = record { short = omega (arith, ready.start.short); few = omega (arith, ready.start.few) };
    beyond = refl;
  }

  module _ (deny : is_allow (rule_in (drop (record_size * i) rules)) ≡ false) {w' : List ℕ} where
    pub drafted_over : {f : Refusal} → WorkedOut start rules i w (Err f) w' → DraftedGroups start rules i (i + 1) draft at boxes w (Err f) draft w'
    drafted_over x = record {
      drafting = rw (stretch_deny start rules i deny) (drafting_one_over limits (start_at start i rules) (allows_at i rules) draft at boxes draft (worked_over x).0 (worked_over x).1);
      ends = tt;
      beyond = x.beyond;
    }

    pub drafted_boxes : {n end : ℕ} {draft' : List ℕ} → length (start_at start i rules) ≤ limits.pieces → WorkedOut start rules i w (Ok n) w' → box_size * n ≤ length w'
        → Appended draft at (boxes + n) n (take (box_size * n) w') end draft'
        → DraftedGroups start rules i (i + 1) draft at boxes w (Ok (record { groups = 1; boxes = boxes + n; end = end })) draft' w'
    unfolding group_bytes
    drafted_boxes {n} {end} {draft'} h x l a =
        let g : List Region = group (start_at start i rules) (allows_at i rules) in
        let z = worked_boxes x in
        let f = worked_few h x in
        let b : number_bytes count_size n ++ take (box_size * n) w' ≡ group_bytes g = ap (λ (t : List ℕ). number_bytes count_size n ++ t) x.boxes ∙ ap (λ (k : ℕ). number_bytes count_size k ++ boxes_bytes g) z.1 in
        let k : group_size n ≡ length (group_bytes g) = sym (ap length (sym b) ∙ rw (length-append, number_bytes-length, length-take-le (box_size * n) w' l)) in
        record {
          drafting = rw (stretch_deny start rules i deny)
              (drafting_one limits (start_at start i rules) (allows_at i rules) draft at boxes n (boxes + n) end draft' z.0 z.1 refl
              (λ t. let u = a.put t in (u.0 ∙ ap (λ (q : ℕ). at + q) k, u.1 ∙ ap (sets draft at) b)));
          ends = record { short = omega (arith, a.short, ready.start.short); few = omega (arith, ready.start.few) };
          beyond = x.beyond;
        }

-- On the way: the rules before place i are drafted, so many groups, and what is left to draft leads to the whole.
pub record Going (start : Region → List Region) (rules : List ℕ) (from to : ℕ) (draft₀ : List ℕ) (boxes : ℕ) (work₀ draft work : List ℕ) (i count end sum : ℕ) : Type 0 where
  pub up_to : i ≤ to
  pub few : count ≤ i
  pub long : length draft ≡ length draft₀
  pub work_long : length work ≡ length work₀
  pub bounded : Bounded i sum end
  pub beyond : drop work_size work ≡ drop work_size work₀
  pub onward : (r : Result Drafted Refusal) (last : List ℕ) → Drafting limits (stretch start i to rules) draft end sum r last → Drafting limits (stretch start from to rules) draft₀ 0 boxes (further count r) last

module _ {start : Region → List Region} {rules : List ℕ} {from to : ℕ} {draft₀ : List ℕ} {boxes : ℕ} {work₀ : List ℕ} (ready : Ready rules from to draft₀ 0 boxes work₀) where
  module _ {draft work : List ℕ} {i count end sum : ℕ} (g : Going start rules from to draft₀ boxes work₀ draft work i count end sum) where
    pub going_done : to ≤ i → DraftedGroups start rules from to draft₀ 0 boxes work₀ (Ok (record { groups = count; boxes = sum; end = end })) draft work
    going_done h =
        let e : i ≡ to = omega (arith, g.up_to) in
        let z : count + 0 ≡ count = omega arith in
        record {
          drafting = rw z at (g.onward (Ok (record { groups = 0; boxes = sum; end = end })) draft (rw (← e, stretch_none start rules i) (drafting_none limits draft end sum)));
          ends = rw e at g.bounded;
          beyond = g.beyond;
        }

    module _ (more : i < to) where
      pub going_ready : Ready rules i (i + 1) draft end sum work
      going_ready = record {
        records = omega (arith, ready.records);
        rules_sound = rules_sound_front (i + 1) to rules (omega arith) ready.rules_sound;
        up_to = omega arith;
        gate = omega (arith, ready.gate);
        room = rw g.long ready.room;
        start = g.bounded;
        work_room = rw g.work_long ready.work_room;
      }

      pub going_count : {d : Drafted} {draft' work' : List ℕ} → DraftedGroups start rules i (i + 1) draft end sum work (Ok d) draft' work' → d.groups ≤ 1
      going_count x = omega (arith, x.drafting.count, one_slot start rules i)

      pub going_next : {d : Drafted} {draft' work' : List ℕ} → DraftedGroups start rules i (i + 1) draft end sum work (Ok d) draft' work'
          → length draft' ≡ length draft → length work' ≡ length work → Going start rules from to draft₀ boxes work₀ draft' work' (i + 1) (count + d.groups) d.end d.boxes
      going_next {d} x l m = record {
        up_to = omega arith;
        few = omega (arith, g.few, going_count x);
        long = l ∙ g.long;
        work_long = m ∙ g.work_long;
        bounded = x.ends;
        beyond = x.beyond ∙ g.beyond;
        onward = λ r last y. rw (further_twice count d.groups r) at (g.onward (further d.groups r) last (rw (stretch_next start rules i to more) (drafting_then r x.drafting y)));
      }

      pub going_over : {f : Refusal} {draft' work' : List ℕ} → DraftedGroups start rules i (i + 1) draft end sum work (Err f) draft' work'
          → DraftedGroups start rules from to draft₀ 0 boxes work₀ (Err f) draft' work'
      going_over {f} {draft'} x = record {
        drafting = g.onward (Err f) draft' (rw (stretch_next start rules i to more) (drafting_over (stretch start (i + 1) to rules) draft' x.drafting));
        ends = tt;
        beyond = x.beyond ∙ g.beyond;
      }
