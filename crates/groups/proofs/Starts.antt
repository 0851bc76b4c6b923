-- A start put at the front, and what is worked out of it. Assumes nothing.
use mathlib.Core.Path.{◌≡◌, refl, ap, sym, ◌∙◌}
use mathlib.Core.List.{List, ◌++◌, append-nil}
use mathlib.Core.Bool.{true}
use Prim.Native.Nat.{ℕ, ◌+◌, ◌*◌, ◌≤◌}
use native.Mathlib.Omega.{arith}
use lib.ListN.{length, drop}
use lib.Seq.{sets, sets-eq, take_at, take-append-le, drop-append-add, drop-drop}
use Rattle.lists.specs.Lists.{Each, every}
use Rattle.policy.specs.Fields.{box_size, record_size, work_size}
use Rattle.policy.specs.Ranges.{Region}
use Rattle.policy.specs.Rules.{Proper, sound}
use Rattle.wire.specs.Records.{box_bytes, box_in, boxes_bytes, boxes_in, rule_in, rules_in, each_bytes}
use Rattle.wire.proofs.Records.{boxes_bytes-length, boxes_back}
use Rattle.policy.specs.Move.{alone}
use Rattle.policy.specs.Cut.{group}
use Rattle.groups.specs.Steps.{start_at, allows_at, GroupStands, WorkedFrom, AllTaken, capacity, half_size, Started}
use Rattle.std.specs.Prelude.{Result, Ok, Err, IfOk}
use Rattle.policy.specs.declared.Refusal.{Refusal}
use Rattle.groups.proofs.Pieces.{proper_all}
use Rattle.groups.proofs.Works.{proper_at}

-- Any start of boxes that number 4 lets pass, no more than a half has room for.
started : (start : List Region) → Each Proper start → length start ≤ capacity → (pieces : List ℕ) {pieces' : List ℕ} → half_size ≤ length pieces → pieces' ≡ sets pieces 0 (boxes_bytes start)
    → Started start (length start) pieces'
started start proper few pieces {pieces'} room f =
    let fits = proper_all start proper in
    let bytes : List ℕ = boxes_bytes start in
    let size : ℕ = box_size * length start in
    let l : length bytes ≡ size = boxes_bytes-length start fits in
    let z : 0 + length bytes ≡ size = omega arith in
    let lies : pieces' ≡ bytes ++ drop size pieces = f ∙ (sets-eq bytes pieces 0 (omega arith) ∙ ap (λ (k : ℕ). bytes ++ drop k pieces) z) in
    let boxes : boxes_in (length start) pieces' ≡ start = rw lies (boxes_back start (drop size pieces) fits) in
    record {
      few = few;
      stands = record { each = rw boxes proper; written = rw (boxes, lies) (take_at bytes (drop size pieces) size l) };
      boxes = boxes;
    }

-- The deny rule's box alone.
pub started_alone : (rules : List ℕ) (i : ℕ) (b : Region) (pieces : List ℕ) {pieces' : List ℕ} → every sound (rules_in (i + 1) rules) ≡ true → b ≡ box_in (drop (record_size * i) rules) → half_size ≤ length pieces
    → pieces' ≡ sets pieces 0 (box_bytes b) → Started (start_at alone i rules) 1 pieces'
unfolding rule_in each_bytes Each
started_alone rules i b pieces {pieces'} h e room f =
    started (start_at alone i rules) (proper_at (i + 1) rules i h (omega arith) refl, tt) (omega arith) pieces room (f ∙ rw (e, append-nil) refl)

-- What is worked out in the two halves, the start put into the first, is worked out in the work buffer.
group_in_both : (g : List Region) (pieces out : List ℕ) → length pieces ≡ half_size → (r : Result ℕ Refusal) → IfOk r (λ n. n ≤ capacity) → GroupStands g pieces r → GroupStands g (pieces ++ out) r
group_in_both g pieces out wide (Ok n) few h = take-append-le (box_size * n) pieces out (omega arith) ∙ h
group_in_both g pieces out wide (Err f) few h = tt

pub worked_from : {start : List Region} {work first pieces out out' : List ℕ} {n : ℕ} {rules : List ℕ} {i : ℕ} {r : Result ℕ Refusal} → Started start n first
    → AllTaken (boxes_in n first) rules i out pieces out' r → length pieces ≡ half_size → out ≡ drop half_size work → WorkedFrom start rules i work r (pieces ++ out')
worked_from {start} {work} {first} {pieces} {out} {out'} {n} {rules} {i} {r} s a wide e =
    let both : length pieces + half_size ≡ work_size = omega arith in
    let halves : half_size + half_size ≡ work_size = omega arith in
    record {
      answer = rw s.boxes at a.answer;
      boxes = group_in_both (group start (allows_at i rules)) pieces out' wide r a.few (rw s.boxes at a.boxes);
      beyond =
          ap (λ (k : ℕ). drop k (pieces ++ out')) (sym both)
          ∙ (drop-append-add pieces out' half_size ∙ (a.beyond ∙ (ap (drop half_size) e ∙ (drop-drop half_size half_size work ∙ ap (λ (k : ℕ). drop k work) halves))));
    }
