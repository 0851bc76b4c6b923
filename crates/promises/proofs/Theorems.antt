-- The theorems of specs/Theorems.antt, from what the calls' statements say. Assumes nothing.
use Rattle.std.specs.Prelude.{Ok, Err}
use mathlib.Core.Path.{◌≡◌, refl, ap, sym, subst, ◌∙◌}
use mathlib.Core.List.{List, [], ◌∷◌, ◌++◌, append_assoc}
use mathlib.Core.Bool.{Bool, true, false, cond}
use Prim.Native.Nat.{ℕ, ◌-◌, ◌≤◌}
use native.Mathlib.Omega.{arith}
use lib.Dec.{leb}
use lib.ListN.{length, take, drop, replicate, length-append, length-replicate}
use lib.Seq.{take_at}
use borrow.Author.Tests.{leb-true}
use Rattle.lists.proofs.Tests.{and_true}
use Rattle.policy.specs.Fields.{limits, work_size}
use Rattle.policy.specs.Refusals.{Answer, Outcome, accepted, refused, test, said}
use Rattle.policy.specs.Move.{Order, Pair, moved}
use Rattle.policy.proofs.Refused.{move_refusal}
use Rattle.policy.specs.Edit.{new_order, all_done}
use Rattle.policy.proofs.Answers.{said_once, test_accepted}
use Rattle.wire.specs.Buffers.{filled, written, length_of, answered, room_for}
use Rattle.sheet.specs.Orders.{order_bytes}
use Rattle.sheet.specs.Pairs.{pair_in, pair_bytes, pair_size}
use Rattle.sheet.proofs.Outcomes.{through}
use Rattle.promises.specs.Calls.{both_lent, move_of, check_of}
use Rattle.promises.specs.Edits.{edit_of, change_of, edited_of, edit_lent}
use Rattle.promises.specs.Theorems.{
  Held,
  held,
  MoveTheorem,
  CheckTheorem,
  EditCall,
  length_now,
  if_length,
  accepted_edits,
  EditCalls,
  MoveAndEdits,
  RunTheorem,
  LengthTheorem,
  SameAnswer,
  NextTheorem,
  OthersTheorem,
  PlannerTheorem,
}
use Rattle.promises.proofs.Calls.{CallAccepted, call_accepted}
use Rattle.promises.proofs.Demands.{
  limits_small,
  move_read,
  move_again,
  sheet_short,
  demand_two,
  check_is_move,
  other_length,
  edit_done,
  edit_as_fresh_move,
  edited_is,
  edited_sheet,
  gate_edit_keeps_others,
  own_edit_keeps_groups,
}

-- what an accepted call that writes a pair sheet leaves
leaves_held : {lent : Bool} {x : Outcome Pair} {out left : List ℕ} {n : ℕ} (c : CallAccepted pair_bytes pair_size lent x out left n)
    → record { buffer = left; used = n } ≡ held out c.value
leaves_held c = λ i. record { buffer = c.leaves i; used = c.answer i }

-- Demand 2.
pub move_call_holds : MoveTheorem
move_call_holds s out w left w' n bytes x =
    let m = call_accepted pair_bytes pair_size (both_lent pair_size out w) (move_of limits s) x in
    let d = demand_two limits limits_small s m.value bytes m.is in
    (d.0, m.value, d.1, leaves_held m)

checked : (lent : Bool) (x : Outcome Pair) (n : ℕ) → accepted n ≡ answered 0 (test lent 1 x) → (p : Pair) × (x ≡ accepted p)
unfolding answered
checked true (accepted p) n e = (p, refl)
checked true (refused k) n e = let z : ◌≡◌ {A = ℕ} 0 1 = cc in absurd (omega arith)
checked false x n e = let z : ◌≡◌ {A = ℕ} 0 1 = cc in absurd (omega arith)

pub check_call_is_move : CheckTheorem
check_call_is_move s w w' n bytes x =
    let c = checked (room_for work_size w) (check_of limits s) n x.answer in
    (c.0, check_is_move limits limits_small s c.0 bytes c.1)

-- where a run leads from an accepted move: to the accepted move of the lists with the accepted edits done
abbrev Ends : List EditCall → List ℕ → Order → Held → Type 0
Ends l out o last =
    let now = all_done (accepted_edits l) o in
    (move_refusal limits now ≡ 0) × (held out (moved now) ≡ last)

run_ends : (l : List EditCall) (out : List ℕ) (o : Order) (last : Held) → move_refusal limits o ≡ 0 → EditCalls l (held out (moved o)) last → Ends l out o last
unfolding EditCalls accepted_edits all_done length_of written
run_ends [] out o last h e = (h, e)
run_ends (c ∷ l) out o last h (left, w', x, rest) = go c.answer (test lent 1 does) refl x.answer x.result rest (λ o' h' r. run_ends l out o' last h' r)
  where
    first : Held
    first = held out (moved o)

    lent : Bool
    lent = edit_lent first.buffer c.used c.work

    does : Outcome Pair
    does = edited_of limits (take c.used first.buffer) c.asked

    go : (r : Answer) (y : Outcome Pair) → test lent 1 does ≡ y → said r ≡ length_of pair_bytes y → left ≡ written pair_bytes pair_size first.buffer y
        → EditCalls l (record { buffer = left; used = length_now r first.used }) last
        → ((o' : Order) → move_refusal limits o' ≡ 0 → EditCalls l (held out (moved o')) last → Ends l out o' last)
        → (move_refusal limits (all_done (if_length r (edit_of c.asked) (accepted_edits l)) o) ≡ 0)
        × (held out (moved (all_done (if_length r (edit_of c.asked) (accepted_edits l)) o)) ≡ last)
    go (Ok n) (accepted p) is e f more done =
        let t = test_accepted lent 1 does is in
        let k = and_true (leb c.used (length first.buffer)) _ (and_true (room_for pair_size first.buffer) _ t.0).1 in
        let d = edit_done limits limits_small out o c.used c.asked p h (leb-true c.used (length first.buffer) k.0) t.1 in
        let n-is : n ≡ length (pair_bytes p) = cc in
        let s : record { buffer = left; used = n } ≡ held out (moved (new_order (edit_of c.asked) o)) = (λ i. record { buffer = f i; used = n-is i }) ∙ d.1 in
        done (new_order (edit_of c.asked) o) d.0 (subst (λ (x : Held). EditCalls l x last) s more)
    go (Err g) (refused k) is e f more done =
        let s : record { buffer = left; used = first.used } ≡ first = λ i. record { buffer = f i; used = first.used } in
        done o h (subst (λ (x : Held). EditCalls l x last) s more)
    go (Ok n) (refused k) is e f more done = let z : ◌≡◌ {A = ℕ} 0 1 = cc in absurd (omega arith)
    go (Err g) (accepted p) is e f more done = let z : ◌≡◌ {A = ℕ} 0 1 = cc in absurd (omega arith)

-- the same from an accepted move call
record Ended (o : Order) (out : List ℕ) (l : List EditCall) (last : Held) : Type 0 where
  pub lent : room_for pair_size out ≡ true
  pub none : move_refusal limits (all_done (accepted_edits l) o) ≡ 0
  pub end : held out (moved (all_done (accepted_edits l) o)) ≡ last

run_ended : (o : Order) (out : List ℕ) (l : List EditCall) (last : Held) → MoveAndEdits o out l last → Ended o out l last
run_ended o out l last x =
    let m = call_accepted pair_bytes pair_size (both_lent pair_size out x.work) (move_of limits x.sheet) x.move in
    let r = move_read limits limits_small x.sheet m.value m.is in
    let i : r.order ≡ o = cc (r.reads, x.reads) in
    let start : record { buffer = x.left; used = x.answer } ≡ held out (moved o) = leaves_held m ∙ (ap (held out) r.pair ∙ ap (λ (y : Order). held out (moved y)) i) in
    let e = run_ends l out o last (ap (move_refusal limits) (sym i) ∙ r.none) (subst (λ (h : Held). EditCalls l h last) start x.edits) in
    record { lent = (and_true (room_for pair_size out) _ m.room).0; none = e.0; end = e.1 }

-- Demand 3, a run.
pub run_as_fresh_move : RunTheorem
unfolding length_of written
run_as_fresh_move o out l last x w left w' r room y =
    let d = run_ended o out l last x in
    let now : Order = all_done (accepted_edits l) o in
    let m : move_of limits (order_bytes now) ≡ accepted (moved now) = move_again limits limits_small now d.none in
    let p : Pair = moved now in
    let a : said r ≡ accepted (length (pair_bytes p)) = rw (d.lent, room, m) at y.answer in
    let b : left ≡ filled pair_size out (pair_bytes p) = rw (d.lent, room, m) at y.result in
    (said_once r (Ok (length (pair_bytes p))) a ∙ ap (λ (h : Held). Ok h.used) d.end, b ∙ ap (λ (h : Held). h.buffer) d.end)

-- what a call that is lent enough or not leaves of an edit that reading refuses
refuses_length : (lent : Bool) (x : Outcome Pair) (out left : List ℕ) (r : Answer) → (lent ≡ true → x ≡ refused 3) → said r ≡ length_of pair_bytes (test lent 1 x)
    → left ≡ written pair_bytes pair_size out (test lent 1 x) → (said r ≡ refused (cond lent 3 1)) × (left ≡ out)
unfolding length_of written
refuses_length true x out left r h e f = let i = h refl in (rw i at e, rw i at f)
refuses_length false x out left r h e f = (e, f)

-- Demand 3, another length.
pub untrue_length_refused : LengthTheorem
untrue_length_refused buffer w left w' n used p a r long reads other y =
    refuses_length (edit_lent buffer used w) (edited_of limits (take used buffer) a) buffer left r
    (λ lent.
    let k = and_true (leb used (length buffer)) _ (and_true (room_for pair_size buffer) _ lent).1 in
    other_length limits limits_small buffer n used p a long reads (leb-true used (length buffer) k.0) other)
    y.answer y.result

-- the front of what is written does not hang on the buffer
front_of_lem : (end : ℕ) (out content : List ℕ) → length content ≤ end → take end (filled end out content) ≡ content ++ replicate (end - length content) 0
unfolding filled
front_of_lem end out content h =
    let z : List ℕ = replicate (end - length content) 0 in
    let l : length (content ++ z) ≡ end = rw (length-append, length-replicate) (omega arith) in
    rw (← append_assoc content z (drop end out)) (take_at (content ++ z) (drop end out) end l)

same_answer : (x : Outcome Pair) (out out₂ b c : List ℕ) (r q : Answer) → ((p : Pair) → x ≡ accepted p → length (pair_bytes p) ≤ pair_size)
    → said r ≡ length_of pair_bytes x → said q ≡ length_of pair_bytes x → b ≡ written pair_bytes pair_size out x → c ≡ written pair_bytes pair_size out₂ x
    → SameAnswer r q b c
unfolding length_of written
same_answer (accepted p) out out₂ b c r q short e f g h = record {
  answer = said_once r q (e ∙ sym f);
  bytes = λ n i.
      let k : n ≡ length (pair_bytes p) = cc (ap said i) in
      let s = short p refl in
      (omega arith, ap (take pair_size) g ∙ (front_of_lem pair_size out (pair_bytes p) s ∙ (sym (front_of_lem pair_size out₂ (pair_bytes p) s) ∙ ap (take pair_size) (sym h))));
}
same_answer (refused k) out out₂ b c r q short e f g h = record {
  answer = said_once r q (e ∙ sym f);
  bytes = λ n i. let z : ◌≡◌ {A = ℕ} 0 1 = cc (ap said i) in absurd (omega arith);
}

move_short : (s : List ℕ) (p : Pair) → move_of limits s ≡ accepted p → length (pair_bytes p) ≤ pair_size
move_short s p e =
    let m = move_read limits limits_small s p e in
    rw m.pair (sheet_short limits limits_small m.order m.none)

-- Demand 3, the next edit.
pub next_edit_as_fresh : NextTheorem
next_edit_as_fresh o out l last x a r q b c edit move =
    let d = run_ended o out l last x in
    let now : Order = all_done (accepted_edits l) o in
    let y : Outcome Pair = move_of limits (order_bytes (new_order (edit_of a) now)) in
    let f = edit_as_fresh_move limits limits_small out now a d.none edit.which edit.place edit.whole edit.bytes in
    let same : edited_of limits (take last.used last.buffer) a ≡ y = ap (λ (h : Held). edited_of limits (take h.used h.buffer) a) (sym d.end) ∙ f in
    let e : test (edit_lent last.buffer last.used edit.work) 1 (edited_of limits (take last.used last.buffer) a) ≡ y = rw edit.lent same in
    let m : test (both_lent pair_size move.out move.work) 1 y ≡ y = rw move.lent refl in
    same_answer y last.buffer move.out b c r q (move_short _) (edit.call.answer ∙ ap (length_of pair_bytes) e)
    (move.call.answer ∙ ap (length_of pair_bytes) m) (edit.call.result ∙ ap (written pair_bytes pair_size last.buffer) e)
    (move.call.result ∙ ap (written pair_bytes pair_size move.out) m)

-- Demand 3, other rules' boxes.
pub edit_keeps_others : OthersTheorem
unfolding edited_of
edit_keeps_others buffer w left w' used n a x =
    let m = call_accepted pair_bytes pair_size (edit_lent buffer used w) (edited_of limits (take used buffer) a) x in
    let t = through (pair_in limits (take used buffer)) (change_of limits a) m.value m.is in
    let p = t.value in
    let s = m.value in
    let is = edited_is limits limits_small (take used buffer) a p s t.first m.is in (
      p,
      s,
      t.first,
      leaves_held m,
      record {
        lists = λ i. (sym is i).order;
        sheet = edited_sheet limits limits_small (take used buffer) a p s t.first m.is;
        gate = gate_edit_keeps_others limits limits_small (take used buffer) a p s t.first m.is;
        own = own_edit_keeps_groups limits limits_small (take used buffer) a p s t.first m.is;
      },
    )

pub planner_holds : PlannerTheorem
planner_holds = record {
  move = move_call_holds;
  check = check_call_is_move;
  run = run_as_fresh_move;
  told = untrue_length_refused;
  next = next_edit_as_fresh;
  others = edit_keeps_others;
}
