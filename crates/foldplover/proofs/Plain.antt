-- What each call below answers is below every refusal's number: a length is that of what was written, and that is within the
-- size that the call asks for. Assumes nothing.
use Rattle.std.specs.Prelude.{Ok, Err}
use mathlib.Core.Path.{◌≡◌, refl, ap, sym, subst, ◌∙◌}
use mathlib.Core.List.{List}
use mathlib.Core.Bool.{Bool, ◌&&◌}
use Prim.Native.Nat.{ℕ, ◌<◌}
use native.Mathlib.Omega.{arith}
use lib.Dec.{leb}
use lib.ListN.{length}
use borrow.Author.Tests.{leb-true}
use Rattle.lists.proofs.Tests.{and_true}
use Rattle.policy.specs.Fields.{limits, record_size, work_size}
use Rattle.policy.specs.Ranges.{Packet}
use Rattle.policy.specs.Refusals.{Answer, refusal_base, Outcome, accepted, refused, test, said}
use Rattle.policy.specs.Move.{Order, Pair}
use Rattle.policy.proofs.Answers.{test_accepted}
use Rattle.records.specs.Calls.{reading_of, writing_of, RecordRead, RecordWritten}
use Rattle.wire.specs.Buffers.{room_for, answered, written, length_of}
use Rattle.sheet.specs.Orders.{order_bytes, order_in, gate_size, own_size, order_size}
use Rattle.sheet.specs.Pairs.{pair_bytes, pair_size}
use Rattle.orders.specs.Split.{split_of, Split, first_bytes}
use Rattle.orders.specs.Join.{join_of, Join}
use Rattle.promises.specs.Calls.{Call, check_of, Checks}
use Rattle.promises.proofs.Lengths.{filled_within, call_length}
use Rattle.filter.specs.Lookup.{lookup_number}
use Rattle.origins.specs.Origin.{Decision, origin_call, value_of, Origins}
use Rattle.origins.proofs.Calls.{value_small}
use Rattle.reporting.specs.Report.{Report, totals_size, hits_size, report_hits, all_lent, report_call, Reports}
use Rattle.foldplover.specs.Coded.{Plain}
use Rattle.wire.specs.Lists.{list_bytes}

-- A call that writes into a buffer of a size below every refusal's number.
pub call_plain :
    {A : Type 0} (bytes : A → List ℕ) (size : ℕ) (b : Bool) (x : Outcome A) (out : List ℕ) {w out' w' : List ℕ} (q : Answer)
    → Call bytes size (room_for size out && b) x out w q out' w' → length out' ≡ length out → size < refusal_base → Plain (said q)
call_plain bytes size b x out (Ok n) c e h = let k = call_length bytes size b x out c e n refl in omega arith
call_plain bytes size b x out (Err f) c e h = tt

-- A call that writes a pair sheet.
pub pair_plain : (b : Bool) {x : Outcome Pair} {out w out' w' : List ℕ} {q : Answer}
    → Call pair_bytes pair_size (room_for pair_size out && b) x out w q out' w' → length out' ≡ length out → Plain (said q)
pair_plain b {x = x} {out = out} {q = q} c e = call_plain pair_bytes pair_size b x out q c e (omega arith)

-- Check and the record calls, which answer a fixed number.
answered_plain : {A : Type 0} (n : ℕ) → n < refusal_base → (x : Outcome A) → Plain (answered n x)
unfolding answered
answered_plain n h (accepted r) = h
answered_plain n h (refused k) = tt

pub check_plain : {s w w' : List ℕ} {q : Answer} → Checks s w q w' → Plain (said q)
check_plain {s = s} {w = w} x = subst Plain (sym x.answer) (answered_plain 0 (omega arith) (test (room_for work_size w) 1 (check_of limits s)))

pub read_plain : {s ns ns' : List ℕ} {q : Answer} → RecordRead s ns q ns' → Plain (said q)
read_plain {s = s} {ns = ns} x = subst Plain (sym x.answer) (answered_plain 0 (omega arith) (reading_of s ns))

pub written_plain : {ns out out' : List ℕ} {q : Answer} → RecordWritten ns out q out' → Plain (said q)
written_plain {ns = ns} {out = out} x = subst Plain (sym x.answer) (answered_plain record_size (omega arith) (writing_of ns out))

-- Split: the A list is within its buffer.
split_small : (s a b : List ℕ) (x : Outcome Order) → split_of limits s a b ≡ x → length (written first_bytes gate_size a x) ≡ length a → Plain (length_of first_bytes x)
unfolding split_of written length_of room_for
split_small s a b (accepted o) e h =
    let t = test_accepted (leb gate_size (length a)) 1 (test (leb own_size (length b)) 1 (order_in limits s)) e in
    let w = filled_within gate_size a (list_bytes o.gate) (leb-true gate_size (length a) t.0) h in
    omega arith
split_small s a b (refused n) e h = tt

pub split_plain : {s a b a' b' : List ℕ} {q : Answer} → Split s a b q a' b' → length a' ≡ length a → Plain (said q)
split_plain {s = s} {a = a} {b = b} x e =
    subst Plain (sym x.answer) (split_small s a b (split_of limits s a b) refl (sym (ap length x.gate) ∙ e))

-- Join: the order sheet is within its buffer.
join_small : (a b out : List ℕ) (x : Outcome Order) → join_of limits a b out ≡ x → length (written order_bytes order_size out x) ≡ length out → Plain (length_of order_bytes x)
unfolding join_of written length_of room_for
join_small a b out (accepted o) e h =
    let t = test_accepted (leb order_size (length out)) 1 _ e in
    let w = filled_within order_size out (order_bytes o) (leb-true order_size (length out) t.0) h in
    omega arith
join_small a b out (refused n) e h = tt

pub join_plain : {a b out out' : List ℕ} {q : Answer} → Join a b out q out' → length out' ≡ length out → Plain (said q)
join_plain {a = a} {b = b} {out = out} x e =
    subst Plain (sym x.answer) (join_small a b out (join_of limits a b out) refl (sym (ap length x.sheet) ∙ e))

-- Origin: a place of the cell list and an action.
value_plain : (x : Outcome Decision) → ((d : Decision) → x ≡ accepted d → lookup_number (accepted d.hit) < refusal_base) → Plain (value_of x)
unfolding value_of
value_plain (accepted d) h = h d refl
value_plain (refused k) h = tt

pub origin_plain : {p : Packet} {s ns w ns' w' : List ℕ} {q : Answer} → Origins p s ns w q ns' w' → Plain (said q)
origin_plain {p = p} {s = s} {ns = ns} {w = w} x = subst Plain (sym x.answer) (value_plain (origin_call p s ns w) (value_small p s ns w))

-- Report: as many places as there are hits, which are within their buffer.
report_small : (s packets earlier later ts hs w : List ℕ) (x : Outcome Report) → report_call s packets earlier later (all_lent ts hs w) ≡ x
    → length (written report_hits hits_size hs x) ≡ length hs → Plain (length_of report_hits x)
unfolding report_call all_lent written length_of room_for
report_small s packets earlier later ts hs w (accepted r) e h =
    let t = test_accepted (leb totals_size (length ts) && (leb hits_size (length hs) && leb work_size (length w))) 1 _ e in
    let k = and_true (leb hits_size (length hs)) _ (and_true (leb totals_size (length ts)) _ t.0).1 in
    let f = filled_within hits_size hs r.hits (leb-true hits_size (length hs) k.0) h in
    omega arith
report_small s packets earlier later ts hs w (refused n) e h = tt

pub report_plain : {s packets earlier later ts hs w ts' hs' w' : List ℕ} {q : Answer} → Reports s packets earlier later ts hs w q ts' hs' w' → length hs' ≡ length hs → Plain (said q)
report_plain {s = s} {packets = packets} {earlier = earlier} {later = later} {ts = ts} {hs = hs} {w = w} x e =
    subst Plain (sym x.answer) (report_small s packets earlier later ts hs w (report_call s packets earlier later (all_lent ts hs w)) refl (sym (ap length x.hits) ∙ e))
