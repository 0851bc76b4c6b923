-- What the writing of the cell list and of the gate list leaves, and what it makes of a list call. Assumes nothing.
use Rattle.std.specs.Prelude.{Ok, Err}
use mathlib.Core.Path.{◌≡◌, refl, ap, sym, ◌∙◌}
use mathlib.Core.List.{List, [], ◌∷◌, ◌++◌}
use mathlib.Core.Bool.{false}
use Prim.Native.Nat.{ℕ, zero, suc, ◌+◌, ◌*◌, ◌-◌, ◌<◌, ◌≤◌}
use native.Mathlib.Omega.{arith}
use lib.ListN.{length, take, drop, length-append, length-drop}
use lib.Seq.{sets, drop-drop, length-sets, length-take-le}
use Rattle.lists.specs.Lists.{Each}
use Rattle.lists.proofs.Lists.{append-none, sets-append}
use Rattle.lists.proofs.Parts.{copied_sets}
use Rattle.policy.specs.Fields.{box_size, count_size, record_size, action_size, limits, work_size}
use Rattle.policy.specs.Ranges.{Region}
use Rattle.policy.specs.Rules.{Rule, rule, full}
use Rattle.policy.specs.Refusals.{Answered, accepted}
use Rattle.policy.specs.Move.{together, denials, Pair, gate_list}
use Rattle.policy.specs.declared.Refusal.{Refusal}
use Rattle.wire.specs.Numbers.{number_bytes, Byte}
use Rattle.wire.specs.Records.{box_in, record_bytes, records_bytes, each_bytes, each_in}
use Rattle.wire.specs.Buffers.{zeroed, filled, written, length_of}
use Rattle.wire.proofs.Numbers.{number_bytes-length, bytes_drop}
use Rattle.wire.proofs.Records.{box_written_back, boxes_in-length, rules_in-length, records_written_back}
use Rattle.wire.proofs.Buffers.{filled_is, filled_front, refusal_leaves}
use Rattle.sheet.specs.Pairs.{group_size, group_boxes}
use Rattle.sheet.specs.Steps.{groups_from, pair_at, PairLaid, box_count}
use Rattle.sheet.specs.declared.PairLayout.{PairLayout}
use Rattle.wire.proofs.Lists.{list_bytes-length}
use Rattle.sheet.proofs.Orders.{readable_fits}
use Rattle.promises.specs.Calls.{both_lent, work_after, Lists, cell_bytes, gate_bytes, gate_list_size}
use Rattle.checking.specs.Steps.{CheckRead}
use Rattle.listing.specs.Steps.{box_records, group_records, ListPut, CheckedWithRoom}
use Rattle.policy.proofs.Places.{denials-length}
use Rattle.promises.proofs.Good.{gate_list_good}
use Rattle.promises.proofs.Calls.{both_there}
use Rattle.std.proofs.lemmas.Result.{IfOk-weaker}
use Rattle.policy.proofs.Answers.{gives_refusal, given_refusal, given_value}
use Rattle.policy.specs.declared.Refusal.TheVariants.{BufferShort}
use Rattle.wire.specs.Lists.{count_in, list_bytes}
use Rattle.wire.proofs.Items.{bytes-append}

-- the deny rules of two lists of boxes, one behind the other
denials-append : (x y : List Region) → denials (x ++ y) ≡ denials x ++ denials y
unfolding denials
denials-append [] y = refl
denials-append (b ∷ x) y = ap (λ (l : List Rule). rule b 0 ∷ l) (denials-append x y)

-- how long the deny records of boxes are that were read from bytes
denial_length : (s : List ℕ) → box_size ≤ length s → Each Byte s → length (record_bytes (rule (box_in s) 0)) ≡ record_size
unfolding record_bytes
denial_length s h b =
    rw (length-append, box_written_back s h b, number_bytes-length action_size 0) (ap (λ (n : ℕ). n + action_size) (length-take-le box_size s h))

box_records_length : (n : ℕ) (s : List ℕ) → box_size * n ≤ length s → Each Byte s → length (box_records n s) ≡ record_size * n
unfolding each_in denials each_bytes
box_records_length zero s h b = refl
box_records_length (suc n) s h b =
    let i = box_records_length n (drop box_size s) (rw length-drop (omega arith)) (bytes_drop box_size s b) in
    let l = denial_length s (omega arith) b in
    rw (length-append, l, i) (omega arith)

-- What is left to write leads to the whole: `rest` from `to` on to `all` from `at` on.
pub record Leads (first : List ℕ) (at : ℕ) (all list : List ℕ) (to : ℕ) (rest : List ℕ) : Type 0 where
  pub long : length list ≡ length first
  pub onward : sets list to rest ≡ sets first at all

leads_next : {first all list list' : List ℕ} {at to : ℕ} (x rest : List ℕ) → Leads first at all list to (x ++ rest) → list' ≡ sets list to x
    → Leads first at all list' (to + length x) rest
leads_next {list = list} {to = to} x rest g e = record {
  long = ap length e ∙ (length-sets list to x ∙ g.long);
  onward = rw e (sym (sets-append list to x rest) ∙ g.onward);
}

-- one box more
box_more : (k : ℕ) (s : List ℕ) → box_records (suc k) s ≡ record_bytes (rule (box_in s) 0) ++ box_records k (drop box_size s)
unfolding each_in denials each_bytes
box_more k s = refl

pub denials_next : {first all list : List ℕ} {at to n i : ℕ} (sheet : List ℕ) (start : ℕ) → Each Byte sheet → i < n → start + box_size ≤ length sheet
    → Leads first at all list to (box_records (n - i) (drop start sheet)) → {b : Region} {list' : List ℕ} → b ≡ box_in (drop start sheet) → list' ≡ sets list to (record_bytes (rule b 0))
    → {start' to' : ℕ} → start' ≡ start + box_size → to' ≡ to + record_size → Leads first at all list' to' (box_records (n - (i + 1)) (drop start' sheet))
denials_next {n = n} {i = i} sheet start bytes more h g {b} {list'} e f q u =
    let t : List ℕ = drop start sheet in
    let later : List ℕ = box_records (n - (i + 1)) (drop (start + box_size) sheet) in
    let k : n - i ≡ suc (n - (i + 1)) = omega arith in
    let v : box_records (n - i) t ≡ record_bytes (rule b 0) ++ later =
    ap (λ (j : ℕ). box_records j t) k ∙ (box_more (n - (i + 1)) t ∙ rw (e, drop-drop box_size start sheet) refl) in
    let l : length (record_bytes (rule b 0)) ≡ record_size = rw e (denial_length t (rw length-drop (omega arith)) (bytes_drop start sheet bytes)) in
    rw (q, u, ← l) (leads_next (record_bytes (rule b 0)) later (rw v at g) f)

-- one group more
group_boxes_lem : (k : ℕ) (s : List ℕ) → box_count (suc k) s ≡ count_in s + box_count k (drop (group_size (count_in s)) s)
unfolding groups_from together
group_boxes_lem k s = length-append (group_boxes s) (together (groups_from k (drop (group_size (count_in s)) s))) ∙ rw (boxes_in-length (count_in s) (drop count_size s)) refl

group_records_lem : (k : ℕ) (s : List ℕ) → group_records (suc k) s ≡ box_records (count_in s) (drop count_size s) ++ group_records k (drop (group_size (count_in s)) s)
unfolding groups_from together
group_records_lem k s =
    let rest : List Region = together (groups_from k (drop (group_size (count_in s)) s)) in
    rw (denials-append (group_boxes s) rest) (bytes-append record_bytes (denials (group_boxes s)) (denials rest))

group_records_length : (k : ℕ) (s : List ℕ) → count_size * k + box_size * box_count k s ≤ length s → Each Byte s → length (group_records k s) ≡ record_size * box_count k s
unfolding groups_from together denials each_bytes
group_records_length zero s h b = refl
group_records_length (suc k) s h b =
    let n : ℕ = count_in s in
    let c = group_boxes_lem k s in
    let l = box_records_length n (drop count_size s) (rw length-drop (omega arith)) (bytes_drop count_size s b) in
    let i = group_records_length k (drop (group_size n) s) (rw length-drop (omega arith)) (bytes_drop (group_size n) s b) in
    ap length (group_records_lem k s) ∙ rw (length-append, l, i, c) (omega arith)

module _ (sheet : List ℕ) (start : ℕ) {n groups i : ℕ} (e : n ≡ count_in (drop start sheet)) (more : i < groups) where
  abbrev here : List ℕ
  here = drop (start + count_size) sheet

  abbrev later : List ℕ
  later = drop (start + count_size + box_size * n) sheet

  left_is : groups - i ≡ suc (groups - (i + 1))
  left_is = omega arith

  behind : drop (group_size (count_in (drop start sheet))) (drop start sheet) ≡ later
  behind =
      let d : start + group_size (count_in (drop start sheet)) ≡ start + count_size + box_size * n = rw (← e) (omega arith) in
      rw (drop-drop (group_size (count_in (drop start sheet))) start sheet, d) refl

  pub group_count_lem : box_count (groups - i) (drop start sheet) ≡ n + box_count (groups - (i + 1)) later
  group_count_lem = ap (λ (k : ℕ). box_count k (drop start sheet)) left_is ∙ (group_boxes_lem (groups - (i + 1)) (drop start sheet) ∙ rw (behind, ← e) refl)

  pub groups_next : {first all list : List ℕ} {at to : ℕ} → Each Byte sheet → start + count_size + box_size * n ≤ length sheet
      → Leads first at all list to (group_records (groups - i) (drop start sheet)) → {list' : List ℕ} → list' ≡ sets list to (box_records n here)
      → Leads first at all list' (to + record_size * n) (group_records (groups - (i + 1)) later)
  groups_next bytes h g f =
      let v : group_records (groups - i) (drop start sheet) ≡ box_records n here ++ group_records (groups - (i + 1)) later =
      ap (λ (k : ℕ). group_records k (drop start sheet)) left_is ∙ (group_records_lem (groups - (i + 1)) (drop start sheet) ∙ rw (behind, drop-drop count_size start sheet, ← e) refl) in
      let l : length (box_records n here) ≡ record_size * n = box_records_length n here (rw length-drop (omega arith)) (bytes_drop (start + count_size) sheet bytes) in
      rw (← l) (leads_next (box_records n here) (group_records (groups - (i + 1)) later) (rw v at g) f)

-- nothing left
pub denials_all : {first all list : List ℕ} {at to : ℕ} (left : ℕ) (s : List ℕ) → left ≤ 0 → Leads first at all list to (box_records left s) → list ≡ sets first at all
unfolding each_in denials each_bytes
denials_all zero s h g = g.onward
denials_all (suc left) s h g = absurd (omega arith)

pub groups_all : {first all list : List ℕ} {at to : ℕ} (left : ℕ) (s : List ℕ) → left ≤ 0 → Leads first at all list to (group_records left s) → list ≡ sets first at all
unfolding groups_from together denials each_bytes
groups_all zero s h g = g.onward
groups_all (suc left) s h g = absurd (omega arith)

-- Three contents stored one behind another, and zeros behind them.
three_filled : (out a b c last : List ℕ) (end most : ℕ) → end ≡ length (a ++ (b ++ c)) → end ≤ most → most ≤ length out
    → last ≡ zeroed end most (sets (sets (sets out 0 a) (length a) b) (length a + length b) c) → last ≡ filled most out (a ++ (b ++ c))
three_filled out a b c last end most l h k q =
    let z : 0 + length a ≡ length a = omega arith in
    let s : sets out 0 (a ++ (b ++ c)) ≡ sets (sets (sets out 0 a) (length a) b) (length a + length b) c =
    rw (sets-append out 0 a (b ++ c), z, sets-append (sets out 0 a) (length a) b c) refl in
    filled_is (a ++ (b ++ c)) out (sets out 0 (a ++ (b ++ c))) last end most l h k (rw l (sym (copied_sets out (a ++ (b ++ c)) (omega arith)))) (rw s q)

-- The cell list: the count, the groups' boxes, the own rules copied behind them, and zeros.
module _ {s : List ℕ} {l : PairLayout} (p : PairLaid s l) (bytes : Each Byte s) where
  abbrev pair : Pair
  pair = pair_at l s

  abbrev middle : ℕ
  middle = l.order.middle

  abbrev own : List ℕ
  own = take (l.order.end - (middle + count_size)) (drop (middle + count_size) s)

  own_records : records_bytes pair.order.own ≡ own
  own_records =
      let i = p.lists in
      let e : l.order.end - (middle + count_size) ≡ record_size * l.order.own = omega (arith, i.own_end) in
      rw (e, ← drop-drop count_size middle s) (records_written_back l.order.own (drop count_size (drop middle s)) (rw (length-drop, length-drop) (omega (arith, i.own_end, i.inside))) (bytes_drop count_size (drop middle s) (bytes_drop middle s bytes)))

  cell_content : cell_bytes pair ≡ number_bytes count_size (l.boxes + l.order.own) ++ (group_records l.groups (drop l.from s) ++ own)
  unfolding cell_bytes list_bytes
  cell_content =
      let bs : List Region = together pair.groups in
      let c : length (denials bs ++ pair.order.own) ≡ l.boxes + l.order.own = rw (length-append, denials-length, rules_in-length, ← p.boxes_are) refl in
      rw (c, bytes-append record_bytes (denials bs) pair.order.own, own_records) refl

  -- the groups lie in the sheet, and have all its boxes
  cell_groups : (l.from + (count_size * l.groups + box_size * box_count l.groups (drop l.from s)) ≤ length s) × (box_count l.groups (drop l.from s) ≡ l.boxes)
  cell_groups = (omega (arith, p.groups_end, p.whole, p.boxes_are), sym p.boxes_are)

  pub cell_put : (list c₁ c₂ c₃ last : List ℕ) (start end most : ℕ) → start ≡ count_size + record_size * l.boxes → end ≡ start + length own → end ≤ most → most ≤ length list
      → c₁ ≡ sets list 0 (number_bytes count_size (l.boxes + l.order.own)) → c₂ ≡ sets c₁ count_size (group_records l.groups (drop l.from s))
      → c₃ ≡ sets c₂ start own → last ≡ zeroed end most c₃ → ListPut (cell_bytes pair) most list end last
  cell_put list c₁ c₂ c₃ last start end most i j h k e f u q =
      let head : List ℕ = number_bytes count_size (l.boxes + l.order.own) in
      let boxed : List ℕ = group_records l.groups (drop l.from s) in
      let lb : length boxed ≡ record_size * l.boxes = rw p.boxes_are (group_records_length l.groups (drop l.from s) (rw length-drop (omega (arith, cell_groups))) (bytes_drop l.from s bytes)) in
      let lh : length head ≡ count_size = number_bytes-length count_size (l.boxes + l.order.own) in
      let w : sets c₂ start own ≡ sets (sets (sets list 0 head) (length head) boxed) (length head + length boxed) own =
      let x : length head + length boxed ≡ start = omega (arith, i) in
      rw (x, f, e, lh) refl in
      let n : end ≡ length (head ++ (boxed ++ own)) = sym (rw (length-append, length-append) (omega (arith, i, j))) in
      record { answer = rw cell_content n; result = rw cell_content (three_filled list head boxed own last end most n h k (rw (← w, ← u) q)) }

-- The gate list: the count and the one rule, which fill it.
pub gate_put : (p : Pair) (list c₁ last : List ℕ) (r : Rule) → gate_list_size ≤ length list → r ≡ rule full 1 → c₁ ≡ sets list 0 (number_bytes count_size 1)
    → last ≡ sets c₁ count_size (record_bytes r) → ListPut (gate_bytes p) gate_list_size list gate_list_size last
unfolding gate_bytes list_bytes each_bytes
gate_put p list c₁ last r h e f g =
    let l : length (gate_bytes p) ≡ gate_list_size = list_bytes-length (gate_list p) (readable_fits limits.total (gate_list p) (omega arith) (gate_list_good limits p (omega arith))).rules in
    let head : List ℕ = number_bytes count_size 1 in
    let z : 0 + length head ≡ count_size = omega (arith, number_bytes-length count_size 1) in
    let w : sets list 0 (head ++ record_bytes (rule full 1)) ≡ last = sets-append list 0 head (record_bytes (rule full 1)) ∙ rw (z, ← f, ← e) (sym g) in
    record { answer = sym l; result = sym w ∙ (ap (λ (x : List ℕ). sets list 0 (head ++ x)) (sym (append-none (record_bytes (rule full 1)))) ∙ filled_front gate_list_size list (gate_bytes p) l h) }

-- A list call up to its writing.
module _ (s out : List ℕ) (room : ℕ) (w : List ℕ) where
  pub room_missing : both_lent room out w ≡ false → CheckedWithRoom s out room w (Err BufferShort) w
  unfolding work_after
  room_missing e = record { read = gives_refusal BufferShort (rw e refl); work = rw e refl }

  pub room_checked : {r : Answered PairLayout} {w' : List ℕ} → room ≤ length out → work_size ≤ length w → CheckRead s r → w' ≡ zeroed 0 work_size w → CheckedWithRoom s out room w r w'
  unfolding work_after
  room_checked {r} h k x e =
      let lent = both_there room work_size out w h k in
      record {
        read = record { says = rw lent x.says; laid = IfOk-weaker r (PairLaid s) _ (λ l p. (p, h)) x.laid };
        work = rw lent e;
      }

-- What the call comes to then: the refusal, or the list that is written.
module _ (bytes : Pair → List ℕ) {s out w w' : List ℕ} {size : ℕ} where
  pub list_refused : {f : Refusal} → CheckedWithRoom s out size w (Err f) w' → Lists bytes size s out w (Err f) out w'
  unfolding length_of
  list_refused {f} x =
      let e = given_refusal x.read f refl in
      record { answer = rw e refl; result = refusal_leaves bytes size out e; work = x.work }

  pub list_written : {l : PairLayout} {r : ℕ} {out' : List ℕ} → CheckedWithRoom s out size w (Ok l) w' → ListPut (bytes (pair_at l s)) size out r out' → Lists bytes size s out w (Ok r) out' w'
  unfolding length_of written
  list_written {l} x y =
      let e = given_value x.read l refl in
      record { answer = rw e (ap accepted y.answer); result = rw e y.result; work = x.work }
