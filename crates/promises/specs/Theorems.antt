-- What whoever uses the calls may count on: demands 2 and 3, over the calls' own statements (`Moves`, `Checks`, `Edits`; `Lists`
-- has the bytes of the two lists). Each theorem is a type here, with all that it asks for, and has one value in
-- proofs/Theorems.antt; `PlannerTheorem` is all of them. Assumes nothing.
use Rattle.std.specs.Prelude.{◌≡◌, List, [], ◌∷◌, true, cond, ℕ, ◌≤◌, length, take, Ok, Err}
use Rattle.lists.specs.Lists.{Each}
use Rattle.policy.specs.Fields.{Limits, limits, work_size}
use Rattle.policy.specs.Ranges.{Packet}
use Rattle.policy.specs.Rules.{drops, forwards}
use Rattle.policy.specs.Cut.{any_has}
use Rattle.policy.specs.Refusals.{Answer, accepted, refused, said}
use Rattle.policy.specs.Move.{together, Order, Pair, moved, gate_list, cell_list}
use Rattle.policy.specs.Edit.{Edit, new_order, place_found, all_done}
use Rattle.policy.specs.Demands.{DenyOnly, OthersKept}
use Rattle.wire.specs.Numbers.{Byte}
use Rattle.wire.specs.Buffers.{filled, room_for}
use Rattle.sheet.specs.Orders.{order_in, order_bytes, list_in}
use Rattle.sheet.specs.Pairs.{pair_in, pair_bytes, pair_size}
use Rattle.promises.specs.Calls.{both_lent, move_of, Moves, check_of, Checks, gate_bytes, cell_bytes}
use Rattle.promises.specs.Edits.{Asked, kind_of, edit_of, whole_record, edit_lent, Edits}

-- A sheet in its buffer, and the length that was last answered of it; and what an accepted call leaves in the buffer `out`.
pub record Held : Type 0 where
  pub buffer : List ℕ
  pub used : ℕ

abbrev pub held : List ℕ → Pair → Held
held out p = record { buffer = filled pair_size out (pair_bytes p); used = length (pair_bytes p) }

-- Demand 2, of the bytes s and the pair p that a move makes of them. The lists o are those that the bytes say, and say the same
-- bytes; the pair's sheet reads as itself and passes check; the bytes that the two list calls write of it read as its two lists,
-- and these forward a packet exactly if the lists o did; the boxes have exactly what the gate dropped; and the old gate before the
-- new cell list forwards what it did before.
pub record DemandTwo (lim : Limits) (s : List ℕ) (o : Order) (p : Pair) : Type 0 where
  pub order : order_in lim s ≡ accepted o
  pub bytes : order_bytes o ≡ s
  pub pair : p ≡ moved o
  pub sheet : pair_in lim (pair_bytes p) ≡ accepted p
  pub checks : check_of lim (pair_bytes p) ≡ accepted p
  pub gate : list_in lim.total (gate_bytes p) ≡ accepted (gate_list p)
  pub cell : list_in lim.total (cell_bytes p) ≡ accepted (cell_list p)
  pub forwarded : (q : Packet) → forwards q (gate_list p) (cell_list p) ≡ forwards q o.gate o.own
  pub boxes : (q : Packet) → any_has q (together p.groups) ≡ drops q o.gate
  pub cell_first : (q : Packet) → forwards q o.gate (cell_list p) ≡ forwards q o.gate o.own

-- Every accepted move call meets it, and leaves that pair's sheet in its buffer. (When a move is refused, and with which number,
-- is `move_of`, in the statement.)
abbrev pub MoveTheorem : Type 0
MoveTheorem =
    (s out w left w' : List ℕ) (n : ℕ) → Each Byte s → Moves s out w (Ok n) left w'
    → (o : Order) × (p : Pair) × DemandTwo limits s o p × (record { buffer = left; used = n } ≡ held out p)

-- What check accepts is, byte for byte, what a move of its lists writes, and that move is accepted.
pub record CheckIsMove (lim : Limits) (s : List ℕ) (p : Pair) : Type 0 where
  pub sheet : pair_bytes p ≡ s
  pub moves : move_of lim (order_bytes p.order) ≡ accepted p

abbrev pub CheckTheorem : Type 0
CheckTheorem = (s w w' : List ℕ) (n : ℕ) → Each Byte s → Checks s w (Ok n) w' → (p : Pair) × CheckIsMove limits s p

-- An edit call in a run: what it is asked for, the length that it is told, the work buffer that it is lent, and what it answers.
pub record EditCall : Type 0 where
  pub asked : Asked
  pub used : ℕ
  pub work : List ℕ
  pub answer : Answer

-- The length that was answered last, and the edits whose answers are a length.
abbrev pub length_now : Answer → ℕ → ℕ
length_now (Ok n) used = n
length_now (Err f) used = used

abbrev pub if_length : Answer → Edit → List Edit → List Edit
if_length (Ok n) e l = e ∷ l
if_length (Err f) e l = l

unfoldable pub accepted_edits : List EditCall → List Edit
accepted_edits [] = []
accepted_edits (c ∷ l) = if_length c.answer (edit_of c.asked) (accepted_edits l)

-- A run of edit calls on one buffer. Of a call nothing is asked, and of what it leaves nothing is known but its statement.
unfoldable pub EditCalls : List EditCall → Held → Held → Type 0
EditCalls [] h last = h ≡ last
EditCalls (c ∷ l) h last =
    (left : List ℕ) × (w' : List ℕ) × Edits h.buffer c.used c.asked c.work c.answer left w'
    × EditCalls l (record { buffer = left; used = length_now c.answer h.used }) last

-- An accepted move call of the lists o into the buffer `out`, and a run of edit calls on what it left.
pub record MoveAndEdits (o : Order) (out : List ℕ) (l : List EditCall) (last : Held) : Type 0 where
  pub sheet : List ℕ
  pub reads : order_in limits sheet ≡ accepted o
  pub work : List ℕ
  pub answer : ℕ
  pub left : List ℕ
  pub work' : List ℕ
  pub move : Moves sheet out work (Ok answer) left work'
  pub edits : EditCalls l (record { buffer = left; used = answer }) last

-- Demand 3, a run: a move call of the lists, as the accepted edits have changed them one after another, into the same `out` is
-- accepted with the length that was answered last, and leaves byte for byte the buffer that the run left.
abbrev pub RunTheorem : Type 0
RunTheorem =
    (o : Order) (out : List ℕ) (l : List EditCall) (last : Held) → MoveAndEdits o out l last
    → (w left w' : List ℕ) (r : Answer) → room_for work_size w ≡ true → Moves (order_bytes (all_done (accepted_edits l) o)) out w r left w'
    → (r ≡ Ok last.used) × (left ≡ last.buffer)

-- Demand 3, the length: a buffer that begins with a pair sheet of n bytes, whoever wrote it, and is told any other length. The
-- answer is 1 where something lent is too short for what is said of it, else 3 by reading, whatever the edit; and the buffer is as
-- it was.
abbrev pub LengthTheorem : Type 0
LengthTheorem =
    (buffer w left w' : List ℕ) (n used : ℕ) (p : Pair) (a : Asked) (r : Answer) → n ≤ length buffer → pair_in limits (take n buffer) ≡ accepted p
    → (used ≡ n → ⊥) → Edits buffer used a w r left w' → (said r ≡ refused (cond (edit_lent buffer used w) 3 1)) × (left ≡ buffer)

-- One edit call more, on what a run left of the lists o: buffers long enough, the length that was answered last, list A or B, a
-- place that exists and a whole record.
pub record NextEdit (o : Order) (last : Held) (a : Asked) (r : Answer) (left : List ℕ) : Type 0 where
  pub which : a.which ≤ 1
  pub place : place_found (edit_of a) o ≡ true
  pub whole : whole_record a.change a.bytes ≡ true
  pub bytes : Each Byte a.bytes
  pub work : List ℕ
  pub work' : List ℕ
  pub lent : edit_lent last.buffer last.used work ≡ true
  pub call : Edits last.buffer last.used a work r left work'

-- A move call of the lists o into any buffers that are long enough.
pub record FreshMove (o : Order) (r : Answer) (left : List ℕ) : Type 0 where
  pub out : List ℕ
  pub work : List ℕ
  pub work' : List ℕ
  pub lent : both_lent pair_size out work ≡ true
  pub call : Moves (order_bytes o) out work r left work'

-- Two calls that write a pair sheet answer the same: the same length and the same bytes up to the largest sheet's end, or the
-- same number.
pub record SameAnswer (r q : Answer) (b c : List ℕ) : Type 0 where
  pub answer : r ≡ q
  pub bytes : (n : ℕ) → r ≡ Ok n → (n ≤ pair_size) × (take pair_size b ≡ take pair_size c)

-- Demand 3, the next edit: it and a fresh move of the lists as it changes them answer the same.
abbrev pub NextTheorem : Type 0
NextTheorem =
    (o : Order) (out : List ℕ) (l : List EditCall) (last : Held) → MoveAndEdits o out l last
    → (a : Asked) (r q : Answer) (b c : List ℕ) → NextEdit (all_done (accepted_edits l) o) last a r b
    → FreshMove (new_order (edit_of a) (all_done (accepted_edits l) o)) q c → SameAnswer r q b c

-- Demand 3, other rules' boxes, on any pair sheet that reads, stale ones too: an accepted edit makes the pair s of the pair p that
-- stood there, with the edited lists, and its sheet reads as itself. In A, where the edit adds, drops or swaps a deny, no other
-- rule's group is another; in B none is.
pub record OthersAsBefore (p s : Pair) (a : Asked) : Type 0 where
  pub lists : s.order ≡ new_order (edit_of a) p.order
  pub sheet : pair_in limits (pair_bytes s) ≡ accepted s
  pub gate :
      a.which ≡ 0 → DenyOnly a.place (kind_of a.change a.bytes) p.order.gate
      → OthersKept a.place (kind_of a.change a.bytes) p s
  pub own : a.which ≡ 1 → s.groups ≡ p.groups

abbrev pub OthersTheorem : Type 0
OthersTheorem =
    (buffer w left w' : List ℕ) (used n : ℕ) (a : Asked) → Edits buffer used a w (Ok n) left w'
    → (p : Pair) × (s : Pair) × (pair_in limits (take used buffer) ≡ accepted p) × (record { buffer = left; used = n } ≡ held buffer s) × OthersAsBefore p s a

-- All of it.
pub record PlannerTheorem : Type 0 where
  pub move : MoveTheorem
  pub check : CheckTheorem
  pub run : RunTheorem
  pub told : LengthTheorem
  pub next : NextTheorem
  pub others : OthersTheorem
