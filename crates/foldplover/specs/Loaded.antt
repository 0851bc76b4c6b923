-- What two filters do that have loaded what the calls write, by the firmware's own lookup (01, Calls; demand 2), and what origin says of
-- it. Assumes nothing.
use Rattle.std.specs.Prelude.{◌≡◌, List, Bool, true, ◌&&◌, ℕ, ◌-◌, ◌%◌, ltb, eqb, length, take, Ok}
use Rattle.lists.specs.Lists.{Each}
use Rattle.policy.specs.Fields.{limits}
use Rattle.policy.specs.Ranges.{Packet}
use Rattle.policy.specs.Refusals.{Answer, refusal_base}
use Rattle.wire.specs.Numbers.{Byte}
use Rattle.filter.specs.Lookup.{lookup, lookup_number}
use Rattle.orders.specs.Split.{Split}
use Rattle.promises.specs.Calls.{both_lent, Moves, Lists, gate_bytes, gate_list_size, cell_bytes, cell_list_size}
use Rattle.origins.specs.Origin.{origin_size, Origins}
use Rattle.foldplover.specs.Coded.{Coded}

-- A filter lets a packet through where the number that the lookup in its list's bytes gives for C is no refusal and odd: an allow.
abbrev pub lets_through : ℕ → Bool
lets_through n = ltb n refusal_base && eqb (n % 2) 1

abbrev pub passes : Packet → List ℕ → Bool
passes q list = lets_through (lookup_number (lookup limits.total q list))

-- A call that meets this statement was accepted and wrote this content.
pub record Wrote (statement : List ℕ → List ℕ → Answer → List ℕ → List ℕ → Type 0) (content : List ℕ) : Type 0 where
  pub out : List ℕ
  pub work : List ℕ
  pub left : List ℕ
  pub work' : List ℕ
  pub answer : ℕ
  pub call : statement out work (Ok answer) left work'
  pub is : take answer left ≡ content

-- An accepted split call of the order sheet s wrote these two lists.
pub record SplitInto (s a b : List ℕ) : Type 0 where
  pub out_a : List ℕ
  pub out_b : List ℕ
  pub left_a : List ℕ
  pub left_b : List ℕ
  pub answer : ℕ
  pub call : Split s out_a out_b (Ok answer) left_a left_b
  pub content_a : take answer left_a ≡ a
  pub content_b : take (length s - answer) left_b ≡ b

-- The lists a and b of an order sheet that was moved, and the two lists of its pair sheet: the new gate list and the new cell list,
-- looked up in one after the other, let through exactly what a and b do; and so do a and the new cell list, while the gate still has
-- its old one.
pub record LoadsAlike (a b gate cell : List ℕ) (q : Packet) : Type 0 where
  pub both : (passes q gate && passes q cell) ≡ (passes q a && passes q b)
  pub cell_first : (passes q a && passes q cell) ≡ (passes q a && passes q b)

abbrev pub LoadedTheorem : Type 0
LoadedTheorem =
    (s sheet a b gate cell : List ℕ) → Each Byte s → SplitInto s a b → Wrote (Moves s) sheet
    → Wrote (Lists gate_bytes gate_list_size sheet) gate → Wrote (Lists cell_bytes cell_list_size sheet) cell → (q : Packet) → LoadsAlike a b gate cell q

-- 02, W1: of a sheet whose cell list was written, C gets the same number from origin, where enough is lent, as from a lookup in that
-- list, 5 included.
abbrev pub OriginLookupTheorem : Type 0
OriginLookupTheorem =
    (p : Packet) (s ns w ns' w' cell : List ℕ) (n : ℕ) → both_lent origin_size ns w ≡ true → Wrote (Lists cell_bytes cell_list_size s) cell
    → Coded (λ q. Origins p s ns w q ns' w') n → n ≡ lookup_number (lookup limits.total p cell)
