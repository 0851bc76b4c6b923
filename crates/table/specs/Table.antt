-- Lookup of a packet in a table of rules in memory (01, Calls). Assumes nothing.
use Rattle.std.specs.Prelude.{◌≡◌, List, ℕ, ◌^◌, ◌<◌, leb, length, drop}
use Rattle.lists.specs.Lists.{Each}
use Rattle.policy.specs.Fields.{widths, action_size, count_size}
use Rattle.policy.specs.Ranges.{Packet}
use Rattle.policy.specs.Rules.{Rule}
use Rattle.policy.specs.Refusals.{Outcome, test}
use Rattle.wire.specs.Records.{Fits, rules_in}
use Rattle.filter.specs.Lookup.{Hit, look_from, lookup}
use Rattle.wire.specs.Lists.{count_in, list_bytes, list_size}

-- The count is within its limits (2); then the rules, in the order and with the numbers that list bytes have.
unfoldable pub lookup_table : ℕ → Packet → List Rule → Outcome Hit
lookup_table most p l = test (leb 1 (length l)) 2 (test (leb (length l) most) 2 (look_from 0 p l))

-- A rule whose numbers its record's bytes can hold, bad or not.
abbrev pub Storable : Rule → Type 0
Storable r = Fits widths r.region × (r.action < 256 ^ action_size)

-- 01, Calls: for the same records the table's answer is that of the bytes, whatever it is. From rules to bytes this is said of every
-- table that bytes can hold, bad rules and counts outside the limits included; from bytes to rules, of all bytes whose length is
-- that of their count.
pub record Agrees (most : ℕ) (p : Packet) : Type 0 where
  pub as_bytes : (l : List Rule) → Each Storable l → length l < 256 ^ count_size → lookup most p (list_bytes l) ≡ lookup_table most p l
  pub as_rules : (s : List ℕ) (n : ℕ) → n ≡ count_in s → length s ≡ list_size n
      → lookup_table most p (rules_in n (drop count_size s)) ≡ lookup most p s

abbrev pub AgreesTheorem : Type 0
AgreesTheorem = (most : ℕ) (p : Packet) → Agrees most p
