-- A list in bytes: its length, and that what is written is read back and what is read is written back. Assumes nothing.
use mathlib.Core.Path.{◌≡◌, refl, ap, sym, ◌∙◌}
use mathlib.Core.List.{List, []}
use Prim.Native.Nat.{ℕ, ◌<◌, ◌≤◌}
use native.Mathlib.Omega.{arith}
use lib.ListN.{length, take, drop, length-append}
use Rattle.lists.specs.Lists.{Each}
use Rattle.lists.proofs.Lists.{append-none}
use Rattle.policy.specs.Fields.{count_size, record_size}
use Rattle.policy.specs.Rules.{Rule}
use Rattle.wire.specs.Numbers.{Byte}
use Rattle.wire.specs.Records.{records_bytes, rules_in}
use Rattle.wire.specs.Lists.{count_in, list_size, list_bytes}
use Rattle.wire.proofs.Numbers.{number_bytes-length}
use Rattle.wire.proofs.Records.{RuleFits, records_bytes-length, rules_in-length, rules_back, records_written_back}
use Rattle.wire.proofs.Counts.{count_back, count_behind, counted_written_back}

module _ (l : List Rule) (fit : Each RuleFits l) where
  pub list_bytes-length : length (list_bytes l) ≡ list_size (length l)
  unfolding list_bytes
  list_bytes-length = rw (length-append, number_bytes-length, records_bytes-length l fit) refl

  pub list_count : length l < 65536 → count_in (list_bytes l) ≡ length l
  unfolding list_bytes
  list_count h = count_back (length l) (records_bytes l) h

  pub list_rules_lem : rules_in (length l) (drop count_size (list_bytes l)) ≡ l
  unfolding list_bytes
  list_rules_lem =
      rw (count_behind (length l) (records_bytes l)) (ap (rules_in (length l)) (sym (append-none (records_bytes l))) ∙ rules_back l [] fit)

-- The list that bytes begin with.
pub list_front : (s : List ℕ) → Each Byte s → list_size (count_in s) ≤ length s
    → list_bytes (rules_in (count_in s) (drop count_size s)) ≡ take (list_size (count_in s)) s
unfolding list_bytes
list_front s b h =
    rw (rules_in-length (count_in s) (drop count_size s))
    (counted_written_back record_size s _ b (omega arith) (λ x l. records_written_back (count_in s) (drop count_size s) l x))
