-- The load report: a pair sheet, packets and two files of readings (02, W3). Assumes nothing.
use Rattle.std.specs.Prelude.{◌≡◌, List, [], ◌∷◌, Bool, ◌&&◌, ℕ, ◌*◌, eqb, length}
use Rattle.policy.specs.Fields.{Limits, limits, work_size}
use Rattle.policy.specs.Refusals.{Answer, Outcome, accepted, test, and_then, said}
use Rattle.policy.specs.Move.{Pair, cell_list}
use Rattle.wire.specs.Buffers.{room_for, written, length_of}
use Rattle.promises.specs.Calls.{work_after, check_of}
use Rattle.load.specs.Load.{Load, no_load, gain_of}
use Rattle.load.specs.Packets.{reading_size, hits_in, added_to}

-- How many places the new cell list has.
abbrev pub places : Pair → ℕ
places q = length (cell_list q)

-- What is told: the load of all packets, and the hits at each place.
pub record Report : Type 0 where
  pub load : Load
  pub hits : List ℕ

-- Both files of readings have a reading for each of n places, and no byte more.
unfoldable pub are_readings : ℕ → List ℕ → List ℕ → Bool
are_readings n earlier later = eqb (length earlier) (reading_size * n) && eqb (length later) (reading_size * n)

-- 3 for a file of readings of a wrong length, then 2 and 3 of the packets: here they are one block.
unfoldable pub loaded_of : Pair → List ℕ → List ℕ → List ℕ → Outcome Load
loaded_of q packets earlier later = test (are_readings (places q) earlier later) 3 (added_to q no_load packets)

-- The check's refusals, then these.
unfoldable pub report_of : Limits → List ℕ → List ℕ → List ℕ → List ℕ → Outcome Report
report_of lim s packets earlier later =
    and_then (check_of lim s) (λ q.
    and_then (loaded_of q packets earlier later) (λ t.
    accepted (record { load = t; hits = hits_in (places q) earlier later })))

-- A load as numbers: packets, tries before, tries after, packets forwarded, and the two parts of the gain.
abbrev pub totals_size : ℕ
totals_size = 6

unfoldable pub totals_of : Load → List ℕ
totals_of t = t.packets ∷ t.before ∷ t.after ∷ t.forwarded ∷ (gain_of t).numerator ∷ (gain_of t).denominator ∷ []

abbrev pub report_totals : Report → List ℕ
report_totals r = totals_of r.load

abbrev pub report_hits : Report → List ℕ
report_hits r = r.hits

-- As many hits are lent as a list can have places.
abbrev pub hits_size : ℕ
hits_size = limits.total

-- Totals, hits and the work buffer are long enough.
unfoldable pub all_lent : List ℕ → List ℕ → List ℕ → Bool
all_lent ts hs w = room_for totals_size ts && (room_for hits_size hs && room_for work_size w)

-- 1 unless they are, then what is given comes to.
unfoldable pub report_call : List ℕ → List ℕ → List ℕ → List ℕ → Bool → Outcome Report
report_call s packets earlier later lent = test lent 1 (report_of limits s packets earlier later)

-- The call: it determines the answer (the number of places), the totals, the hits and the work buffer.
pub record Reports (s packets earlier later ts hs w : List ℕ) (r : Answer) (ts' hs' w' : List ℕ) : Type 0 where
  pub answer : said r ≡ length_of report_hits (report_call s packets earlier later (all_lent ts hs w))
  pub totals : ts' ≡ written report_totals totals_size ts (report_call s packets earlier later (all_lent ts hs w))
  pub hits : hs' ≡ written report_hits hits_size hs (report_call s packets earlier later (all_lent ts hs w))
  pub work : w' ≡ work_after (all_lent ts hs w) w
