-- `put_fronts` meets its contract: the loop's invariant says which fronts are stored, and where the next group begins. Assumes nothing.
use mathlib.Core.Path.{◌≡◌}
use Prim.Native.Nat.{ℕ, ◌+◌, ◌<◌}
use lib.ListN.{length, get_or}
use Rattle.sheet.specs.Steps.{pair_at}
use Rattle.origins.specs.Steps.{front_of}
use Rattle.rows.specs.Steps.{fronts_at}
use Rattle.rows.proofs.Fronts.{Reached}
use Rattle.rows.proofs.put_fronts.Given as goal

abbrev pub invariant-loop-k : goal.invariant-loop-k
invariant-loop-k l =
    let s = l.sheet.bytes.now in
    (length l.table ≡ length l.initial.table) × Reached s l.sheet.layout l.k l.boxes l.start × ((j : ℕ) → j < l.k → get_or l.table (fronts_at + j) 0 ≡ front_of (pair_at l.sheet.layout s) j)
