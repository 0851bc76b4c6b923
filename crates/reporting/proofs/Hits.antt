-- Hits by place, and how they are put. Assumes nothing.
use mathlib.Core.Path.{◌≡◌, refl, ap, sym}
use mathlib.Core.List.{List, [], ◌∷◌, ◌++◌, append_assoc}
use mathlib.Core.Bool.{true}
use Prim.Native.Nat.{ℕ, zero, suc, ◌+◌, ◌*◌, ◌-◌, ◌≤◌, ◌<◌}
use native.Mathlib.Omega.{arith}
use lib.Dec.{eqb}
use lib.ListN.{length, get_or, take, drop, replicate, length-append, length-replicate}
use lib.Seq.{drop-drop}
use borrow.Author.Tests.{eqb-true}
use Rattle.lists.proofs.Tests.{and_true}
use Rattle.wire.specs.Numbers.{number_in}
use Rattle.wire.specs.Buffers.{filled}
use Rattle.load.specs.Load.{hits_between}
use Rattle.load.specs.Packets.{reading_size, hits_in}
use Rattle.reporting.specs.Report.{are_readings}

pub readings_there : (n : ℕ) (earlier later : List ℕ) → are_readings n earlier later ≡ true → (length earlier ≡ reading_size * n) × (length later ≡ reading_size * n)
unfolding are_readings
readings_there n earlier later h =
    let b = and_true (eqb (length earlier) (reading_size * n)) _ h in
    (eqb-true (length earlier) (reading_size * n) b.0, eqb-true (length later) (reading_size * n) b.1)

pub hits-length : (n : ℕ) (earlier later : List ℕ) → length (hits_in n earlier later) ≡ n
unfolding hits_in
hits-length zero earlier later = refl
hits-length (suc n) earlier later = ap suc (hits-length n (drop reading_size earlier) (drop reading_size later))

pub hits_past : (n i : ℕ) (earlier later : List ℕ) → n ≤ i → 0 ≡ get_or (hits_in n earlier later) i 0
unfolding hits_in
hits_past zero i earlier later h = refl
hits_past (suc n) zero earlier later h = absurd (omega arith)
hits_past (suc n) (suc i) earlier later h = hits_past n i (drop reading_size earlier) (drop reading_size later) (omega arith)

pub hits_here : (n i : ℕ) (earlier later : List ℕ) → i < n
    → hits_between (number_in (take reading_size (drop (reading_size * i) earlier))) (number_in (take reading_size (drop (reading_size * i) later))) ≡ get_or (hits_in n earlier later) i 0
unfolding hits_in
hits_here zero i earlier later h = absurd (omega arith)
hits_here (suc n) zero earlier later h = refl
hits_here (suc n) (suc i) earlier later h =
    let m : reading_size * suc i ≡ reading_size + reading_size * i = omega arith in
    let r = hits_here n i (drop reading_size earlier) (drop reading_size later) (omega arith) in
    rw (m, ← drop-drop (reading_size * i) reading_size earlier, ← drop-drop (reading_size * i) reading_size later) r

-- Numbers, and zeros behind them up to a size.
unfoldable pub padded : ℕ → List ℕ → List ℕ
padded size l = l ++ replicate (size - length l) 0

zeros_at : (n i : ℕ) → get_or (replicate {A = ℕ} n 0) i 0 ≡ 0
zeros_at zero i = refl
zeros_at (suc n) zero = refl
zeros_at (suc n) (suc i) = zeros_at n i

append_zeros : (l : List ℕ) (n i : ℕ) → get_or (l ++ replicate n 0) i 0 ≡ get_or l i 0
append_zeros [] n i = zeros_at n i
append_zeros (x ∷ l) n zero = refl
append_zeros (x ∷ l) n (suc i) = append_zeros l n i

pub padded_at : (size : ℕ) (l : List ℕ) (i : ℕ) → get_or l i 0 ≡ get_or (padded size l) i 0
unfolding padded
padded_at size l i = sym (append_zeros l (size - length l) i)

pub padded_length : (size : ℕ) (l : List ℕ) → length l ≤ size → length (padded size l) ≡ size
unfolding padded
padded_length size l short = rw (length-append, length-replicate) (omega arith)

pub padded_filled : (size : ℕ) (l out : List ℕ) → padded size l ++ drop size out ≡ filled size out l
unfolding filled padded
padded_filled size l out = append_assoc l (replicate (size - length l) 0) (drop size out)
