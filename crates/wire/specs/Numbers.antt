-- Numbers in bytes, big-endian (01, Sheets). Assumes nothing.
use Rattle.std.specs.Prelude.{List, [], ◌∷◌, ◌++◌, ℕ, zero, suc, ◌+◌, ◌*◌, ◌/◌, ◌%◌, ◌<◌}

-- The w bytes of x, the highest first.
unfoldable pub number_bytes : ℕ → ℕ → List ℕ
number_bytes zero x = []
number_bytes (suc w) x = number_bytes w (x / 256) ++ (x % 256 ∷ [])

-- The number that bytes say.
unfoldable pub number_from : ℕ → List ℕ → ℕ
number_from x [] = x
number_from x (b ∷ bs) = number_from (x * 256 + b) bs

abbrev pub number_in : List ℕ → ℕ
number_in bs = number_from 0 bs

-- What each number of a list must be for them to be bytes.
abbrev pub Byte : ℕ → Type 0
Byte b = b < 256
