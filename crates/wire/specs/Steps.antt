-- The words in which the inner functions that write bytes say what they leave. Assumes nothing.
use Rattle.std.specs.Prelude.{List, ◌++◌, Bool, ◌||◌, ℕ, ◌+◌, ◌-◌, eqb, take, drop}

-- The widths that a field can have.
unfoldable pub is_width : ℕ → Bool
is_width w = eqb w 4 || (eqb w 2 || eqb w 1)

-- Each byte from one up to another taken from `by` bytes further up.
unfoldable pub copied_down : ℕ → ℕ → ℕ → List ℕ → List ℕ
copied_down by from to out = take from out ++ (take (to - from) (drop (by + from) out) ++ drop to out)

-- The first n bytes put `by` bytes further up.
unfoldable pub copied_up : ℕ → ℕ → List ℕ → List ℕ
copied_up by n out = take by out ++ (take n out ++ drop (by + n) out)
