-- What writing leaves in a lent buffer (01, Calls and Numbers given back). Assumes nothing.
use Rattle.std.specs.Prelude.{List, ◌++◌, Bool, ℕ, ◌-◌, leb, length, take, drop, replicate}
use Rattle.policy.specs.Refusals.{Outcome, accepted, refused}

-- Number 1: what is lent is long enough.
unfoldable pub room_for : ℕ → List ℕ → Bool
room_for n out = leb n (length out)

-- The bytes from the first number up to the second set to zero.
unfoldable pub zeroed : ℕ → ℕ → List ℕ → List ℕ
zeroed from to out = take from out ++ (replicate (to - from) 0 ++ drop to out)

-- Content at the front, zero behind it up to `end`, and beyond that what was there.
unfoldable pub filled : ℕ → List ℕ → List ℕ → List ℕ
filled end out content = content ++ (replicate (end - length content) 0 ++ drop end out)

-- What is left of a buffer that a call writes: the content and zeros behind it, or after a refusal what was there.
unfoldable pub written : {A : Type 0} → (A → List ℕ) → ℕ → List ℕ → Outcome A → List ℕ
written bytes end out (accepted a) = filled end out (bytes a)
written bytes end out (refused n) = out

-- Where the answer is the length of what was written.
unfoldable pub length_of : {A : Type 0} → (A → List ℕ) → Outcome A → Outcome ℕ
length_of bytes (accepted a) = accepted (length (bytes a))
length_of bytes (refused n) = refused n

-- Where the answer is a fixed number.
unfoldable pub answered : {A : Type 0} → ℕ → Outcome A → Outcome ℕ
answered n (accepted a) = accepted n
answered n (refused m) = refused m
