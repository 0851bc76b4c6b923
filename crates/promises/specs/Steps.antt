-- What a call's inner part answers and leaves, once everything lent is long enough. Assumes nothing.
use Rattle.std.specs.Prelude.{◌≡◌, List, ℕ, drop}
use Rattle.policy.specs.Fields.{work_size}
use Rattle.policy.specs.Refusals.{Answer, Outcome, said}
use Rattle.wire.specs.Buffers.{written, length_of}

-- A result written to a buffer, or a refusal; nothing changed behind the work buffer's front.
pub record Writes {A : Type 0} (bytes : A → List ℕ) (size : ℕ) (x : Outcome A) (out w : List ℕ) (r : Answer) (out' w' : List ℕ) : Type 0 where
  pub answer : said r ≡ length_of bytes x
  pub result : out' ≡ written bytes size out x
  pub beyond : drop work_size w' ≡ drop work_size w
