-- The bytes that an edit makes of a list's (01, Calls and Numbers given back). Assumes nothing.
use Rattle.std.specs.Prelude.{◌≡◌, List, [], ◌++◌, ℕ, ◌+◌, ◌*◌, ◌-◌, leb, eqb, length, take, drop, cond}
use Rattle.std.proofs.lemmas.List.Edits.{sets}
use Rattle.policy.specs.Fields.{count_size, record_size, limits}
use Rattle.policy.specs.Refusals.{Answer, Outcome, accepted, refused, test, said}
use Rattle.policy.specs.Edit.{out, put}
use Rattle.wire.specs.Numbers.{number_bytes}
use Rattle.wire.specs.Buffers.{length_of}
use Rattle.promises.specs.Edits.{kind_of, whole_record}
use Rattle.promises.specs.declared.Change.{Change}

-- How many rules a change takes out at its place, and how many it puts in, whatever the record is.
abbrev pub taken_by : Change → ℕ
taken_by c = out (kind_of c [])

abbrev pub put_by : Change → ℕ
put_by c = length (put (kind_of c []))

-- The most rules of the list that an edit names: A (0), or B.
abbrev pub most_in : ℕ → ℕ
most_in which = cond (eqb which 0) limits.gate limits.own

-- The bytes of a list, changed: its new count, its records before the place, the bytes put in, and what stands behind the records
-- taken out.
unfoldable pub spliced : List ℕ → ℕ → ℕ → ℕ → List ℕ → List ℕ
spliced s count place out new =
    number_bytes count_size count
    ++ (take (record_size * place) (drop count_size s)
    ++ (new ++ drop (count_size + record_size * place + record_size * out) s))

-- The same for a list of `count` rules and a change, whose record is the bytes given.
abbrev pub new_bytes : List ℕ → ℕ → ℕ → Change → List ℕ → List ℕ
new_bytes s count place c new =
    spliced s (count - taken_by c + put_by c) place (taken_by c) (take (record_size * put_by c) new)

-- 9, then 3 for the record's length; then the bytes.
unfoldable pub changed_bytes : List ℕ → ℕ → ℕ → Change → List ℕ → Outcome (List ℕ)
changed_bytes s count place c new =
    test (leb (place + taken_by c) count) 9 (test (whole_record c new) 3 (accepted (new_bytes s count place c new)))

-- Bytes at the front of a buffer, or nothing.
unfoldable pub overlaid : List ℕ → Outcome (List ℕ) → List ℕ
overlaid out (accepted s) = sets out 0 s
overlaid out (refused n) = out

-- The answer is the length of what stands at the front, or the refusal.
pub record ListChanged (x : Outcome (List ℕ)) (out : List ℕ) (r : Answer) (out' : List ℕ) : Type 0 where
  pub answer : said r ≡ length_of (λ (s : List ℕ). s) x
  pub result : out' ≡ overlaid out x
