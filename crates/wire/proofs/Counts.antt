-- A count and so many items of one size behind it, written and read. Assumes nothing.
use mathlib.Core.Path.{◌≡◌, ap, sym, ◌∙◌}
use mathlib.Core.List.{List, ◌++◌, append_assoc}
use Prim.Native.Nat.{ℕ, ◌+◌, ◌*◌, ◌<◌, ◌≤◌}
use native.Mathlib.Omega.{arith}
use lib.ListN.{length, take, drop, length-append, length-drop}
use lib.Seq.{take_at, drop_at, take-add, length-take-le}
use Rattle.lists.specs.Lists.{Each}
use Rattle.policy.specs.Fields.{count_size}
use Rattle.wire.specs.Numbers.{number_bytes, number_in, Byte}
use Rattle.wire.proofs.Numbers.{number_bytes-length, number_back, bytes_back, bytes_take, bytes_drop}
use Rattle.wire.specs.Lists.{count_in}

pub count_back : (n : ℕ) (t : List ℕ) → n < 65536 → count_in (number_bytes count_size n ++ t) ≡ n
count_back n t h = ap number_in (take_at (number_bytes count_size n) t count_size (number_bytes-length count_size n)) ∙ number_back count_size n h

pub count_behind : (n : ℕ) (t : List ℕ) → drop count_size (number_bytes count_size n ++ t) ≡ t
count_behind n t = drop_at (number_bytes count_size n) t count_size (number_bytes-length count_size n)

pub count_written_back : (s : List ℕ) → Each Byte s → count_size ≤ length s → number_bytes count_size (count_in s) ≡ take count_size s
count_written_back s b h = bytes_back count_size (take count_size s) (length-take-le count_size s h) (bytes_take count_size s b)

-- The count, its items, and what stands behind them.
pub record Counted (size n : ℕ) (items t : List ℕ) : Type 0 where
  pub count : count_in ((number_bytes count_size n ++ items) ++ t) ≡ n
  pub behind : drop count_size ((number_bytes count_size n ++ items) ++ t) ≡ items ++ t
  pub rest : drop (count_size + size * n) ((number_bytes count_size n ++ items) ++ t) ≡ t
  pub long : length ((number_bytes count_size n ++ items) ++ t) ≡ count_size + size * n + length t

pub counted : (size n : ℕ) (items t : List ℕ) → n < 65536 → length items ≡ size * n → Counted size n items t
counted size n items t h e =
    let head : List ℕ = number_bytes count_size n in
    let a : (head ++ items) ++ t ≡ head ++ (items ++ t) = append_assoc head items t in
    let d : drop count_size ((head ++ items) ++ t) ≡ items ++ t = ap (drop count_size) a ∙ count_behind n (items ++ t) in
    let l : length (head ++ items) ≡ count_size + size * n = rw (length-append, number_bytes-length) (ap (λ (k : ℕ). count_size + k) e) in
    record {
      count = ap count_in a ∙ count_back n (items ++ t) h;
      behind = d;
      rest = drop_at (head ++ items) t (count_size + size * n) l;
      long = length-append (head ++ items) t ∙ ap (λ (k : ℕ). k + length t) l;
    }

-- The same as it was read.
pub counted_written_back :
    (size : ℕ) (s items : List ℕ) → Each Byte s → count_size + size * count_in s ≤ length s
    → (Each Byte (drop count_size s) → size * count_in s ≤ length (drop count_size s) → items ≡ take (size * count_in s) (drop count_size s))
    → number_bytes count_size (count_in s) ++ items ≡ take (count_size + size * count_in s) s
counted_written_back size s items b h f =
    rw (count_written_back s b (omega arith), f (bytes_drop count_size s b) (rw length-drop (omega arith))) (sym (take-add count_size (size * count_in s) s))
