-- Bytes with one list changed, part by part. Assumes nothing.
use mathlib.Core.Path.{◌≡◌, ap, sym, ◌∙◌}
use mathlib.Core.List.{List, ◌++◌, append_assoc}
use Prim.Native.Nat.{ℕ, ◌+◌, ◌*◌, ◌-◌, ◌≤◌}
use native.Mathlib.Omega.{arith}
use lib.ListN.{length, take, drop, length-append, length-drop}
use lib.Seq.{sets, take_at, drop_at, length-take-le}
use Rattle.lists.specs.Lists.{Each}
use Rattle.lists.proofs.Lists.{sets-append, three-parts, each_take, each-drop}
use Rattle.lists.proofs.Parts.{tail_whole}
use Rattle.policy.specs.Fields.{count_size, record_size}
use Rattle.policy.specs.Rules.{Rule}
use Rattle.policy.specs.Edit.{Kind, out, put, front, gone, back, changed}
use Rattle.wire.specs.Numbers.{number_bytes}
use Rattle.wire.specs.Records.{records_bytes, record_bytes}
use Rattle.wire.proofs.Numbers.{number_bytes-length}
use Rattle.wire.proofs.Records.{RuleFits, records_bytes-length}
use Rattle.edit_list.specs.Steps.{spliced}
use Rattle.wire.specs.Lists.{list_bytes}
use Rattle.wire.proofs.Items.{bytes-append}

-- four parts one behind another
module _ (out a b c d o₁ o₂ o₃ o₄ : List ℕ) (p q r : ℕ) where
  four_put : o₁ ≡ sets out 0 a → o₂ ≡ sets o₁ p b → o₃ ≡ sets o₂ q c → o₄ ≡ sets o₃ r d
      → p ≡ 0 + length a → q ≡ p + length b → r ≡ q + length c
      → (r + length d ≡ length (a ++ (b ++ (c ++ d)))) × (o₄ ≡ sets out 0 (a ++ (b ++ (c ++ d))))
  four_put ea eb ec ed ep eq er = (
    rw (length-append, length-append, length-append) (omega arith),
    ed ∙ rw (ec, eb, ea, sets-append out 0 a (b ++ (c ++ d)), sets-append (sets out 0 a) (0 + length a) b (c ++ d), ← ep, ← eq, sets-append (sets (sets out 0 a) p b) q c d, ← er),
  )

pub splice_put : (out s new o₁ o₂ o₃ o₄ : List ℕ) (count place taken from next end r : ℕ)
    → from ≡ count_size + record_size * place → next ≡ from + record_size * taken → next ≤ length s
    → o₁ ≡ sets out 0 (number_bytes count_size count) → o₂ ≡ sets o₁ count_size (take (from - count_size) (drop count_size s))
    → o₃ ≡ sets o₂ from new → o₄ ≡ sets o₃ end (take (length s - next) (drop next s))
    → end ≡ from + length new → r ≡ end + length (take (length s - next) (drop next s))
    → (r ≡ length (spliced s count place taken new)) × (o₄ ≡ sets out 0 (spliced s count place taken new))
unfolding spliced
splice_put out s new o₁ o₂ o₃ o₄ count place taken from next end r eo en h ea eb ec ed es er =
    let w : from - count_size ≡ record_size * place = omega arith in
    let t = tail_whole s next h in
    let la = number_bytes-length count_size count in
    let lb : length (take (record_size * place) (drop count_size s)) ≡ record_size * place = length-take-le (record_size * place) (drop count_size s) (rw length-drop (omega arith)) in
    let v = four_put out (number_bytes count_size count) (take (record_size * place) (drop count_size s)) new (drop next s) o₁ o₂ o₃ o₄ count_size from end
    ea (rw w at eb) ec (rw t at ed) (omega arith) (omega arith) es in
    let g : next ≡ count_size + record_size * place + record_size * taken = omega arith in
    rw (er, t, ← g) v

-- bytes in parts, one of them taken out and another put in
parts_spliced : (s c f g b new : List ℕ) (count place out : ℕ) → s ≡ c ++ (f ++ (g ++ b))
    → length c ≡ count_size → length f ≡ record_size * place → length g ≡ record_size * out
    → spliced s count place out new ≡ number_bytes count_size count ++ (f ++ (new ++ b))
unfolding spliced
parts_spliced s c f g b new count place out e lc lf lg =
    let three : s ≡ (c ++ (f ++ g)) ++ b = e ∙ sym (append_assoc c (f ++ g) b ∙ ap (λ (t : List ℕ). c ++ t) (append_assoc f g b)) in
    let l₃ : length (c ++ (f ++ g)) ≡ count_size + record_size * place + record_size * out = rw (length-append c (f ++ g), length-append f g) (omega arith) in
    let mid : drop count_size s ≡ f ++ (g ++ b) = ap (drop count_size) e ∙ drop_at c (f ++ (g ++ b)) count_size lc in
    let last : drop (count_size + record_size * place + record_size * out) s ≡ b = ap (drop (count_size + record_size * place + record_size * out)) three ∙ drop_at (c ++ (f ++ g)) b _ l₃ in
    rw (mid, last, take_at f (g ++ b) (record_size * place) lf)

-- the bytes of a list changed
pub section_spliced : (new : List ℕ) (l : List Rule) (i : ℕ) (k : Kind) (count : ℕ) → Each RuleFits l → i + out k ≤ length l
    → new ≡ records_bytes (put k) → count ≡ length (changed i k l)
    → spliced (list_bytes l) count i (out k) new ≡ list_bytes (changed i k l)
unfolding list_bytes
section_spliced new l i k count fits h en ec =
    let f : List Rule = front i l in
    let g : List Rule = gone i k l in
    let b : List Rule = back i k l in
    let lf : length f ≡ i = length-take-le i l (omega arith) in
    let lg : length g ≡ out k = length-take-le (out k) (drop i l) (rw length-drop (omega arith)) in
    let whole : records_bytes l ≡ records_bytes f ++ (records_bytes g ++ records_bytes b) =
    ap records_bytes (sym (three-parts i (out k) l)) ∙ bytes-append record_bytes f (g ++ b) ∙ ap (λ (t : List ℕ). records_bytes f ++ t) (bytes-append record_bytes g b) in
    let parts : number_bytes count_size (length l) ++ records_bytes l ≡ number_bytes count_size (length l) ++ (records_bytes f ++ (records_bytes g ++ records_bytes b)) =
    ap (λ (t : List ℕ). number_bytes count_size (length l) ++ t) whole in
    let done = parts_spliced (number_bytes count_size (length l) ++ records_bytes l) (number_bytes count_size (length l)) (records_bytes f) (records_bytes g) (records_bytes b) new count i (out k) parts (number_bytes-length count_size (length l))
    (records_bytes-length f (each_take RuleFits i l fits) ∙ ap (λ (n : ℕ). record_size * n) lf)
    (records_bytes-length g (each_take RuleFits (out k) (drop i l) (each-drop RuleFits i l fits)) ∙ ap (λ (n : ℕ). record_size * n) lg) in
    done ∙ rw (en, ec, bytes-append record_bytes f (put k ++ b), bytes-append record_bytes (put k) b)
