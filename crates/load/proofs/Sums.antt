-- Loads added. Assumes nothing.
use Rattle.std.proofs.Common.{◌≡◌, ℕ, ◌+◌, Bool, true, false, cond, List, [], ◌∷◌, ◌++◌, length, sym, refl, ap, ◌∙◌, arith, length-append}
use Rattle.policy.specs.Ranges.{Packet}
use Rattle.policy.specs.Rules.{Rule, forwards}
use Rattle.policy.specs.Move.{Pair}
use Rattle.load.specs.Load.{tries_before, tries_after, forwarded_by, sum_of, Load, load, load_of, plus, no_load}

sum_append : (f : Packet → ℕ) (ps rest : List Packet) → sum_of f (ps ++ rest) ≡ sum_of f ps + sum_of f rest
unfolding sum_of
sum_append f [] rest = omega arith
sum_append f (p ∷ ps) rest = let e = sum_append f ps rest in omega (arith, e)

forwarded-append : (gate cell : List Rule) (ps rest : List Packet) → forwarded_by gate cell (ps ++ rest) ≡ forwarded_by gate cell ps ++ forwarded_by gate cell rest
unfolding forwarded_by
forwarded-append gate cell [] rest = refl
forwarded-append gate cell (p ∷ ps) rest = go (forwards p gate cell) (forwarded-append gate cell ps rest)
  where
    go : (t : Bool) → forwarded_by gate cell (ps ++ rest) ≡ forwarded_by gate cell ps ++ forwarded_by gate cell rest
        → cond t (p ∷ forwarded_by gate cell (ps ++ rest)) (forwarded_by gate cell (ps ++ rest)) ≡ cond t (p ∷ forwarded_by gate cell ps) (forwarded_by gate cell ps) ++ forwarded_by gate cell rest
    go true e = ap (λ (l : List Packet). p ∷ l) e
    go false e = e

-- four numbers that are equal
pub load_same : {n n' b b' a a' f f' : ℕ} → n ≡ n' → b ≡ b' → a ≡ a' → f ≡ f' → load n b a f ≡ load n' b' a' f'
load_same n b a f = λ i. load (n i) (b i) (a i) (f i)

pub loads_append : (q : Pair) (ps rest : List Packet) → load_of q (ps ++ rest) ≡ plus (load_of q ps) (load_of q rest)
unfolding load_of plus
loads_append q ps rest =
    let f = forwarded-append q.order.gate q.order.own ps rest in
    load_same (length-append ps rest) (sum_append (tries_before q) ps rest) (sum_append (tries_after q) ps rest) (ap length f ∙ length-append (forwarded_by q.order.gate q.order.own ps) (forwarded_by q.order.gate q.order.own rest))

pub plus_none : (t : Load) → plus t no_load ≡ t
unfolding plus
plus_none t = load_same (omega arith) (omega arith) (omega arith) (omega arith)

pub plus_assoc : (t u v : Load) → plus (plus t u) v ≡ plus t (plus u v)
unfolding plus
plus_assoc t u v = load_same (omega arith) (omega arith) (omega arith) (omega arith)

-- one packet, and the others behind it
pub load_first : (q : Pair) (t : Load) (p : Packet) (ps : List Packet) → plus (plus t (load_of q (p ∷ []))) (load_of q ps) ≡ plus t (load_of q (p ∷ ps))
load_first q t p ps = plus_assoc t (load_of q (p ∷ [])) (load_of q ps) ∙ ap (plus t) (sym (loads_append q (p ∷ []) ps))
