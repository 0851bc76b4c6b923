-- `put_hits` meets its contract. Assumes nothing.
use Rattle.std.proofs.Common.{append-nil}
use native.Mathlib.Omega.{arith}
use mathlib.Core.Path.{◌≡◌, refl, ap, ◌∙◌}
use mathlib.Core.List.{List, [], ◌++◌}
use Prim.Native.Nat.{ℕ, ◌+◌, ◌≤◌}
use lib.ListN.{length, drop, drop_of_length-le}
use lib.Seq.{sets, length-take-le}
use Rattle.lists.proofs.Lists.{sets-next, sets-parts}
use Rattle.load.specs.Packets.{hits_in}
use Rattle.reporting.specs.Report.{hits_size}
use Rattle.reporting.proofs.Hits.{hits-length, padded, padded_at, padded_length, padded_filled}
use Rattle.reporting.proofs.put_hits.Goals as goal

-- The hits fit in what is filled.
padded_all : (n : ℕ) → n ≤ hits_size → (earlier later : List ℕ) → length (padded hits_size (hits_in n earlier later)) ≡ hits_size
padded_all n few earlier later = padded_length hits_size (hits_in n earlier later) (omega (arith, hits-length n earlier later))

-- Numbers stored over all of a list.
stored_over : (l vs : List ℕ) → length l ≡ length vs → sets l 0 vs ≡ vs
stored_over l vs e =
    let rest : drop (0 + length vs) l ≡ [] = drop_of_length-le l {i = 0 + length vs} (omega arith) in
    sets-parts l 0 vs (omega arith) ∙ rw (rest, append-nil) refl

pub loop-place-preserved : goal.loop-place-preserved
loop-place-preserved c =
    let h = c.loop-place in
    let r = c.args.readings in
    let all = padded_all r.places r.few r.earlier.now r.later.now in
    let front = length-take-le hits_size c.args.hits.now c.requires in
    sets-next h.front h.place _ h.place _ 0 _ (omega (arith, all, front, c.loop-place-test.true)) (c.hits_at.ensures ∙ padded_at hits_size _ _) h.invariant

pub returns : goal.returns
returns c =
    let h = c.loop-place in
    let r = c.args.readings in
    let content : List ℕ = hits_in r.places r.earlier.now r.later.now in
    let all = padded_all r.places r.few r.earlier.now r.later.now in
    let front = length-take-le hits_size c.args.hits.now c.requires in
    let last = drop_of_length-le (padded hits_size content) {i = h.place} (omega (arith, all, front, c.loop-place-test.false)) in
    let put : h.front ≡ padded hits_size content = (rw last at h.invariant) ∙ stored_over _ (padded hits_size content) (omega (arith, all, front)) in
    ap (λ (l : List ℕ). l ++ drop hits_size c.args.hits.now) put ∙ padded_filled hits_size content c.args.hits.now
