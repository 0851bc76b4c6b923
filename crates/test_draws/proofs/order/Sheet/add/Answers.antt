-- `add` puts the bytes behind those that are there. Assumes nothing.
use Rattle.std.proofs.Common.{rules, arith, ◌≡◌, ◌+◌, ◌-◌, ◌++◌, List, ℕ, ◌<◌, ◌≤◌, ◌∙◌, ap, sym, refl, length, take, drop, length-append, length-take-le}
use Rattle.std.proofs.lemmas.List.Edits.{sets, sets-eq}
use lib.Seq.{take_at, length-sets}
use Rattle.test_draws.specs.Steps.{Added}
use Rattle.test_draws.proofs.order.Sheet.add.Goals as goal

put_behind : (used : ℕ) (bytes more after : List ℕ) (end : ℕ) → used + length more ≤ length bytes → after ≡ sets bytes used more → end ≡ used + length more
    → take end after ≡ take used bytes ++ more
put_behind used bytes more after end h e n =
    ap (take end) (e ∙ sets-eq more bytes used h)
    ∙ take_at (take used bytes ++ more) (drop (used + length more) bytes) end (rw (length-append, length-take-le used bytes (omega arith)) (sym n))

has_room : {used size more : ℕ} (bytes : List ℕ) → length bytes ≡ size → used ≤ length bytes → more ≤ size - used → used + more ≤ length bytes
has_room bytes l u h = omega arith

no_room : (used : ℕ) {size more : ℕ} (bytes : List ℕ) → length bytes ≡ size → size - used < more → length bytes < used + more
no_room used bytes l h = omega arith

pub returns-then-new-self : goal.returns-then-new-self
unfolding Added
returns-then-new-self c =
    let room = has_room c.args.self.now.bytes (search rules) (search rules) c.if-new-self.true in
    ((λ h. (c.put_bytes-self.ensures.0, put_behind _ _ _ _ _ h (c.put_bytes-self.ensures.1) (c.put_bytes-self.ensures.0))), (λ h. absurd (omega (arith, room, h))), ap length (c.put_bytes-self.ensures.1) ∙ length-sets c.args.self.now.bytes c.args.self.now.used c.args.new.now)

pub returns-else-new-self : goal.returns-else-new-self
unfolding Added
returns-else-new-self c =
    let none = no_room c.args.self.now.used c.args.self.now.bytes (search rules) c.if-new-self.false in
    ((λ h. absurd (omega (arith, none, h))), (λ h. (refl, refl)), refl)
