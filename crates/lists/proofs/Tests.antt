-- Laws on Bools. Assumes nothing.
use mathlib.Core.Path.{◌≡◌, refl, sym}
use mathlib.Core.Bool.{Bool, true, false, ◌&&◌, ◌||◌}

pub and_true : (b c : Bool) → (b && c) ≡ true → (b ≡ true) × (c ≡ true)
and_true true true h = (refl, refl)
and_true true false h = (refl, h)
and_true false c h = (h, let z : false ≡ true = h in cc)

pub and_both : (b c : Bool) → b ≡ true → c ≡ true → (b && c) ≡ true
and_both b c h k = rw (h, k)

pub and_false : (b : Bool) → (b && false) ≡ false
and_false true = refl
and_false false = refl

pub or_false : (t u : Bool) → (t || u) ≡ false → (t ≡ false) × (u ≡ false)
or_false true u h = (h, let z : true ≡ false = h in cc)
or_false false u h = (refl, h)

pub or_assoc : (t u v : Bool) → (t || (u || v)) ≡ (t || u || v)
or_assoc true u v = refl
or_assoc false u v = refl

-- Two tests that imply each other are equal.
pub bool_eq : (u w : Bool) → (u ≡ true → w ≡ true) → (w ≡ true → u ≡ true) → u ≡ w
bool_eq true w f g = sym (f refl)
bool_eq false true f g = g refl
bool_eq false false f g = refl
