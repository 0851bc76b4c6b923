-- What holds of every element of a list, and a test of two lists side by side. Assumes nothing.
use Rattle.std.specs.Prelude.{List, [], ◌∷◌, Bool, true, false, ◌&&◌}

unfoldable pub Each : {A : Type 0} → (A → Type 0) → List A → Type 0
Each P [] = Unit {0}
Each P (a ∷ l) = P a × Each P l

-- The same as a test.
unfoldable pub every : {A : Type 0} → (A → Bool) → List A → Bool
every f [] = true
every f (a ∷ l) = f a && every f l

-- As many elements in both lists, and the test holds of each two that stand side by side.
unfoldable pub every_both : {A B : Type 0} → (A → B → Bool) → List A → List B → Bool
every_both f [] [] = true
every_both f [] (b ∷ k) = false
every_both f (a ∷ l) [] = false
every_both f (a ∷ l) (b ∷ k) = f a b && every_both f l k
