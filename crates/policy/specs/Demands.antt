-- What is claimed of first match, of a cut and of a group, each theorem as a type that has one value in proofs/; and what it is for
-- an edit to leave other rules' groups alone. Assumes nothing.
use Rattle.std.specs.Prelude.{◌≡◌, List, [], ◌∷◌, true, false, not, ◌&&◌, ◌||◌, ℕ, ◌+◌, ◌*◌, ◌≤◌, ◌<◌, length, get_or, take}
use Rattle.lists.specs.Lists.{Each}
use Rattle.policy.specs.Ranges.{Region, Packet, inside, Whole, Within}
use Rattle.policy.specs.Rules.{Rule, rule, is_allow, nothing, first, in_limits, denies, any_allow}
use Rattle.policy.specs.Cut.{cut, group, any_has}
use Rattle.policy.specs.Refusals.{rules_refusal}
use Rattle.policy.specs.Move.{Pair}
use Rattle.policy.specs.Edit.{Kind, out, put, gone}

-- 01, The five fields: in a list without a bad rule, a packet outside the limits of some field finds no rule that has it.
abbrev pub AboveTheorem : Type 0
AboveTheorem = (p : Packet) (l : List Rule) → rules_refusal l ≡ 0 → in_limits p ≡ false → first p l ≡ nothing

-- A piece of d is never empty and lies in d.
abbrev pub Piece : Region → Region → Type 0
Piece d b = Whole b × Within b d

-- No two boxes of the list have a packet in common.
abbrev pub Apart : List Region → Type 0
Apart l =
    (i j : ℕ) → i < j → j < length l → (p : Packet) → inside p (get_or l i []) ≡ true → inside p (get_or l j []) ≡ true → ⊥

-- The boxes together have exactly the packets of d that a does not have.
abbrev pub Left : Region → Region → List Region → Type 0
Left d a l = (p : Packet) → any_has p l ≡ (inside p d && not (inside p a))

-- 01, Cutting one box from another: the pieces of d less a, over any number of fields.
pub record CutHolds (d a : Region) : Type 0 where
  pub parts : Each (Piece d) (cut d a)
  pub few : length (cut d a) ≤ 2 * length d
  pub apart : Apart (cut d a)
  pub exact : Left d a (cut d a)

abbrev pub CutTheorem : Type 0
CutTheorem = (d a : Region) → Whole d → Whole a → length a ≡ length d → CutHolds d a

-- 02, W2: where no packet is in both boxes, the deny box is left whole.
abbrev pub WholeTheorem : Type 0
WholeTheorem =
    (d a : Region) → Whole d → Whole a → ((p : Packet) → inside p d ≡ true → inside p a ≡ false) → cut d a ≡ d ∷ []

-- Beyond 02: no list of boxes that leaves the same packets is shorter than the cut.
abbrev pub FewestTheorem : Type 0
FewestTheorem = (d a : Region) → Whole d → Whole a → (l : List Region) → Left d a l → length (cut d a) ≤ length l

-- What `CutHolds` says, but for the number, of the group of deny box d after these allows.
pub record GroupHolds (d : Region) (allows : List Region) : Type 0 where
  pub parts : Each (Piece d) (group (d ∷ []) allows)
  pub apart : Apart (group (d ∷ []) allows)
  pub exact : (p : Packet) → any_has p (group (d ∷ []) allows) ≡ (inside p d && not (any_has p allows))

abbrev pub GroupTheorem : Type 0
GroupTheorem = (d : Region) (allows : List Region) → Whole d → Each Whole allows → GroupHolds d allows

-- The group of the deny rule at a place of A.
abbrev pub group_at : Pair → ℕ → List Region
group_at s j = get_or s.groups (denies (take j s.order.gate)) []

-- Neither what a change at place i takes out of A nor what it puts in is an allow.
abbrev pub DenyOnly : ℕ → Kind → List Rule → Type 0
DenyOnly i k gate = (any_allow (gone i k gate) || any_allow (put k)) ≡ false

-- Demand 3: where a change at place i of A makes s of p, no other rule's group is another. A deny rule before the place has its
-- group, and so has each rule behind what was taken out, which now stands behind what was put in (d counts from 0).
pub record OthersKept (i : ℕ) (k : Kind) (p s : Pair) : Type 0 where
  pub earlier : (j : ℕ) → j < i → is_allow (get_or p.order.gate j (rule [] 0)) ≡ false → group_at s j ≡ group_at p j
  pub later : (d : ℕ) → group_at s (i + (length (put k) + d)) ≡ group_at p (i + (out k + d))
