-- Rules and lists: first match, completeness, and what a list and a pair do with a packet (01, The five fields).
-- Assumes nothing.
use Rattle.std.specs.Prelude.{◌≡◌, List, [], ◌∷◌, Bool, true, false, cond, not, ◌&&◌, ◌||◌, ℕ, suc, leb, eqb}
use Rattle.policy.specs.Fields.{highest}
use Rattle.policy.specs.Ranges.{Region, Packet, inside, proper, full_over, is_full}

-- A rule: its box, and 0 to deny or 1 to allow. Whether it is one that number 4 lets pass is asked by `sound`.
pub record Rule : Type 0 where
  pub region : Region
  pub action : ℕ

abbrev pub rule : Region → ℕ → Rule
rule b a = record { region = b; action = a }

abbrev pub is_allow : Rule → Bool
is_allow r = eqb r.action 1

-- The box that is full in every field of the table.
abbrev pub full : Region
full = full_over highest

-- A box that number 4 lets pass.
abbrev pub Proper : Region → Type 0
Proper b = proper highest b ≡ true

-- Number 4 is given unless no low is above its high, no value above its field's highest, and the action is at most 1.
unfoldable pub sound : Rule → Bool
sound r = proper highest r.region && leb r.action 1

-- First match: the place, from 0, and the action of the earliest rule that has the packet.
pub data Found : Type 0 where
  found : ℕ → ℕ → Found
  nothing : Found

unfoldable pub first_from : ℕ → Packet → List Rule → Found
first_from n p [] = nothing
first_from n p (r ∷ l) = cond (inside p r.region) (found n r.action) (first_from (suc n) p l)

abbrev pub first : Packet → List Rule → Found
first p l = first_from 0 p l

-- Completeness: the last rule has no field that is not full.
unfoldable pub complete : List Rule → Bool
complete [] = false
complete (r ∷ []) = is_full highest r.region
complete (r ∷ (s ∷ l)) = complete (s ∷ l)

-- What a list does with a packet: the action that first match finds; without one it neither allows nor drops.
abbrev pub says_allow : Found → Bool
says_allow (found n a) = eqb a 1
says_allow nothing = false

abbrev pub says_drop : Found → Bool
says_drop (found n a) = not (eqb a 1)
says_drop nothing = false

abbrev pub allows : Packet → List Rule → Bool
allows p l = says_allow (first p l)

abbrev pub drops : Packet → List Rule → Bool
drops p l = says_drop (first p l)

-- A packet that has a value above its field's highest is not inside the limits (and then meets no sound rule).
abbrev pub in_limits : Packet → Bool
in_limits p = inside p full

-- What a pair forwards passes at the gate and at the cell.
abbrev pub forwards : Packet → List Rule → List Rule → Bool
forwards p gate cell = allows p gate && allows p cell

-- The deny rules of a list, counted, and the boxes of its allow rules.
unfoldable pub denies : List Rule → ℕ
denies [] = 0
denies (r ∷ l) = cond (is_allow r) (denies l) (suc (denies l))

unfoldable pub allows_in : List Rule → List Region
allows_in [] = []
allows_in (r ∷ l) = cond (is_allow r) (r.region ∷ allows_in l) (allows_in l)

unfoldable pub any_allow : List Rule → Bool
any_allow [] = false
any_allow (r ∷ l) = is_allow r || any_allow l
