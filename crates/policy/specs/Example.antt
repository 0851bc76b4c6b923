-- The printed example (01, Boundary table, the program `plan`): a gate of three rules, a cell that allows all, and the cell list
-- that a move gives. Assumes nothing.
use Rattle.std.specs.Prelude.{◌≡◌, List, [], ◌∷◌, true, false, ℕ}
use Rattle.policy.specs.Ranges.{range, Region, Packet}
use Rattle.policy.specs.Rules.{full, Rule, rule, forwards}
use Rattle.policy.specs.Move.{Order, moved, gate_list, cell_list}
use Rattle.policy.specs.Edit.{delete, edited}

-- Any source and source port; destination, destination port and protocol from one value up to another.
abbrev reaching : ℕ → ℕ → ℕ → ℕ → ℕ → ℕ → Region
reaching d₁ d₂ p₁ p₂ q₁ q₂ = range 0 4294967295 ∷ range d₁ d₂ ∷ range 0 65535 ∷ range p₁ p₂ ∷ range q₁ q₂ ∷ []

abbrev pub example : Order
example = record {
  gate = rule (reaching 10 19 80 80 6 6) 1 ∷ rule (reaching 0 29 0 65535 6 6) 0 ∷ rule full 1 ∷ [];
  own = rule full 1 ∷ [];
}

abbrev pub example_cell : List Rule
example_cell =
    rule (reaching 0 9 0 65535 6 6) 0
    ∷ rule (reaching 20 29 0 65535 6 6) 0
    ∷ rule (reaching 10 19 0 79 6 6) 0
    ∷ rule (reaching 10 19 81 65535 6 6) 0
    ∷ rule full 1
    ∷ []

-- The groups once the gate's first rule is taken out: the deny rule's box whole.
abbrev pub example_uncut : List (List Region)
example_uncut = (reaching 0 29 0 65535 6 6 ∷ []) ∷ []

-- A packet that the gate denies: to destination 5, by protocol 6.
abbrev pub example_denied : Packet
example_denied = 0 ∷ 5 ∷ 0 ∷ 0 ∷ 6 ∷ []

-- The move gives the printed cell list. Where the first allow is then taken out, no piece that was cut for it is kept. And the
-- gate's new list before the cell's old one lets through what the gate denied, so the gate must not be loaded first.
pub record ExampleTheorem : Type 0 where
  pub cell : cell_list (moved example) ≡ example_cell
  pub uncut : (edited (record { in_gate = true; place = 0; kind = delete }) (moved example)).groups ≡ example_uncut
  pub denied : forwards example_denied example.gate example.own ≡ false
  pub gate_first_opens : forwards example_denied (gate_list (moved example)) example.own ≡ true
