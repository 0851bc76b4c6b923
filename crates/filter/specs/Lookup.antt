-- Lookup of a packet in list bytes (01, Calls and Numbers given back). Assumes nothing.
use Rattle.std.specs.Prelude.{◌≡◌, ℕ, suc, ◌+◌, ◌*◌, ◌^◌, ◌<◌, ◌≤◌, cond, List, [], ◌∷◌, length, ◌==◌, nat_le}
use Rattle.policy.specs.Fields.{count_size}
use Rattle.policy.specs.Ranges.{Packet, inside}
use Rattle.policy.specs.Rules.{Rule, sound, Found, found, nothing, first}
use Rattle.policy.specs.Refusals.{refusal_base, Outcome, accepted, refused, test, rules_refusal, Answered, heard}
use Rattle.filter.specs.declared.Decision.{Decision}
use Rattle.wire.specs.Lists.{count_in, list_rules, list_size, list_bytes}

-- The rule that decides: its place, from 0, and its action.
pub record Hit : Type 0 where
  pub place : ℕ
  pub action : ℕ

abbrev pub hit : ℕ → ℕ → Hit
hit n a = record { place = n; action = a }

-- The code's answer: the place and the action of the rule that decides, or the refusal's number.
abbrev pub Verdict : Type 0
Verdict = Answered Decision

abbrev pub verdict : Verdict → Outcome Hit
verdict r = heard (λ d. hit d.place d.action) r

-- One rule after another: 4 if it is bad, whatever the packet is; where it fits, it decides; 5 behind the last.
unfoldable pub look_from : ℕ → Packet → List Rule → Outcome Hit
look_from n p [] = refused 5
look_from n p (r ∷ l) =
    test (sound r) 4 (cond (inside p r.region) (accepted (hit n r.action)) (look_from (suc n) p l))

-- The count is there (3) and within its limits (2), the length is exactly that of so many records (3); then the rules.
unfoldable pub lookup : ℕ → Packet → List ℕ → Outcome Hit
lookup most p s =
    test (nat_le count_size (length s)) 3
    (test (nat_le 1 (count_in s)) 2
    (test (nat_le (count_in s) most) 2
    (test (length s == list_size (count_in s)) 3
    (look_from 0 p (list_rules s)))))

-- For C one number: twice the place and the action, or 65,536 and the refusal.
unfoldable pub lookup_number : Outcome Hit → ℕ
lookup_number (accepted h) = 2 * h.place + h.action
lookup_number (refused n) = refusal_base + n

-- What first match comes to in a lookup: the rule that decides, or 5 where none fits.
abbrev pub decided_by : Found → Outcome Hit
decided_by (found place action) = accepted (hit place action)
decided_by nothing = refused 5

-- In the bytes of a list without a bad rule, a lookup answers by first match.
abbrev pub LookupTheorem : Type 0
LookupTheorem =
    (most : ℕ) (p : Packet) (l : List Rule) → rules_refusal l ≡ 0 → 1 ≤ length l → length l ≤ most → most < 256 ^ count_size
    → lookup most p (list_bytes l) ≡ decided_by (first p l)
