-- A draft of section C's groups, made before the sheet is touched (01, Calls). Assumes nothing.
use Rattle.std.specs.Prelude.{◌≡◌, List, ◌++◌, true, false, ℕ, ◌+◌, ◌*◌, ◌≤◌, zero, suc, length, take, drop, Result, Ok, Err, IfOk}
use Rattle.std.proofs.lemmas.List.Edits.{sets}
use Rattle.lists.specs.Lists.{every}
use Rattle.policy.specs.Fields.{box_size, count_size, record_size, Limits, limits, work_size}
use Rattle.policy.specs.Ranges.{Region}
use Rattle.policy.specs.declared.Refusal.{Refusal}
use Rattle.policy.specs.declared.Refusal.TheVariants.{TooManyPieces}
use Rattle.policy.specs.Move.{Slot, slots, groups_of, together, any_over}
use Rattle.policy.specs.Rules.{sound, allows_in}
use Rattle.wire.specs.Numbers.{number_bytes}
use Rattle.wire.specs.Records.{rules_in}
use Rattle.sheet.specs.Pairs.{group_size, groups_bytes}
use Rattle.sheet.specs.Steps.{rules_of}
use Rattle.draft.specs.declared.Drafted.{Drafted}
use Rattle.wire.specs.Lists.{count_in, list_size}

-- The bytes that a draft takes at most: a count for each gate rule, and boxes up to the total.
abbrev pub draft_size : ℕ
draft_size = count_size * limits.gate + box_size * limits.total

-- The slots of the deny rules from one place up to another of these records, all worked out anew from where they start.
abbrev pub stretch : (Region → List Region) → ℕ → ℕ → List ℕ → List Slot
stretch start from to rules = slots start (allows_in (rules_in from rules)) (drop from (rules_in to rules))

-- A group's bytes behind what the draft holds, where all boxes with these are within the total.
pub record Appended (draft : List ℕ) (at boxes n : ℕ) (content : List ℕ) (r : ℕ) (draft' : List ℕ) : Type 0 where
  pub put : boxes ≤ limits.total → (r ≡ at + group_size n) × (draft' ≡ sets draft at (number_bytes count_size n ++ content))
  pub short : r ≤ at + group_size n

-- What working out slots behind groups of so many boxes answers: number 6 if one is over; else how many boxes there then are and,
-- while they are within the total, what is said of where their bytes end.
unfoldable pub Told : Limits → List Slot → ℕ → (ℕ → Type 0) → Result Drafted Refusal → Type 0
Told lim l boxes bytes (Err f) = (f ≡ TooManyPieces) × (any_over lim.pieces l ≡ true)
Told lim l boxes bytes (Ok d) =
    (any_over lim.pieces l ≡ false) × (d.boxes ≡ boxes + length (together (groups_of l))) × (d.boxes ≤ lim.total → bytes d.end)

-- How many slots there are.
abbrev pub Counted : List Slot → Result Drafted Refusal → Type 0
Counted l r = IfOk r (λ d. d.groups ≡ length l)

-- Content put into a draft from `at` up to n; and content that begins the bytes, n bytes long.
abbrev pub PutAt : List ℕ → ℕ → List ℕ → List ℕ → ℕ → Type 0
PutAt draft at content draft' n = (n ≡ at + length content) × (draft' ≡ sets draft at content)

abbrev pub Begins : List ℕ → List ℕ → ℕ → Type 0
Begins s content n = (n ≤ length s) × (take n s ≡ content)

-- What drafting these slots behind `at` bytes and `boxes` boxes answers and leaves.
pub record Drafting (lim : Limits) (l : List Slot) (draft : List ℕ) (at boxes : ℕ) (r : Result Drafted Refusal) (draft' : List ℕ) : Type 0 where
  pub told : Told lim l boxes (PutAt draft at (groups_bytes (groups_of l)) draft') r
  pub count : Counted l r

-- Where a draft may end, and how many boxes it may have, after so many rules.
pub record Bounded (rules boxes at : ℕ) : Type 0 where
  pub short : at ≤ count_size * rules + box_size * boxes
  pub few : boxes ≤ limits.pieces * (rules + 1)

abbrev pub Ends : ℕ → Result Drafted Refusal → Type 0
Ends rules r = IfOk r (λ d. Bounded rules d.boxes d.end)

-- What drafting the rules from one place up to another asks for: sound records of gate rules, and room.
pub record Ready (rules : List ℕ) (from to : ℕ) (draft : List ℕ) (at boxes : ℕ) (work : List ℕ) : Type 0 where
  pub records : record_size * to ≤ length rules
  pub rules_sound : every sound (rules_in to rules) ≡ true
  pub up_to : from ≤ to
  pub gate : to ≤ limits.gate
  pub room : draft_size ≤ length draft
  pub start : Bounded from boxes at
  pub work_room : work_size ≤ length work

-- What it answers and leaves: the draft, and nothing changed behind the work buffer's front.
pub record DraftedGroups (start : Region → List Region) (rules : List ℕ) (from to : ℕ) (draft : List ℕ) (at boxes : ℕ) (work : List ℕ) (r : Result Drafted Refusal) (draft' work' : List ℕ) : Type 0 where
  pub drafting : Drafting limits (stretch start from to rules) draft at boxes r draft'
  pub ends : Ends to r
  pub beyond : drop work_size work' ≡ drop work_size work

-- The same for all rules of the list that begins the bytes.
pub record AllReady (s : List ℕ) (gate : ℕ) (draft work : List ℕ) : Type 0 where
  pub records : list_size gate ≤ length s
  pub rules_sound : every sound (rules_of gate s) ≡ true
  pub few : gate ≤ limits.gate
  pub room : draft_size ≤ length draft
  pub work_room : work_size ≤ length work

-- So many groups lie one behind another in these bytes, and nothing else does.
unfoldable pub Laid : ℕ → List ℕ → Type 0
Laid zero s = length s ≡ 0
Laid (suc n) s = (count_size ≤ length s) × (group_size (count_in s) ≤ length s) × Laid n (drop (group_size (count_in s)) s)

-- The order's bytes, the count of groups, and the groups.
abbrev pub sheet_of : List ℕ → ℕ → List ℕ → List ℕ
sheet_of order groups draft = order ++ (number_bytes count_size groups ++ draft)
