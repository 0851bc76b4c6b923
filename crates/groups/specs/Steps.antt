-- The group of a deny rule, worked out in the work buffer (01, Cutting one box from another and number 6), and pieces on the way
-- to it, as they lie there. Assumes nothing.
use Rattle.std.specs.Prelude.{◌≡◌, List, [], ◌∷◌, ◌++◌, true, cond, ℕ, ◌*◌, ◌+◌, ◌<◌, ◌≤◌, length, take, drop, set, ltb, Result, Ok, Err, IfOk}
use Rattle.policy.specs.Fields.{fields, widths, size_of, box_size, record_size, Limits, limits, work_size}
use Rattle.policy.specs.Ranges.{Region}
use Rattle.policy.specs.Values.{range_of, region_of}
use Rattle.policy.specs.declared.Range.{Range as RangeValue}
use Rattle.policy.specs.Steps.{range_at, part_below, part_above}
use Rattle.policy.specs.Cut.{shared, group, cut_each}
use Rattle.policy.specs.Move.{over}
use Rattle.policy.specs.declared.Refusal.{Refusal}
use Rattle.policy.specs.declared.Refusal.TheVariants.{TooManyPieces}
use Rattle.policy.specs.Rules.{sound, allows_in, Proper}
use Rattle.wire.specs.Records.{ranges_bytes, boxes_bytes, rule_in, rules_in, box_bytes, boxes_in}
use Rattle.groups.specs.declared.Underway.{Underway}
use Rattle.std.proofs.lemmas.List.Edits.{sets}
use Rattle.lists.specs.Lists.{Each, every}

-- What the group of the deny rule at place i of these records starts with, and the allows before it.
abbrev pub start_at : (Region → List Region) → ℕ → List ℕ → List Region
start_at start i s = start (rule_in (drop (record_size * i) s)).region

abbrev pub allows_at : ℕ → List ℕ → List Region
allows_at i s = allows_in (rules_in i s)

-- Number 6, or how many boxes the group has.
unfoldable pub worked_of : Limits → List Region → List Region → Result ℕ Refusal
worked_of lim start allows = cond (over lim.pieces start allows) (Err TooManyPieces) (Ok (length (group start allows)))

-- The bytes that the answer speaks of: those of the group's boxes, where it has one.
abbrev pub GroupStands : List Region → List ℕ → Result ℕ Refusal → Type 0
GroupStands g work r = IfOk r (λ n. take (box_size * n) work ≡ boxes_bytes g)

-- What is worked out of a start, whatever it is, and the allows before place i; and of the start of the deny rule there.
pub record WorkedFrom (start : List Region) (rules : List ℕ) (i : ℕ) (work : List ℕ) (r : Result ℕ Refusal) (work' : List ℕ) : Type 0 where
  pub answer : r ≡ worked_of limits start (allows_at i rules)
  pub boxes : GroupStands (group start (allows_at i rules)) work' r
  pub beyond : drop work_size work' ≡ drop work_size work

abbrev pub WorkedOut : (Region → List Region) → List ℕ → ℕ → List ℕ → Result ℕ Refusal → List ℕ → Type 0
WorkedOut start rules i work r work' = WorkedFrom (start_at start i rules) rules i work r work'

-- How many boxes a half of the work buffer has room for, the bytes that they take, and as many pieces as one allow can leave of them.
abbrev pub capacity : ℕ
capacity = limits.pieces

abbrev pub half_size : ℕ
half_size = box_size * capacity

abbrev pub stored_most : ℕ
stored_most = 2 * fields * capacity

-- The rule at place i and those before it are there and sound, and the work buffer has both halves, or a half room for the pieces.
abbrev pub Workable : List ℕ → ℕ → List ℕ → Type 0
Workable rules i work =
    (record_size * (i + 1) ≤ length rules) × (work_size ≤ length work) × (every sound (rules_in (i + 1) rules) ≡ true)

abbrev pub Fillable : List ℕ → ℕ → List ℕ → Type 0
Fillable rules i pieces =
    (record_size * (i + 1) ≤ length rules) × (half_size ≤ length pieces) × (every sound (rules_in (i + 1) rules) ≡ true)

-- A box stored behind m others; past the capacity nothing is written.
unfoldable pub store_one : List ℕ → ℕ → Region → List ℕ
store_one out m b = cond (ltb m capacity) (sets out (box_size * m) (box_bytes b)) out

-- Boxes stored one after another.
unfoldable pub store : List ℕ → ℕ → List Region → List ℕ
store out m [] = out
store out m (b ∷ bs) = store (store_one out m b) (m + 1) bs

-- What storing leaves: the boxes counted on, those past the capacity too.
pub record Stored (out : List ℕ) (m : ℕ) (bs : List Region) (out' : List ℕ) (r : ℕ) : Type 0 where
  pub count : r ≡ m + length bs
  pub bytes : out' ≡ store out m bs

-- The bytes of b's fields from field k on stand where a piece has them.
abbrev pub LaterStand : ℕ → Region → List ℕ → Type 0
LaterStand k b piece = drop (size_of (take k widths)) piece ≡ ranges_bytes (drop k widths) (drop k b)

-- A cut of a piece that has come to field k, where `here` is the rest's range.
pub record CutAt (piece : List ℕ) (k : ℕ) (here : RangeValue) (done : Underway) (out : List ℕ) : Type 0 where
  pub room : half_size ≤ length out
  pub few : done.stored + 1 < stored_most
  pub long : length piece ≡ box_size
  pub inside : k < fields
  pub range : range_of here ≡ range_at (region_of done.rest) k
  pub later : LaterStand (k + 1) (region_of done.rest) piece

-- What the cut of one field leaves: its two parts stored, and the rest with the shared range there.
pub record FieldCut (k : ℕ) (allow : RangeValue) (done : Underway) (out out' : List ℕ) (r : Underway) : Type 0 where
  pub parts : Stored out done.stored (part_below (region_of done.rest) k allow.low ++ part_above (region_of done.rest) k allow.high) out' r.stored
  pub narrowed : region_of r.rest ≡ set (region_of done.rest) k (shared (range_at (region_of done.rest) k) (range_of allow))

-- n pieces stand at the front: each is a box that number 4 lets pass, and its bytes are those of the box.
pub record Stands (n : ℕ) (pieces : List ℕ) : Type 0 where
  pub each : Each Proper (boxes_in n pieces)
  pub written : take (box_size * n) pieces ≡ boxes_bytes (boxes_in n pieces)

-- A start put at the front: its boxes are the n pieces that stand there, no more than a half has room for.
pub record Started (start : List Region) (n : ℕ) (pieces : List ℕ) : Type 0 where
  pub few : n ≤ capacity
  pub stands : Stands n pieces
  pub boxes : boxes_in n pieces ≡ start

-- The first i of n pieces stay as they are when a is taken from all of them.
pub record Untouched (n : ℕ) (pieces : List ℕ) (a : Region) (i : ℕ) : Type 0 where
  pub upto : i ≤ n
  pub left : cut_each (boxes_in n pieces) a ≡ take i (boxes_in n pieces) ++ cut_each (drop i (boxes_in n pieces)) a

-- What taking an allow from all pieces leaves: number 6, or how many there are, which then stand at the front.
pub record Taken (n : ℕ) (a : Region) (pieces out pieces' out' : List ℕ) (r : Result ℕ Refusal) : Type 0 where
  pub answer : r ≡ cond (ltb capacity (length (cut_each (boxes_in n pieces) a))) (Err TooManyPieces) (Ok (length (cut_each (boxes_in n pieces) a)))
  pub boxes : IfOk r (λ m. boxes_in m pieces' ≡ cut_each (boxes_in n pieces) a)
  pub bytes : GroupStands (cut_each (boxes_in n pieces) a) pieces' r
  pub beyond : drop half_size out' ≡ drop half_size out

-- What taking the allows before place i from a start leaves.
pub record AllTaken (start : List Region) (rules : List ℕ) (i : ℕ) (out pieces' out' : List ℕ) (r : Result ℕ Refusal) : Type 0 where
  pub answer : r ≡ worked_of limits start (allows_at i rules)
  pub few : IfOk r (λ n. n ≤ capacity)
  pub boxes : GroupStands (group start (allows_at i rules)) pieces' r
  pub beyond : drop half_size out' ≡ drop half_size out
