-- One turn of a loop over rows and over groups. Assumes nothing.
use mathlib.Core.Path.{◌≡◌, refl, ap, subst, ◌∙◌}
use mathlib.Core.List.{List, [], ◌∷◌, ◌++◌}
use Prim.Native.Nat.{ℕ, zero, suc, ◌+◌, ◌*◌, ◌-◌, ◌<◌, ◌≤◌}
use native.Mathlib.Omega.{arith}
use lib.ListN.{length, drop}
use lib.Seq.{sets, drop-drop}
use Rattle.lists.specs.Lists.{Each}
use Rattle.lists.proofs.Lists.{sets-append}
use Rattle.policy.specs.Fields.{box_size, count_size}
use Rattle.policy.specs.Ranges.{Region}
use Rattle.policy.specs.Rules.{Proper}
use Rattle.policy.specs.Move.{together}
use Rattle.wire.specs.Lists.{count_in}
use Rattle.wire.specs.Records.{box_in, each_in, each_bytes}
use Rattle.wire.proofs.Items.{bytes-append}
use Rattle.wire.proofs.Records.{boxes_in-length}
use Rattle.sheet.specs.Pairs.{group_size}
use Rattle.sheet.specs.Steps.{groups_from, box_count}
use Rattle.kept.specs.Steps.{run_size}
use Rattle.kept.proofs.Runs.{boxes_turn}
use Rattle.origins.proofs.Searches.{left_in, later, left_turn}
use Rattle.rows.specs.Steps.{row_size, row_numbers, rows_numbers}
use Rattle.rows.proofs.Rows.{row_length, rows-length}

-- Groups in bytes, some of them passed: the boxes of the next, and the later ones.
module _ (s : List ℕ) (start n passed : ℕ) (some : passed < n) (count : ℕ) (told : count ≡ count_in (drop start s)) where
  abbrev next : ℕ
  next = start + count_size + box_size * count

  abbrev group : List Region
  group = each_in box_size box_in count (drop (start + count_size) s)

  abbrev later_groups : List (List Region)
  later_groups = groups_from (n - (passed + 1)) (drop next s)

  groups_turn : groups_from (n - passed) (drop start s) ≡ group ∷ later_groups
  unfolding groups_from
  groups_turn =
      let e : n - passed ≡ suc (n - (passed + 1)) = omega arith in
      let z : start + group_size count ≡ next = omega arith in
      ap (λ (k : ℕ). groups_from k (drop start s)) e
      ∙ rw (← told, drop-drop count_size start s, drop-drop (group_size count) start s, z)

  pub each_group : (P : List Region → Type 0) → Each P (groups_from (n - passed) (drop start s)) → P group × Each P later_groups
  unfolding Each
  each_group P h = subst (Each P) groups_turn h

  counts : box_count (n - passed) (drop start s) ≡ count + box_count (n - (passed + 1)) (drop next s)
  counts =
      let z : start + (count_size + box_size * count) ≡ next = omega arith in
      boxes_turn (n - passed) (n - (passed + 1)) s start count (omega arith) told ∙ ap (λ (at : ℕ). count + box_count (n - (passed + 1)) (drop at s)) z

  pub group_there : start + run_size (n - passed) (drop start s) ≤ length s → next + run_size (n - (passed + 1)) (drop next s) ≤ length s
  group_there h = omega (arith, counts)

  pub group_room : (p : ℕ) {long : ℕ} → p + row_size * box_count (n - passed) (drop start s) ≤ long → p + row_size * count + row_size * box_count (n - (passed + 1)) (drop next s) ≤ long
  group_room p h = omega (arith, counts)

-- What is left to store once the first part is stored: the row of a box, the rows of a group.
stored : (out : List ℕ) (p : ℕ) (u v whole : List ℕ) (n : ℕ) (put : List ℕ) → length u ≡ n → put ≡ sets out p u → sets out p (u ++ v) ≡ whole → sets put (p + n) v ≡ whole
stored out p u v whole n put l e inv = rw e (rw (sets-append out p u v, l) at inv)

pub row_turn : (out : List ℕ) (p : ℕ) (whole s : List ℕ) (step start count passed : ℕ) (some : passed < count) (put : List ℕ) → Proper (box_in (drop start s))
    → sets out p (rows_numbers (left_in step box_in s start count passed)) ≡ whole → put ≡ sets out p (row_numbers (box_in (drop start s)))
    → sets put (p + row_size) (rows_numbers (later step box_in s start count passed some)) ≡ whole
unfolding each_bytes
row_turn out p whole s step start count passed some put h inv e =
    stored out p (row_numbers (box_in (drop start s))) (rows_numbers (later step box_in s start count passed some)) whole row_size put (row_length (box_in (drop start s)) h) e
    (rw (left_turn step box_in s start count passed some) at inv)

pub group_turn : (out : List ℕ) (p : ℕ) (whole s : List ℕ) (start n passed : ℕ) (some : passed < n) (count : ℕ) (told : count ≡ count_in (drop start s)) (put : List ℕ)
    → Each Proper (group s start n passed some count told) → sets out p (rows_numbers (together (groups_from (n - passed) (drop start s)))) ≡ whole
    → put ≡ sets out p (rows_numbers (group s start n passed some count told))
    → sets put (p + row_size * count) (rows_numbers (together (later_groups s start n passed some count told))) ≡ whole
unfolding together
group_turn out p whole s start n passed some count told put h inv e =
    let g : List Region = group s start n passed some count told in
    let r : List Region = together (later_groups s start n passed some count told) in
    let l : length (rows_numbers g) ≡ row_size * count = rows-length g h ∙ ap (λ (k : ℕ). row_size * k) (boxes_in-length count (drop (start + count_size) s)) in
    stored out p (rows_numbers g) (rows_numbers r) whole (row_size * count) put l e
    (rw (groups_turn s start n passed some count told, bytes-append row_numbers g r) at inv)

-- None is left.
pub groups_none : (s : List ℕ) (left : ℕ) → left ≤ 0 → groups_from left s ≡ []
unfolding groups_from
groups_none s zero h = refl
groups_none s (suc left) h = absurd (omega arith)
