-- What the code's readers answer, as the definitions have it, and where the parts lie in the bytes (01, Sheets).
-- Assumes nothing.
use Rattle.std.specs.Prelude.{◌≡◌, List, [], ◌∷◌, ℕ, zero, suc, ◌+◌, ◌*◌, ◌≤◌, length, drop}
use Rattle.policy.specs.Fields.{box_size, count_size, Limits, limits}
use Rattle.policy.specs.Ranges.{Region}
use Rattle.policy.specs.Rules.{Rule, denies}
use Rattle.policy.specs.Refusals.{Answered, Gives}
use Rattle.policy.specs.Move.{Order, Pair, together}
use Rattle.wire.specs.Records.{rules_in}
use Rattle.sheet.specs.Sections.{Reading, reading, section}
use Rattle.sheet.specs.Orders.{order, lists_in, order_in, list_in}
use Rattle.sheet.specs.Pairs.{group_size, group_boxes, groups_in, pair_in}
use Rattle.sheet.specs.declared.Section.{Section}
use Rattle.sheet.specs.declared.Groups.{Groups}
use Rattle.sheet.specs.declared.OrderLayout.{OrderLayout}
use Rattle.sheet.specs.declared.PairLayout.{PairLayout}
use Rattle.wire.specs.Lists.{count_in, list_size}

-- The rules of the section that the bytes begin with.
abbrev pub rules_of : ℕ → List ℕ → List Rule
rules_of n s = rules_in n (drop count_size s)

-- A section: its rules, and the bytes behind it.
abbrev pub section_at : List ℕ → Section → Reading (List Rule)
section_at s l = reading (rules_of l.count s) (drop l.next s)

pub record SectionLaid (most : ℕ) (s : List ℕ) (l : Section) : Type 0 where
  pub end : l.next ≡ list_size l.count
  pub inside : l.next ≤ length s
  pub limit : l.count ≤ most

abbrev pub SectionRead : ℕ → List ℕ → Answered Section → Type 0
SectionRead most s r = Gives (section_at s) (section most s) (SectionLaid most s) r

-- A list by itself: a section that ends where the bytes end.
abbrev pub list_at : List ℕ → Section → List Rule
list_at s l = rules_of l.count s

pub record ListLaid (most : ℕ) (s : List ℕ) (l : Section) : Type 0 where
  pub section : SectionLaid most s l
  pub whole : l.next ≡ length s

abbrev pub ListRead : ℕ → List ℕ → Answered Section → Type 0
ListRead most s r = Gives (list_at s) (list_in most s) (ListLaid most s) r

-- Sections A and B.
abbrev pub order_at : OrderLayout → List ℕ → Order
order_at l s = order (rules_of l.gate s) (rules_of l.own (drop l.middle s))

abbrev pub lists_at : List ℕ → OrderLayout → Reading Order
lists_at s l = reading (order_at l s) (drop l.end s)

pub record ListsLaid (s : List ℕ) (l : OrderLayout) : Type 0 where
  pub gate_end : l.middle ≡ list_size l.gate
  pub own_end : l.end ≡ l.middle + list_size l.own
  pub inside : l.end ≤ length s
  pub gate_limit : l.gate ≤ limits.gate
  pub own_limit : l.own ≤ limits.own

abbrev pub ListsRead : List ℕ → Answered OrderLayout → Type 0
ListsRead s r = Gives (lists_at s) (lists_in limits s) (ListsLaid s) r

-- An order sheet: it ends where B ends.
pub record OrderLaid (s : List ℕ) (l : OrderLayout) : Type 0 where
  pub lists : ListsLaid s l
  pub whole : l.end ≡ length s

abbrev pub OrderRead : List ℕ → Answered OrderLayout → Type 0
OrderRead s r = Gives (λ l. order_at l s) (order_in limits s) (OrderLaid s) r

-- The limits with another total.
abbrev pub with_total : ℕ → Limits
with_total most = record { gate = limits.gate; own = limits.own; pieces = limits.pieces; total = most }

-- So many groups as the bytes have them one after another, with nothing tested.
unfoldable pub groups_from : ℕ → List ℕ → List (List Region)
groups_from zero s = []
groups_from (suc n) s = group_boxes s ∷ groups_from n (drop (group_size (count_in s)) s)

-- How many boxes they have together.
abbrev pub box_count : ℕ → List ℕ → ℕ
box_count n s = length (together (groups_from n s))

-- Groups, and the bytes behind them.
abbrev pub groups_read : ℕ → List ℕ → Groups → Reading (List (List Region))
groups_read n s l = reading (groups_from n s) (drop l.next s)

pub record GroupsLaid (most n total : ℕ) (s : List ℕ) (l : Groups) : Type 0 where
  pub boxes : l.count ≡ box_count n s
  pub end : l.next ≡ count_size * n + box_size * l.count
  pub inside : l.next ≤ length s
  pub limit : total + l.count ≤ most

abbrev pub GroupsRead : ℕ → ℕ → ℕ → List ℕ → Answered Groups → Type 0
GroupsRead most n total s r = Gives (groups_read n s) (groups_in (with_total most) n total s) (GroupsLaid most n total s) r

-- A pair sheet: its order sheet, and behind their count the groups, with nothing left.
abbrev pub pair_at : PairLayout → List ℕ → Pair
pair_at l s = record { order = order_at l.order s; groups = groups_from l.groups (drop l.from s) }

pub record PairLaid (s : List ℕ) (l : PairLayout) : Type 0 where
  pub lists : ListsLaid s l.order
  pub begin : l.from ≡ l.order.end + count_size
  pub groups_are : l.groups ≡ denies (rules_of l.order.gate s)
  pub boxes_are : l.boxes ≡ box_count l.groups (drop l.from s)
  pub groups_end : l.end ≡ l.from + (count_size * l.groups + box_size * l.boxes)
  pub whole : l.end ≡ length s
  pub total_limit : l.boxes + l.order.own ≤ limits.total

abbrev pub PairRead : List ℕ → Answered PairLayout → Type 0
PairRead s r = Gives (λ l. pair_at l s) (pair_in limits s) (PairLaid s) r
