-- `put_fronts` meets its contract: the loop's invariant says which fronts are stored, and where the next group begins. Assumes nothing.
use borrow.Author.Rules.{rules}
use native.Mathlib.Omega.{arith}
use mathlib.Core.Path.{◌≡◌, refl, sym, ◌∙◌}
use mathlib.Core.List.{List}
use mathlib.Core.Bool.{Bool, true, false}
use Prim.Native.Nat.{ℕ, ◌+◌, ◌*◌, ◌<◌, ◌≤◌}
use lib.ListN.{length, get_or, set, drop, length-set}
use Rattle.policy.specs.Fields.{box_size, count_size, limits}
use Rattle.policy.specs.Rules.{Rule, is_allow}
use Rattle.wire.specs.Lists.{count_in}
use Rattle.sheet.specs.Steps.{pair_at}
use Rattle.sheet.specs.declared.PairLayout.{PairLayout}
use Rattle.origins.specs.Steps.{Checked, place_in, front_of}
use Rattle.origins.proofs.Tracing.{gate_length}
use Rattle.rows.specs.Steps.{table_size, fronts_at}
use Rattle.rows.proofs.Fronts.{Reached, reached_first, reached_few, reached_allow, reached_deny, group_begins, group_inside, below_set}
use Rattle.rows.proofs.put_fronts.Goals as goal
use Rattle.rows.proofs.put_fronts.Goals.{else-not-is_allow, then-not-is_allow}

-- What is known at the head of the loop.
module _ {sheet : List ℕ} {layout : PairLayout} (checked : Checked sheet layout) (k : ℕ) where
  room : {most long : ℕ} → table_size ≤ most → long ≡ most → k ≤ layout.order.gate → fronts_at + k < long
  room enough same within = omega (arith, checked.laid.lists.gate_limit)

  module _ {boxes start : ℕ} (reached : Reached sheet layout k boxes start) where
    few : boxes ≤ limits.total
    few = omega (arith, reached_few checked k boxes start reached, checked.laid.total_limit)

    stored : (table : List ℕ) → fronts_at + k < length table → ((j : ℕ) → j < k → get_or table (fronts_at + j) 0 ≡ front_of (pair_at layout sheet) j)
        → (j : ℕ) → j < k + 1 → get_or (set table (fronts_at + k) boxes) (fronts_at + j) 0 ≡ front_of (pair_at layout sheet) j
    stored table there below = below_set (front_of (pair_at layout sheet)) fronts_at table k boxes reached.0 there below

    -- A rule is read: whether it denies.
    module _ (here : k < layout.order.gate) {r : Rule} (read : r ≡ place_in (pair_at layout sheet).order.gate k) {t : Bool} (is : t ≡ is_allow r) where
      allowed : t ≡ true → Reached sheet layout (k + 1) boxes start
      allowed e = reached_allow checked k boxes start reached here read (sym is ∙ e)

      module _ (e : t ≡ false) where
        denies : is_allow r ≡ false
        denies = sym is ∙ e

        begins : start + count_size ≤ length sheet
        begins = group_begins checked k boxes start reached here read denies

        module _ {count : ℕ} (told : count ≡ count_in (drop start sheet)) where
          ends : start + count_size + box_size * count ≤ length sheet
          ends = group_inside checked k boxes start reached here read denies count told

          denied : Reached sheet layout (k + 1) (boxes + count) (start + count_size + box_size * count)
          denied = reached_deny checked k boxes start reached here read denies count told

pub loop-k-init : goal.loop-k-init
loop-k-init c = (refl, reached_first c.args.sheet.checked, λ j h. absurd (omega arith))

pub overflow_cast-table : goal.overflow_cast-table
overflow_cast-table c = let h = few c.args.sheet.checked _ c.loop-k.invariant.1 in omega arith

pub count_at-count-requires : goal.count_at-count-requires
count_at-count-requires c =
    begins c.args.sheet.checked _ c.loop-k.invariant.1 c.loop-k-test.true c.gate_rule.ensures c.is_allow.ensures c.if-not-is_allow.true

pub overflow_add-start : goal.overflow_add-start
overflow_add-start c =
    let h = ends c.args.sheet.checked _ c.loop-k.invariant.1 c.loop-k-test.true c.gate_rule.ensures c.is_allow.ensures c.if-not-is_allow.true c.count_at-count.ensures.0 in
    search rules

pub overflow_add-start-then-not-is_allow : goal.overflow_add-start-then-not-is_allow
overflow_add-start-then-not-is_allow c =
    let h = ends c.args.sheet.checked _ c.loop-k.invariant.1 c.loop-k-test.true c.gate_rule.ensures c.is_allow.ensures c.if-not-is_allow.true c.count_at-count.ensures.0 in
    search rules

pub loop-k-preserved : goal.loop-k-preserved
loop-k-preserved c =
    let checked = c.args.sheet.checked in
    let l : length (set c.loop-k.table (fronts_at + c.loop-k.k) c.loop-k.boxes) ≡ length c.args.table.now = simp length-set (omega (arith, c.loop-k.invariant.0)) in
    let s = stored checked _ c.loop-k.invariant.1 c.loop-k.table (room checked _ c.requires c.loop-k.invariant.0 (omega arith)) c.loop-k.invariant.2 in
    elim c.if-not-is_allow.branch [
      | then-not-is_allow w ↦ (
        l,
        rw (w.boxes-is, w.start-is) (denied checked _ c.loop-k.invariant.1 c.loop-k-test.true c.gate_rule.ensures c.is_allow.ensures w.if-not-is_allow.true w.count_at-count.ensures.0),
        s,
      )
      | else-not-is_allow w ↦ (
        l,
        rw (w.boxes-is, w.start-is) (allowed checked _ c.loop-k.invariant.1 c.loop-k-test.true c.gate_rule.ensures c.is_allow.ensures w.if-not-is_allow.false),
        s,
      )
    ]

pub overflow_cast-table-2 : goal.overflow_cast-table-2
overflow_cast-table-2 c = let h = few c.args.sheet.checked _ c.loop-k.invariant.1 in omega arith

pub returns : goal.returns
returns c =
    let checked = c.args.sheet.checked in
    let e : c.loop-k.k ≡ c.args.sheet.layout.order.gate = omega (arith, c.loop-k.auto.k-end) in
    let s = stored checked _ c.loop-k.invariant.1 c.loop-k.table (room checked _ c.requires c.loop-k.invariant.0 (omega arith)) c.loop-k.invariant.2 in
    λ j h. rw e at (s j (omega (arith, gate_length checked)))
