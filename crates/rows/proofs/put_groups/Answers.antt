-- `put_groups` meets its contract: the loop's invariant says what is left to store. Assumes nothing.
use native.Mathlib.Omega.{arith}
use mathlib.Core.Path.{refl}
use Prim.Native.Nat.{◌-◌}
use Rattle.lists.specs.Lists.{Each}
use Rattle.policy.specs.Rules.{Proper}
use Rattle.policy.specs.Move.{together}
use Rattle.wire.specs.Records.{each_bytes}
use Rattle.rows.proofs.Turns.{each_group, group_there, group_room, group_turn, groups_none}
use Rattle.rows.proofs.put_groups.Goals as goal

pub put_rows-requires : goal.put_rows-requires
put_rows-requires c =
    let h = group_there c.args.sheet.now _ _ _ c.loop-test.true _ c.count_at-count.ensures.0 c.loop.invariant.0 in
    let r = group_room c.args.sheet.now _ _ _ c.loop-test.true _ c.count_at-count.ensures.0 _ c.loop.invariant.2 in
    let proper = each_group c.args.sheet.now _ _ _ c.loop-test.true _ c.count_at-count.ensures.0 (Each Proper) c.loop.invariant.3 in
    (omega (arith, r), record { apart = omega arith; inside = omega (arith, h); fits = omega arith; are = refl; proper = proper.0 })

pub loop-preserved : goal.loop-preserved
loop-preserved c =
    let r = group_room c.args.sheet.now _ _ _ c.loop-test.true _ c.count_at-count.ensures.0 _ c.loop.invariant.2 in
    let proper = each_group c.args.sheet.now _ _ _ c.loop-test.true _ c.count_at-count.ensures.0 (Each Proper) c.loop.invariant.3 in (
      group_there c.args.sheet.now _ _ _ c.loop-test.true _ c.count_at-count.ensures.0 c.loop.invariant.0,
      omega (arith, c.loop.invariant.1),
      omega (arith, r),
      proper.1,
      group_turn c.loop.table c.loop.p _ c.args.sheet.now _ _ _ c.loop-test.true _ c.count_at-count.ensures.0 _ proper.0 c.loop.invariant.4 c.put_rows.ensures,
    )

pub returns : goal.returns
unfolding each_bytes together
returns c =
    rw (groups_none _ (c.args.n - c.loop.counter) (omega (arith, c.loop-test.false))) at c.loop.invariant.4
