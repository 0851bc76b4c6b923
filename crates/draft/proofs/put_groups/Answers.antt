-- `put_groups` meets its contract: the groups up to a byte of the draft stand in the sheet. Assumes nothing.
use borrow.Author.Rules.{rules}
use native.Mathlib.Omega.{arith}
use mathlib.Core.Path.{refl}
use Prim.Native.Nat.{◌+◌, ◌-◌}
use lib.ListN.{drop, length-take, length-drop}
use Rattle.policy.specs.Fields.{count_size}
use Rattle.wire.proofs.Numbers.{bytes_all}
use Rattle.draft.proofs.Sheets.{groups_next, groups_all, laid_count, laid_next, laid_none}
use Rattle.draft.proofs.put_groups.Goals as goal

pub count_at-n-requires : goal.count_at-n-requires
count_at-n-requires c =
    let h = c.loop in
    laid_count c.args.draft.now (omega arith) h.invariant.2 h.invariant.0

pub slice_bounds-put_group-end-in-loop : goal.slice_bounds-put_group-end-in-loop
slice_bounds-put_group-end-in-loop c =
    let h = c.loop in
    let n = c.count_at-n in
    let z = laid_next c.args.draft.now (omega arith) h.invariant.2 h.invariant.0 n.ensures.0 in
    omega arith

pub put_group-requires : goal.put_group-requires
put_group-requires c =
    let h = c.loop in
    let n = c.count_at-n in
    let z = laid_next c.args.draft.now (omega arith) h.invariant.2 h.invariant.0 n.ensures.0 in
    (search rules, simp (length-take, length-drop) (omega arith), simp (length-take, length-drop) (omega arith))

pub loop-preserved : goal.loop-preserved
loop-preserved c =
    let h = c.loop in
    let n = c.count_at-n in
    let z = laid_next c.args.draft.now (omega arith) h.invariant.2 h.invariant.0 n.ensures.0 in
    let a = c.args in
    let all = bytes_all a.draft.now (λ i. omega (arith, c.type_inv.draft i)) in (
      omega arith,
      groups_next a.sheet.now a.draft.now h.sheet a.at h.from h.invariant.1 c.requires.1 c.put_group.new.out _ (h.from + count_size) _ n.result (a.at + h.from) all n.ensures.0 refl refl (omega arith) refl c.put_group.ensures refl,
      z.1,
    )

pub returns : goal.returns
returns c =
    let h = c.loop in
    let a = c.args in
    groups_all a.sheet.now a.draft.now h.sheet a.at h.from h.invariant.1 c.requires.1 (laid_none (a.groups - h.counter) (drop h.from a.draft.now) (omega arith) h.invariant.2)
