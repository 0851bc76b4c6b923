-- `revise` meets its contract. Assumes nothing.
use Rattle.std.specs.Prelude.{Ok}
use native.Mathlib.Omega.{arith}
use mathlib.Core.Path.{◌≡◌, refl, sym, subst, ◌∙◌}
use mathlib.Core.List.{List}
use Prim.Native.Nat.{ℕ, ◌≤◌}
use mir.Val.{Fits}
use mir.Syntax.{w8}
use lib.ListN.{length, take, get_or}
use lib.Seq.{length-take-le}
use Rattle.std.proofs.lemmas.Result.{err_from_is_err_and}
use Rattle.policy.specs.Fields.{work_size}
use Rattle.policy.proofs.Answers.{given_refusal}
use Rattle.sheet.specs.Pairs.{pair_bytes, pair_size}
use Rattle.sheet.specs.Steps.{PairRead}
use Rattle.sheet.specs.declared.PairLayout.{PairLayout}
use Rattle.promises.specs.Edits.{asked}
use Rattle.promises.proofs.Calls.{refuses}
use Rattle.editing.specs.Steps.{Revising, Revised}
use Rattle.editing.proofs.Revised.{pair_refuses, no_list}
use Rattle.editing.proofs.Made.{pair_there}
use Rattle.editing.proofs.revise.Goals as goal

-- The sheet, once it is read well: it ends where it is said to end, and an edit of either list may begin.
module _ (sheet : List ℕ) {used : ℕ} {old : PairLayout} (x : PairRead (take used sheet) (Ok old)) (inside : used ≤ length sheet) (bytes : (i : ℕ) → Fits w8 (get_or sheet i 0)) where
  ends : old.end ≡ used
  ends = (pair_there sheet used x bytes).laid.whole ∙ length-take-le used sheet inside

  begins : {work : List ℕ} → pair_size ≤ length sheet → work_size ≤ length work → Revising sheet old work
  begins roomy long = record {
    reads = subst (λ (i : ℕ). PairRead (take i sheet) (Ok old)) (sym ends) x;
    inside = omega (arith, ends, inside);
    sheet_room = roomy;
    work_room = long;
  }

pub returns-in_err-old : goal.returns-in_err-old
returns-in_err-old c =
    let a = c.args in
    let refused = err_from_is_err_and c.from_residual.result c.from_residual.ensures.1 in
    rw (refused.1, refused.2) (refuses pair_bytes pair_size _ a.sheet.now a.work.now a.work.now _ (pair_refuses _ _ _ (given_refusal c.in_err-old.ensures _ refl)) refl)

pub revise_gate-requires : goal.revise_gate-requires
revise_gate-requires c = (begins _ c.in_ok-old.ensures c.requires.1 (assumption) c.requires.0 c.requires.2, c.in-0.is)

pub returns-in-0 : goal.returns-in-0
returns-in-0 c =
    subst (λ (i : ℕ). Revised c.args.sheet.now i (asked c.args.request c.args.new.now) c.args.work.now c.revise_gate.result c.revise_gate.new.sheet c.revise_gate.new.work)
    (ends _ c.in_ok-old.ensures c.requires.1 (assumption)) c.revise_gate.ensures

pub revise_own-requires : goal.revise_own-requires
revise_own-requires c = (begins _ c.in_ok-old.ensures c.requires.1 (assumption) c.requires.0 c.requires.2, c.in-1.is)

pub returns-in-1 : goal.returns-in-1
returns-in-1 c =
    subst (λ (i : ℕ). Revised c.args.sheet.now i (asked c.args.request c.args.new.now) c.args.work.now c.revise_own.result c.revise_own.new.sheet c.revise_own.new.work)
    (ends _ c.in_ok-old.ensures c.requires.1 (assumption)) c.revise_own.ensures

pub returns-in_default : goal.returns-in_default
returns-in_default c =
    let a = c.args in
    refuses pair_bytes pair_size _ a.sheet.now a.work.now a.work.now _ (no_list (pair_there _ _ c.in_ok-old.ensures (assumption)) (asked a.request a.new.now) (omega arith)) refl
