-- `change_list` meets its contract, answer by answer. Assumes nothing.
use borrow.Author.Rules.{rules}
use native.Mathlib.Omega.{arith}
use Rattle.edit_list.proofs.Changes.{changed_no_place, changed_short, changed_done}
use Rattle.edit_list.proofs.change_list.Goals as goal

pub returns-then-left-place : goal.returns-then-left-place
returns-then-left-place c = changed_no_place _ _ _ _ _ _ c.taken_and_put-taken.ensures c.requires.0 (omega arith)

pub returns-then-not-is_whole : goal.returns-then-not-is_whole
returns-then-not-is_whole c = search (rules, changed_short)

pub returns : goal.returns
returns c = search (rules, changed_done)
