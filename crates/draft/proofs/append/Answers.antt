-- `append` meets its contract. Assumes nothing.
use native.Mathlib.Omega.{arith}
use mathlib.Core.Path.{refl}
use Rattle.draft.proofs.Turns.{appended_in}
use Rattle.draft.proofs.append.Goals as goal

pub returns : goal.returns
returns c =
    let a = c.args in
    appended_in a.draft.now a.at a.boxes a.n a.content.now c.put_group.new.out _ c.requires.1 (c.requires.2 (omega arith)) c.put_group.ensures refl
