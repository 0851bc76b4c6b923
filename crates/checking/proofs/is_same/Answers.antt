-- `is_same` meets its contract: where there are as many boxes, the bytes decide. Assumes nothing.
use mathlib.Core.Path.{sym, ◌∙◌}
use mathlib.Core.Bool.{false≢true}
use Rattle.std.proofs.lemmas.Slice.Eq.{slice_eq-Decides}
use Rattle.std.proofs.lemmas.Bool.Decides.{Decides-eqb}
use Rattle.lists.proofs.Parts.{tail_whole}
use Rattle.checking.proofs.is_same.Goals as goal

pub returns-then-drafted-layout : goal.returns-then-drafted-layout
returns-then-drafted-layout c =
    let part = tail_whole c.args.sheet.now c.args.layout.from c.requires.0 in
    let same = slice_eq-Decides Decides-eqb _ _ _ c.eq.ensures in
    record {
      yes = λ f. (c.if-drafted-layout.true, same.0 f ∙ part);
      no = λ f h e. false≢true (sym f ∙ same.1 (e ∙ sym part));
    }
