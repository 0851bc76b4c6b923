-- `answer_number` meets its contract, case by case. Assumes nothing.
use mathlib.Core.Path.{◌∙◌}
use native.Mathlib.Omega.{arith}
use Rattle.foldplover.proofs.Codes.{length_small, refused_number}
use Rattle.foldplover.proofs.answer_number.Goals as goal

pub overflow_cast-result : goal.overflow_cast-result
overflow_cast-result c = let h = length_small c.args.a c.requires _ c.in-Ok.is in omega arith

pub returns-in-Err : goal.returns-in-Err
returns-in-Err c = c.refused_number.ensures ∙ refused_number c.args.a _ c.in-Err.is
