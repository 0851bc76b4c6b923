-- `foldplover_gate_list` meets its contract: it hands over to `gate_list`. Assumes nothing.
use borrow.Author.Rules.{rules}
use native.Mathlib.Omega.{arith}
use Rattle.promises.specs.Calls.{gate_bytes, gate_list_size}
use Rattle.foldplover.proofs.Plain.{call_plain}
use Rattle.foldplover.proofs.foldplover_gate_list.Goals as goal

pub answer_number-requires : goal.answer_number-requires
answer_number-requires c = call_plain gate_bytes gate_list_size _ _ _ _ c.gate_list.ensures (search rules) (omega arith)

pub returns : goal.returns
returns c =
    let k = c.gate_list in
    record { answer = k.result; below = k.ensures; number = c.answer_number.ensures; plain = call_plain gate_bytes gate_list_size _ _ _ _ k.ensures (search rules) (omega arith) }
