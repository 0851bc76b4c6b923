-- Computed: the sizes; that the printed example is accepted; and of three edit calls, the second refused, that the lists have the
-- first and the third edit done on them. Assumes nothing.
use Rattle.std.specs.Prelude.{Ok, Err}
use mathlib.Core.Path.{◌≡◌, refl}
use mathlib.Core.List.{List, [], ◌∷◌}
use Prim.Native.Nat.{ℕ}
use Rattle.lists.specs.Lists.{every_both}
use Rattle.policy.specs.Fields.{highest, limits}
use Rattle.policy.specs.Ranges.{full_over}
use Rattle.policy.specs.Rules.{rule, sound, complete}
use Rattle.policy.specs.Cut.{pieces, cut, cut_each, group}
use Rattle.policy.specs.Refusals.{Answer, accepted, rules_refusal}
use Rattle.policy.specs.Move.{slots, boxes_of, together, over, over_slot, any_over, work, room, Order, moved}
use Rattle.policy.specs.Example.{example}
use Rattle.policy.proofs.Refused.{list_refusal, move_refusal}
use Rattle.sheet.specs.Orders.{order_bytes}
use Rattle.policy.specs.Edit.{all_done}
use Rattle.policy.specs.declared.Refusal.TheVariants.{NotComplete}
use Rattle.promises.specs.declared.Change.TheVariants.{Delete}
use Rattle.promises.specs.Calls.{move_of, SizesTheorem}
use Rattle.promises.specs.Edits.{request, asked}
use Rattle.promises.proofs.Demands.{limits_small, move_again}
use Rattle.promises.specs.Theorems.{EditCall, accepted_edits}

-- an own rule taken out
abbrev taken : ℕ → Answer → EditCall
taken i r = record { asked = asked (request 1 i Delete) []; used = 0; work = []; answer = r }

abbrev calls : List EditCall
calls = taken 0 (Ok 0) ∷ taken 1 (Err NotComplete) ∷ taken 0 (Ok 0) ∷ []

abbrev lists : Order
lists = record { gate = []; own = rule [] 0 ∷ rule [] 1 ∷ rule [] 2 ∷ rule [] 3 ∷ [] }

pub run_goes_on : (all_done (accepted_edits calls) lists).own ≡ rule [] 2 ∷ rule [] 3 ∷ []
unfolding all_done accepted_edits
run_goes_on = refl

pub sizes_printed : SizesTheorem
sizes_printed = ((refl, refl), (refl, refl, refl), (refl, refl, refl), refl)

none : move_refusal limits example ≡ 0
unfolding move_refusal list_refusal slots boxes_of group cut every_both pieces cut_each together highest full_over room work any_over over_slot over rules_refusal sound complete
none = refl

pub example_accepted : move_of limits (order_bytes example) ≡ accepted (moved example)
example_accepted = move_again limits limits_small example none
