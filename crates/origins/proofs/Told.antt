-- A trace told in numbers. Assumes nothing.
use Rattle.std.specs.Prelude.{Ok, Err}
use mathlib.Core.Path.{◌≡◌, refl, ap, ◌∙◌}
use mathlib.Core.List.{List, [], ◌∷◌}
use Prim.Native.Nat.{ℕ, ◌+◌, ◌*◌, ◌≤◌, ◌<◌}
use native.Mathlib.Omega.{arith}
use lib.ListN.{length}
use lib.Seq.{sets}
use Rattle.lists.proofs.Lists.{sets-parts}
use Rattle.policy.specs.Fields.{limits}
use Rattle.policy.specs.Refusals.{accepted}
use Rattle.policy.specs.declared.Refusal.TheVariants.{NotComplete}
use Rattle.wire.specs.Buffers.{filled, written}
use Rattle.filter.specs.Lookup.{lookup_number}
use Rattle.origins.specs.Origin.{origin_size, origin_numbers, value_of}
use Rattle.origins.specs.Steps.{trace_heard, TraceSmall, TraceTold}
use Rattle.origins.specs.declared.Trace.{Trace}
use Rattle.origins.specs.declared.Trace.TheVariants.{Gate, Own, Nowhere}

-- three numbers at the front
put_filled : (ns : List ℕ) (a b c : ℕ) → origin_size ≤ length ns → sets ns 0 (a ∷ b ∷ c ∷ []) ≡ filled origin_size ns (a ∷ b ∷ c ∷ [])
unfolding filled
put_filled ns a b c h = sets-parts ns 0 (a ∷ b ∷ c ∷ []) (omega arith)

pub small_gate : {t : Trace} (rule number place : ℕ) → t ≡ Gate rule number place → TraceSmall t → (rule < limits.gate) × (number < limits.total) × (place < limits.total)
unfolding TraceSmall
small_gate rule number place e h = rw e at h

pub small_own : {t : Trace} (passed rule place action : ℕ) → t ≡ Own passed rule place action → TraceSmall t → (passed < limits.gate) × (rule < limits.own) × (place < limits.total) × (action ≤ 1)
unfolding TraceSmall
small_own passed rule place action e h = rw e at h

module _ (ns ns' : List ℕ) (room : origin_size ≤ length ns) (rule place : ℕ) where
  pub told_gate : (number : ℕ) → ns' ≡ sets ns 0 (0 ∷ rule ∷ number ∷ []) → TraceTold (Gate rule number place) ns (Ok (2 * place)) ns'
  unfolding value_of lookup_number trace_heard written origin_numbers
  told_gate number e = record {
    answer = ap accepted (omega arith);
    numbers = e ∙ put_filled ns 0 rule number room;
  }

  pub told_own : (passed action : ℕ) → ns' ≡ sets ns 0 (1 ∷ rule ∷ 0 ∷ []) → TraceTold (Own passed rule place action) ns (Ok (2 * place + action)) ns'
  unfolding value_of lookup_number trace_heard written origin_numbers
  told_own passed action e = record {
    answer = refl;
    numbers = e ∙ put_filled ns 1 rule 0 room;
  }

pub told_nowhere : (ns : List ℕ) → TraceTold Nowhere ns (Err NotComplete) ns
unfolding value_of trace_heard written
told_nowhere ns = record { answer = refl; numbers = refl }
