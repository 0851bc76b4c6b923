-- The call: its test, check's refusals, and a trace told; and two outcomes of one call are equal. Assumes nothing.
use Rattle.std.specs.Prelude.{Ok, Err}
use mathlib.Core.Path.{◌≡◌, refl, sym, ◌∙◌}
use mathlib.Core.List.{List}
use mathlib.Core.Bool.{true, false}
use mathlib.Core.Logic.{◌⊎◌, inl, inr}
use Prim.Native.Nat.{ℕ, ◌<◌, ◌≤◌}
use native.Mathlib.Omega.{arith}
use lib.ListN.{length}
use Rattle.policy.specs.Fields.{limits, work_size}
use Rattle.policy.specs.Ranges.{Packet}
use Rattle.policy.specs.Refusals.{Answer, refusal_base, accepted, refused, number_of}
use Rattle.policy.specs.Move.{Pair}
use Rattle.policy.specs.declared.Refusal.{Refusal}
use Rattle.policy.specs.declared.Refusal.TheVariants.{BufferShort}
use Rattle.policy.proofs.Answers.{said_once, test_accepted}
use Rattle.wire.specs.Buffers.{zeroed, written}
use Rattle.sheet.specs.declared.PairLayout.{PairLayout}
use Rattle.sheet.proofs.Outcomes.{through}
use Rattle.promises.specs.Calls.{work_after, both_lent, check_of}
use Rattle.promises.proofs.Calls.{room_short, work_short, both_there}
use Rattle.checking.specs.Steps.{CheckRead}
use Rattle.filter.specs.Lookup.{lookup_number}
use Rattle.origins.specs.Origin.{Decision, origin_of, origin_size, origin_call, value_of, Origins}
use Rattle.origins.specs.Steps.{Checked, Traced, TraceTold}
use Rattle.origins.specs.declared.Trace.{Trace}
use Rattle.origins.proofs.Deciding.{decided}

-- a sheet whose layout check answers
pub passes_check : {s : List ℕ} {l : PairLayout} → CheckRead s (Ok l) → Checked s l
passes_check x = record { checks = sym x.says; laid = x.laid }

module _ (p : Packet) (s ns w : List ℕ) where
  short : both_lent origin_size ns w ≡ false → Origins p s ns w (Err BufferShort) ns w
  unfolding origin_call value_of written work_after
  short e = record { answer = rw e refl; numbers = rw e refl; work = rw e refl }

  pub lent_short : (length ns < origin_size) ⊎ (origin_size ≤ length ns × length w < work_size) → Origins p s ns w (Err BufferShort) ns w
  lent_short (inl h) = short (room_short origin_size ns _ h)
  lent_short (inr h) = short (work_short origin_size work_size ns w h.0 h.1)

  module _ (h : origin_size ≤ length ns) (k : work_size ≤ length w) {w' : List ℕ} (clear : w' ≡ zeroed 0 work_size w) where
    lent : both_lent origin_size ns w ≡ true
    lent = both_there origin_size work_size ns w h k

    pub origin_refused : {f : Refusal} → check_of limits s ≡ refused (number_of f) → Origins p s ns w (Err f) ns w'
    unfolding origin_call origin_of value_of written work_after
    origin_refused x = record { answer = rw (lent, x) refl; numbers = rw (lent, x) refl; work = rw lent clear }

    pub origin_told : {q : Pair} → check_of limits s ≡ accepted q → {t : Trace} → Traced p q t → {r : Answer} {ns' : List ℕ} → TraceTold t ns r ns' → Origins p s ns w r ns' w'
    unfolding origin_call origin_of work_after
    origin_told checks x y = record {
      answer = rw (lent, checks, ← x.says) y.answer;
      numbers = rw (lent, checks, ← x.says) y.numbers;
      work = rw lent clear;
    }

  -- Two outcomes of one call are equal.
  pub origin_once : {r r' : Answer} {u u' v v' : List ℕ} → Origins p s ns w r u v → Origins p s ns w r' u' v' → (r ≡ r') × (u ≡ u') × (v ≡ v')
  origin_once {r = r} {r' = r'} x y = (said_once r r' (x.answer ∙ sym y.answer), x.numbers ∙ sym y.numbers, x.work ∙ sym y.work)

  -- what is answered is below every refusal
  pub value_small : (d : Decision) → origin_call p s ns w ≡ accepted d → lookup_number (accepted d.hit) < refusal_base
  unfolding origin_call origin_of lookup_number
  value_small d e =
      let t = test_accepted (both_lent origin_size ns w) 1 (origin_of limits p s) e in
      let q = through (check_of limits s) _ d t.1 in
      let k = decided s q.value q.first p d q.then in
      omega (arith, k.place, k.action)
