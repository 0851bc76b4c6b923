-- The call: its test, the refusals, and a report told; and two outcomes of one call are equal. Assumes nothing.
use Rattle.std.specs.Prelude.{Ok, Err}
use mathlib.Core.Path.{◌≡◌, refl, ap, sym, ◌∙◌}
use mathlib.Core.List.{List}
use mathlib.Core.Bool.{true, false}
use mathlib.Core.Logic.{◌⊎◌, inl, inr}
use Prim.Native.Nat.{ℕ, ◌<◌, ◌≤◌}
use lib.ListN.{length}
use lib.Seq.{sets}
use Rattle.policy.specs.Fields.{limits, work_size}
use Rattle.policy.specs.Refusals.{Answer, accepted, refused, number_of, heard}
use Rattle.policy.specs.declared.Refusal.{Refusal}
use Rattle.policy.specs.declared.Refusal.TheVariants.{BufferShort, LengthWrong}
use Rattle.policy.proofs.Answers.{said_once}
use Rattle.policy.specs.Move.{Pair}
use Rattle.wire.specs.Buffers.{zeroed, filled, written, length_of}
use Rattle.wire.proofs.Buffers.{filled_front}
use Rattle.promises.specs.Calls.{work_after, check_of}
use Rattle.promises.proofs.Calls.{room_short, room_there, work_short, both_there}
use Rattle.sheet.specs.Steps.{pair_at}
use Rattle.sheet.specs.declared.PairLayout.{PairLayout}
use Rattle.origins.specs.Steps.{Checked}
use Rattle.load.specs.Load.{no_load}
use Rattle.load.specs.Packets.{added_to, hits_in}
use Rattle.load.specs.Steps.{load_value}
use Rattle.load.specs.declared.Load.{Load as LoadValue}
use Rattle.reporting.specs.Report.{places, are_readings, loaded_of, report_of, totals_size, totals_of, hits_size, all_lent, report_call, Reports}
use Rattle.reporting.proofs.Hits.{hits-length}

-- the sheet that was checked passes check
pub passes : {s s' : List ℕ} {l : PairLayout} → Checked s' l → s' ≡ s → check_of limits s ≡ accepted (pair_at l s')
passes checked e = ap (check_of limits) (sym e) ∙ checked.checks

-- what holds of readings holds of what they were made of
pub lengths_of : {n n' : ℕ} {a a' b b' : List ℕ} → (a ≡ a') × (b ≡ b') × (n ≡ n') → are_readings n a b ≡ true → are_readings n' a' b' ≡ true
lengths_of e h = rw (e.0, e.1, e.2) at h

module _ (s packets earlier later ts hs w : List ℕ) where
  -- a buffer that is too short
  lent_not : all_lent ts hs w ≡ false → Reports s packets earlier later ts hs w (Err BufferShort) ts hs w
  unfolding report_call length_of written work_after
  lent_not e = record { answer = rw e refl; totals = rw e refl; hits = rw e refl; work = rw e refl }

  pub lent_short : (length ts < totals_size) ⊎ ((totals_size ≤ length ts × length hs < hits_size) ⊎ (totals_size ≤ length ts × hits_size ≤ length hs × length w < work_size))
      → Reports s packets earlier later ts hs w (Err BufferShort) ts hs w
  unfolding all_lent
  lent_short (inl h) = lent_not (room_short totals_size ts _ h)
  lent_short (inr (inl h)) = lent_not (rw (room_there totals_size ts h.0) (room_short hits_size hs _ h.1))
  lent_short (inr (inr h)) = lent_not (rw (room_there totals_size ts h.0) (work_short hits_size work_size hs w h.1 h.2))

  module _ (t : totals_size ≤ length ts) (h : hits_size ≤ length hs) (k : work_size ≤ length w) {w' : List ℕ} (clear : w' ≡ zeroed 0 work_size w) where
    lent : all_lent ts hs w ≡ true
    unfolding all_lent
    lent = rw (room_there totals_size ts t) (both_there hits_size work_size hs w h k)

    -- a refusal of the check, of the readings and of the packets
    refuses : {f : Refusal} → report_of limits s packets earlier later ≡ refused (number_of f) → Reports s packets earlier later ts hs w (Err f) ts hs w'
    unfolding report_call length_of written work_after
    refuses x = record { answer = rw (lent, x) refl; totals = rw (lent, x) refl; hits = rw (lent, x) refl; work = rw lent clear }

    pub check_refuses : {f : Refusal} → check_of limits s ≡ refused (number_of f) → Reports s packets earlier later ts hs w (Err f) ts hs w'
    unfolding report_of
    check_refuses x = refuses (rw x refl)

    module _ (q : Pair) (checks : check_of limits s ≡ accepted q) {n : ℕ} (are : n ≡ places q) where
      pub readings_refuse : {f : Refusal} → f ≡ LengthWrong → are_readings n earlier later ≡ false → Reports s packets earlier later ts hs w (Err f) ts hs w'
      unfolding report_of loaded_of
      readings_refuse e h = refuses (rw (checks, ← are, h, e) refl)

      module _ (right : are_readings n earlier later ≡ true) where
        loaded_is : loaded_of q packets earlier later ≡ added_to q no_load packets
        unfolding loaded_of
        loaded_is = rw (← are, right) refl

        pub load_refuses : {f : Refusal} → heard load_value (Err f) ≡ added_to q no_load packets → Reports s packets earlier later ts hs w (Err f) ts hs w'
        unfolding report_of
        load_refuses x = refuses (rw (checks, loaded_is, ← x) refl)

        pub report_told : (t : LoadValue) {ts' hs' : List ℕ} → heard load_value (Ok t) ≡ added_to q no_load packets → ts' ≡ sets ts 0 (totals_of (load_value t))
            → hs' ≡ filled hits_size hs (hits_in n earlier later) → Reports s packets earlier later ts hs w (Ok n) ts' hs' w'
        unfolding report_call report_of length_of written work_after totals_of
        report_told load x totals-put hits-put = record {
          answer = rw (lent, checks, loaded_is, ← x) (ap accepted (are ∙ sym (hits-length (places q) earlier later)));
          totals = rw (lent, checks, loaded_is, ← x) (totals-put ∙ filled_front totals_size ts _ refl t);
          hits = rw (lent, checks, loaded_is, ← x, ← are) hits-put;
          work = rw lent clear;
        }

  -- Two outcomes of one call are equal.
  pub report_once : {r r' : Answer} {x x' y y' z z' : List ℕ} → Reports s packets earlier later ts hs w r x y z → Reports s packets earlier later ts hs w r' x' y' z'
      → (r ≡ r') × (x ≡ x') × (y ≡ y') × (z ≡ z')
  report_once {r = r} {r' = r'} a b = (said_once r r' (a.answer ∙ sym b.answer), a.totals ∙ sym b.totals, a.hits ∙ sym b.hits, a.work ∙ sym b.work)
