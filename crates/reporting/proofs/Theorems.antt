-- The theorem of specs/Theorems.antt. Assumes nothing.
use mathlib.Core.Path.{◌≡◌, refl, ap, sym, ◌∙◌, subst}
use mathlib.Core.List.{List, [], ◌∷◌}
use Prim.Native.Nat.{ℕ, ◌+◌, ◌*◌, ◌%◌, ◌<◌, ◌≤◌}
use native.Mathlib.Omega.{arith}
use lib.Dec.{leb, eqb}
use lib.ListN.{length}
use Rattle.lists.specs.Lists.{Each}
use Rattle.lists.proofs.Lists.{each_imp}
use Rattle.policy.specs.Fields.{limits}
use Rattle.policy.specs.Ranges.{Packet}
use Rattle.policy.specs.Refusals.{Outcome, accepted, test}
use Rattle.policy.specs.Move.{Pair}
use Rattle.policy.proofs.Answers.{test_accepted}
use Rattle.sheet.proofs.Outcomes.{through}
use Rattle.promises.specs.Calls.{check_of}
use Rattle.load.specs.Load.{tries_after, sum_of, forwarded_by, Load, load_of, plus, no_load, common_in, gain_of}
use Rattle.load.specs.Packets.{packet_size, whole_packets, packets_in, packets_most, hits_in, added_to}
use Rattle.load.specs.Theorems.{InLimits, PlaceCounted, LowestGain}
use Rattle.load.proofs.Sums.{load_same}
use Rattle.load.proofs.Theorems.{packets_in_limits, after_is_list_place, forwarded_same, gain_lowest}
use Rattle.reporting.specs.Report.{Report, places, are_readings, loaded_of, report_of}
use Rattle.reporting.specs.Theorems.{ReportTheorem}

none_plus : (t : Load) → plus no_load t ≡ t
unfolding plus
none_plus t = load_same (omega arith) (omega arith) (omega arith) (omega arith)

-- every packet has two tries after at least
some_after : (q : Pair) (ps : List Packet) → Each (PlaceCounted q) ps → 2 * length ps ≤ sum_of (tries_after q) ps
unfolding Each sum_of
some_after q [] h = omega arith
some_after q (p ∷ ps) h = let r = some_after q ps h.1 in omega (arith, h.0.counted, r)

module _ (q : Pair) (ps : List Packet) (counted : Each (PlaceCounted q) ps) where
  gain_some : 0 < (load_of q ps).packets → LowestGain (load_of q ps)
  unfolding load_of
  gain_some h = gain_lowest (load_of q ps) (let a = some_after q ps counted in omega arith)

-- of no packets both parts are 0
gain_none : (q : Pair) (ps : List Packet) → (load_of q ps).packets ≡ 0 → ((gain_of (load_of q ps)).numerator ≡ 0) × ((gain_of (load_of q ps)).denominator ≡ 0)
unfolding load_of sum_of forwarded_by gain_of common_in
gain_none q [] h = (refl, refl)
gain_none q (p ∷ ps) h = absurd (omega arith)

-- a load that was accepted
loaded : (q : Pair) (packets earlier later : List ℕ) (t : Load) → loaded_of q packets earlier later ≡ accepted t → t ≡ load_of q (packets_in packets)
unfolding loaded_of added_to
loaded q packets earlier later t e =
    let sum : Outcome Load = accepted (plus no_load (load_of q (packets_in packets))) in
    let whole = eqb (length packets % packet_size) 0 in
    let a = test_accepted (are_readings (places q) earlier later) 3 (added_to q no_load packets) e in
    let b = test_accepted (leb (0 + whole_packets packets) packets_most) 2 (test whole 3 sum) a.1 in
    let c : sum ≡ accepted t = (test_accepted whole 3 sum b.1).1 in
    let d : plus no_load (load_of q (packets_in packets)) ≡ t = cc in
    sym d ∙ none_plus (load_of q (packets_in packets))

pub report_holds : ReportTheorem
unfolding report_of
report_holds s packets earlier later r bytes e =
    let c = through (check_of limits s) _ r e in
    let q : Pair = c.value in
    let t = through (loaded_of q packets earlier later) _ r c.then in
    let is : record { load = t.value; hits = hits_in (places q) earlier later } ≡ r = let z = t.then in cc in
    let l = loaded q packets earlier later t.value t.first in
    let counted = each_imp InLimits (PlaceCounted q) (packets_in packets) (λ p h. after_is_list_place s q c.first p h) (packets_in_limits packets bytes) in
    let load_is : r.load ≡ load_of q (packets_in packets) = ap (λ (x : Report). x.load) (sym is) ∙ l in
    record {
      pair = q;
      checks = c.first;
      load = load_is;
      after = counted;
      forwarded = forwarded_same s q c.first (packets_in packets);
      gain = subst (λ (x : Load). 0 < x.packets → LowestGain x) (sym load_is) (gain_some q (packets_in packets) counted);
      none = subst (λ (x : Load). x.packets ≡ 0 → ((gain_of x).numerator ≡ 0) × ((gain_of x).denominator ≡ 0)) (sym load_is) (gain_none q (packets_in packets));
      hits = ap (λ (x : Report). x.hits) (sym is);
    }
