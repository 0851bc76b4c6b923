-- What is loaded forwards what was forwarded, by the firmware's own lookup: from the calls' statements. Assumes nothing.
use mathlib.Core.Path.{◌≡◌, refl, ap, sym, ◌∙◌}
use mathlib.Core.List.{List}
use mathlib.Core.Bool.{Bool, true}
use Prim.Native.Nat.{ℕ, ◌+◌, ◌*◌, ◌%◌, ◌≤◌, ◌<◌}
use native.Mathlib.Omega.{arith}
use lib.Dec.{ltb}
use lib.ListN.{length, take}
use borrow.Author.Tests.{lt-ltb}
use Rattle.policy.specs.Fields.{limits}
use Rattle.policy.specs.Ranges.{Packet}
use Rattle.policy.specs.Rules.{Rule, Found, found, nothing, says_allow, first, allows}
use Rattle.policy.specs.Refusals.{refusal_base, Outcome, accepted, refused, said}
use Rattle.policy.specs.Move.{Order, Pair, gate_list, cell_list}
use Rattle.policy.proofs.Refused.{list_refusal}
use Rattle.policy.proofs.Edits.{list_accepted}
use Rattle.wire.specs.Lists.{list_bytes}
use Rattle.filter.specs.Lookup.{Hit, lookup, lookup_number, decided_by}
use Rattle.filter.proofs.Lists.{found_small, lookup_first}
use Rattle.sheet.specs.Pairs.{pair_bytes, pair_size}
use Rattle.sheet.proofs.Outcomes.{readable}
use Rattle.sheet.proofs.Orders.{list_readable, order_readable}
use Rattle.orders.proofs.Undo.{split_wrote}
use Rattle.wire.proofs.Buffers.{filled_content}
use Rattle.promises.specs.Calls.{both_lent, check_of, Lists, gate_bytes, gate_list_size, cell_bytes, cell_list_size}
use Rattle.promises.proofs.Calls.{call_accepted, call_content}
use Rattle.promises.proofs.Theorems.{move_call_holds}
use Rattle.origins.specs.Origin.{Decision, origin_of, origin_call, value_of}
use Rattle.origins.specs.Theorems.{hit_of}
use Rattle.origins.proofs.Theorems.{origin_agrees}
use Rattle.foldplover.specs.Coded.{coded}
use Rattle.foldplover.specs.Loaded.{lets_through, passes, Wrote, LoadedTheorem, OriginLookupTheorem}

-- the number that a lookup gives for C tells whether the rule that decides is an allow
number_allows : (most : ℕ) (x : Found) → 2 * most ≤ refusal_base → ((n a : ℕ) → x ≡ found n a → (n < most) × (a ≤ 1)) → lets_through (lookup_number (decided_by x)) ≡ says_allow x
unfolding lookup_number
number_allows most (found n a) h small =
    let s = small n a refl in
    let below : ltb (2 * n + a) refusal_base ≡ true = lt-ltb (2 * n + a) refusal_base (omega arith) in
    let odd : (2 * n + a) % 2 ≡ a = omega arith in
    rw (below, odd) refl
number_allows most nothing h small = refl

-- in the bytes of a readable list a filter lets through what the list allows
passes_list : (most : ℕ) (q : Packet) (l : List Rule) → most ≤ limits.total → list_refusal most l ≡ 0 → passes q (list_bytes l) ≡ allows q l
passes_list most q l h e =
    let f = readable most l e in
    let clean = (list_accepted most l e).0 in
    ap (λ (x : Outcome Hit). lets_through (lookup_number x)) (lookup_first limits.total q l clean f.few (omega (arith, f.many)) (omega arith))
    ∙ number_allows most (first q l) (omega arith) (λ n a i. let s = found_small q l n a clean i in (omega (arith, f.many), s.1))

-- what an accepted list call of a sheet that check accepts as p wrote
listed_is : (bytes : Pair → List ℕ) (size : ℕ) (sheet list : List ℕ) (p : Pair) → check_of limits sheet ≡ accepted p → Wrote (Lists bytes size sheet) list → list ≡ bytes p
listed_is bytes size sheet list p e x =
    let lent : Bool = both_lent size x.out x.work in
    let c = call_accepted bytes size lent (check_of limits sheet) x.call in
    let same : c.value ≡ p = cc (c.is, e) in
    sym x.is ∙ (call_content bytes size lent (check_of limits sheet) x.call ∙ ap bytes same)

pub loaded_forwards : LoadedTheorem
unfolding gate_bytes cell_bytes
loaded_forwards s sheet a b gate cell bytes split move g c q =
    let d = move_call_holds s move.out move.work move.left move.work' move.answer bytes move.call in
    let o : Order = d.0 in
    let p : Pair = d.1 in
    let two = d.2 in
    let is : sheet ≡ pair_bytes p =
    sym move.is ∙ ((λ i. take (d.3 i).used (d.3 i).buffer) ∙ filled_content pair_size move.out (pair_bytes p) (length (pair_bytes p)) refl) in
    let checks : check_of limits sheet ≡ accepted p = ap (check_of limits) is ∙ two.checks in
    let f = order_readable limits s o two.order in
    let k = split_wrote bytes split.call in
    let same : k.lists ≡ o = cc (k.reads, two.order) in
    let a-is : a ≡ list_bytes o.gate = sym split.content_a ∙ (k.gate ∙ ap (λ (y : Order). list_bytes y.gate) same) in
    let b-is : b ≡ list_bytes o.own = sym split.content_b ∙ (k.own ∙ ap (λ (y : Order). list_bytes y.own) same) in
    let old-gate : passes q a ≡ allows q o.gate = ap (passes q) a-is ∙ passes_list limits.gate q o.gate (omega arith) f.0 in
    let old-cell : passes q b ≡ allows q o.own = ap (passes q) b-is ∙ passes_list limits.own q o.own (omega arith) f.1 in
    let new-gate : passes q gate ≡ allows q (gate_list p) = ap (passes q) (listed_is gate_bytes gate_list_size sheet gate p checks g) ∙ passes_list limits.total q (gate_list p) (omega arith) (list_readable limits.total (gate_bytes p) (gate_list p) two.gate) in
    let new-cell : passes q cell ≡ allows q (cell_list p) = ap (passes q) (listed_is cell_bytes cell_list_size sheet cell p checks c) ∙ passes_list limits.total q (cell_list p) (omega arith) (list_readable limits.total (cell_bytes p) (cell_list p) two.cell) in
    record {
      both = rw (old-gate, old-cell, new-gate, new-cell) (two.forwarded q);
      cell_first = rw (old-gate, old-cell, new-cell) (two.cell_first q);
    }

-- the number of an origin is that of the lookup for its hit
origin_coded : (x : Outcome Decision) → coded (value_of x) ≡ lookup_number (hit_of x)
unfolding value_of lookup_number
origin_coded (accepted d) = refl
origin_coded (refused k) = refl

pub origin_as_lookup : OriginLookupTheorem
unfolding origin_call
origin_as_lookup p s ns w ns' w' cell n lent wrote told =
    let c = call_accepted cell_bytes cell_list_size (both_lent cell_list_size wrote.out wrote.work) (check_of limits s) wrote.call in
    let a : said told.answer ≡ value_of (origin_of limits p s) = told.below.answer ∙ rw lent refl in
    let is = listed_is cell_bytes cell_list_size s cell c.value c.is wrote in
    told.number ∙ (ap coded a ∙ (origin_coded (origin_of limits p s) ∙ ap lookup_number ((origin_agrees p s c.value c.is).answer ∙ ap (lookup limits.total p) (sym is))))
