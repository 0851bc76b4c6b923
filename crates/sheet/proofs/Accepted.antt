-- What a caller knows once a reader has accepted: the lists and groups, and that the bytes are exactly theirs.
-- Assumes nothing.
use mathlib.Core.Path.{◌≡◌, ap, sym, ◌∙◌}
use mathlib.Core.List.{List, ◌++◌}
use Prim.Native.Nat.{ℕ, ◌<◌}
use native.Mathlib.Omega.{arith}
use lib.ListN.{length, take, drop, length-append}
use Rattle.std.specs.Prelude.{Ok}
use lib.Seq.{take_at, drop_at, drop-drop}
use Rattle.lists.specs.Lists.{Each}
use Rattle.policy.specs.Fields.{count_size, limits}
use Rattle.policy.specs.Refusals.{Answered, accepted}
use Rattle.policy.specs.Move.{Order, Pair}
use Rattle.policy.proofs.Refused.{list_refusal}
use Rattle.policy.proofs.Answers.{given_value, given_laid}
use Rattle.wire.specs.Numbers.{number_bytes, Byte}
use Rattle.wire.proofs.Numbers.{number_bytes-length}
use Rattle.wire.proofs.Records.{rules_in-length}
use Rattle.sheet.specs.Orders.{order_in, order_bytes, list_in}
use Rattle.sheet.specs.Pairs.{groups_bytes, pair_in, pair_bytes}
use Rattle.sheet.specs.Steps.{rules_of, ListLaid, ListRead, order_at, OrderLaid, OrderRead, pair_at, PairLaid, PairRead}
use Rattle.sheet.specs.declared.Section.{Section}
use Rattle.sheet.specs.declared.OrderLayout.{OrderLayout}
use Rattle.sheet.specs.declared.PairLayout.{PairLayout}
use Rattle.wire.proofs.Lists.{list_bytes-length}
use Rattle.sheet.proofs.Orders.{readable_fits, order_readable, order_written_back, list_readable, list_written_back}
use Rattle.sheet.proofs.Pairs.{PairGood, pair_good, pair_written_back}
use Rattle.wire.specs.Lists.{list_size, list_bytes}

-- A list by itself.
pub record ListAccepted (most : ℕ) (s : List ℕ) (l : Section) : Type 0 where
  pub reads : list_in most s ≡ accepted (rules_of l.count s)
  pub readable : list_refusal most (rules_of l.count s) ≡ 0
  pub bytes : list_bytes (rules_of l.count s) ≡ s
  pub laid : ListLaid most s l

pub list_accepted : {most : ℕ} {s : List ℕ} {r : Answered Section} → ListRead most s r → Each Byte s → (l : Section) → r ≡ Ok l → ListAccepted most s l
list_accepted {most} {s} x b l e =
    let p : list_in most s ≡ accepted (rules_of l.count s) = given_value x l e in
    record {
      reads = p;
      readable = list_readable most s (rules_of l.count s) p;
      bytes = list_written_back most s (rules_of l.count s) p b;
      laid = given_laid x l e;
    }

-- Where a section's bytes end.
section_end : (most n : ℕ) (s : List ℕ) → most < 65536 → list_refusal most (rules_of n s) ≡ 0 → length (list_bytes (rules_of n s)) ≡ list_size n
section_end most n s h e =
    list_bytes-length (rules_of n s) (readable_fits most (rules_of n s) h e).rules ∙ ap (λ (k : ℕ). list_size k) (rules_in-length n (drop count_size s))

-- An order sheet.
pub record OrderAccepted (s : List ℕ) (l : OrderLayout) : Type 0 where
  pub reads : order_in limits s ≡ accepted (order_at l s)
  pub gate_readable : list_refusal limits.gate (rules_of l.gate s) ≡ 0
  pub own_readable : list_refusal limits.own (rules_of l.own (drop l.middle s)) ≡ 0
  pub gate_bytes : list_bytes (rules_of l.gate s) ≡ take l.middle s
  pub own_bytes : list_bytes (rules_of l.own (drop l.middle s)) ≡ drop l.middle s
  pub laid : OrderLaid s l

pub order_accepted : {s : List ℕ} {r : Answered OrderLayout} → OrderRead s r → Each Byte s → (l : OrderLayout) → r ≡ Ok l → OrderAccepted s l
unfolding order_bytes
order_accepted {s} x b l e =
    let o : Order = order_at l s in
    let middle : ℕ = l.middle in
    let p : OrderLaid s l = given_laid x l e in
    let q : order_in limits s ≡ accepted o = given_value x l e in
    let f = order_readable limits s o q in
    let k : list_bytes o.gate ++ list_bytes o.own ≡ s = order_written_back limits s o q b in
    let m : length (list_bytes o.gate) ≡ middle = section_end limits.gate l.gate s (omega arith) f.0 ∙ sym p.lists.gate_end in
    record {
      reads = q;
      gate_readable = f.0;
      own_readable = f.1;
      gate_bytes = sym (ap (take middle) (sym k) ∙ take_at (list_bytes o.gate) (list_bytes o.own) middle m);
      own_bytes = sym (ap (drop middle) (sym k) ∙ drop_at (list_bytes o.gate) (list_bytes o.own) middle m);
      laid = p;
    }

-- A pair sheet.
pub record PairAccepted (s : List ℕ) (l : PairLayout) : Type 0 where
  pub reads : pair_in limits s ≡ accepted (pair_at l s)
  pub good : PairGood limits (pair_at l s)
  pub lists_bytes : order_bytes (pair_at l s).order ≡ take l.order.end s
  pub section_bytes : number_bytes count_size (length (pair_at l s).groups) ++ groups_bytes (pair_at l s).groups ≡ drop l.order.end s
  pub group_bytes : groups_bytes (pair_at l s).groups ≡ drop l.from s
  pub laid : PairLaid s l

pub pair_accepted : {s : List ℕ} {r : Answered PairLayout} → PairRead s r → Each Byte s → (l : PairLayout) → r ≡ Ok l → PairAccepted s l
unfolding pair_bytes order_bytes
pair_accepted {s} x b l e =
    let third : ℕ = l.order.end in
    let p : Pair = pair_at l s in
    let q : pair_in limits s ≡ accepted p = given_value x l e in
    let w : PairLaid s l = given_laid x l e in
    let g = pair_good limits s p q (omega arith) in
    let k = pair_written_back limits s p q b in
    let gate : List ℕ = list_bytes p.order.gate in
    let own : List ℕ = list_bytes p.order.own in
    let head : List ℕ = number_bytes count_size (length p.groups) in
    let rest : List ℕ = groups_bytes p.groups in
    let lg : length gate ≡ l.order.middle = section_end limits.gate l.order.gate s (omega arith) g.gate ∙ sym w.lists.gate_end in
    let lo : length own ≡ list_size l.order.own = section_end limits.own l.order.own (drop l.order.middle s) (omega arith) g.own in
    let lt : length (gate ++ own) ≡ third = rw (length-append, lg, lo) (sym w.lists.own_end) in
    let behind : head ++ rest ≡ drop third s = sym (ap (drop third) (sym k) ∙ drop_at (gate ++ own) (head ++ rest) third lt) in
    record {
      reads = q;
      good = g;
      lists_bytes = sym (ap (take third) (sym k) ∙ take_at (gate ++ own) (head ++ rest) third lt);
      section_bytes = behind;
      group_bytes =
          sym (ap (λ (i : ℕ). drop i s) w.begin
          ∙ (sym (drop-drop count_size third s)
          ∙ (ap (drop count_size) (sym behind) ∙ drop_at head rest count_size (number_bytes-length count_size (length p.groups)))));
      laid = w;
    }
