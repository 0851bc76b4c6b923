-- A list of a sheet, changed in another buffer: its bytes are those of the changed list, and what reading them gives. Assumes nothing.
use Rattle.std.specs.Prelude.{Ok}
use mathlib.Core.Path.{◌≡◌, ap, sym, ◌∙◌}
use mathlib.Core.List.{List, [], ◌∷◌, ◌++◌}
use Prim.Native.Nat.{ℕ, zero, suc, ◌+◌, ◌*◌, ◌-◌, ◌/◌, ◌%◌, ◌≤◌, ◌<◌}
use native.Mathlib.Omega.{arith}
use lib.ListN.{length, take, drop}
use Rattle.lists.specs.Lists.{Each}
use Rattle.policy.specs.Fields.{count_size, record_size}
use Rattle.policy.specs.Rules.{Rule}
use Rattle.policy.specs.Refusals.{unless}
use Rattle.policy.proofs.Refused.{list_refusal}
use Rattle.policy.specs.Edit.{changed}
use Rattle.policy.proofs.Answers.{unless_accepted}
use Rattle.lists.proofs.Lists.{each_append}
use Rattle.wire.specs.Numbers.{Byte, number_bytes}
use Rattle.wire.proofs.Numbers.{bytes_take, bytes_drop}
use Rattle.wire.specs.Lists.{list_size, list_bytes}
use Rattle.wire.proofs.Records.{rules_in-length}
use Rattle.wire.proofs.Lists.{list_bytes-length}
use Rattle.sheet.specs.Orders.{list_in}
use Rattle.sheet.specs.Steps.{rules_of}
use Rattle.sheet.specs.declared.Section.{Section}
use Rattle.sheet.proofs.Orders.{ListFits, list_back}
use Rattle.sheet.proofs.Accepted.{ListAccepted}
use Rattle.promises.specs.Edits.{kind_of}
use Rattle.promises.specs.declared.Change.{Change}
use Rattle.promises.proofs.Demands.{changed_fits}
use Rattle.edit_list.specs.Steps.{taken_by, put_by, spliced, new_bytes, changed_bytes, ListChanged}
use Rattle.edit_list.proofs.Changes.{ChangeDone, change_done, list_spliced, taken_is, put_is, few, changed-length}

-- A number is written in bytes, and what is made of bytes is bytes.
number_bytes-each : (w x : ℕ) → Each Byte (number_bytes w x)
unfolding number_bytes Each
number_bytes-each zero x = tt
number_bytes-each (suc w) x = each_append Byte (number_bytes w (x / 256)) (x % 256 ∷ []) (number_bytes-each w (x / 256)) (omega arith, tt)

pub bytes_new : (new s : List ℕ) (n place : ℕ) (change : Change) → Each Byte s → Each Byte new → Each Byte (new_bytes s n place change new)
unfolding spliced
bytes_new new s n place change old whole =
    let part = take (record_size * put_by change) new in
    let last = drop (count_size + record_size * place + record_size * taken_by change) s in
    let front = take (record_size * place) (drop count_size s) in
    each_append Byte (number_bytes count_size (n - taken_by change + put_by change)) (front ++ (part ++ last)) (number_bytes-each count_size (n - taken_by change + put_by change))
    (each_append Byte front (part ++ last) (bytes_take (record_size * place) (drop count_size s) (bytes_drop count_size s old))
    (each_append Byte part last (bytes_take (record_size * put_by change) new whole) (bytes_drop (count_size + record_size * place + record_size * taken_by change) s old)))

-- What is known once the changed list stands in the buffer.
pub record ChangedList (l : List Rule) (n most place : ℕ) (change : Change) (new out out' : List ℕ) (end : ℕ) : Type 0 where
  pub done : ChangeDone (list_bytes l) n place change new out out' end
  pub fits : ListFits (changed place (kind_of change new) l)
  pub bytes : take end out' ≡ list_bytes (changed place (kind_of change new) l)
  pub reads : list_in most (take end out') ≡ unless (list_refusal most (changed place (kind_of change new) l)) (changed place (kind_of change new) l)

pub changed_list : {l : List Rule} {n most place : ℕ} {change : Change} {new out out' : List ℕ} {end : ℕ} → ListFits l → length l ≡ n → n < 65535 → Each Byte new
    → list_size n + record_size ≤ length out → ListChanged (changed_bytes (list_bytes l) n place change new) out (Ok end) out' → ChangedList l n most place change new out out' end
changed_list {l} {n} {most} {place} {change} {new} {out} {out'} {end} f count small whole roomy x =
    let e = list_bytes-length l f.rules in
    let d : ChangeDone (list_bytes l) n place change new out out' end = change_done (list_bytes l) n place change new (omega arith) (omega arith) x in
    let g = changed_fits place change new l d.whole whole f.rules (omega arith) in
    let b : take end out' ≡ list_bytes (changed place (kind_of change new) l) = d.bytes ∙ list_spliced new l n place change f.rules count d.found d.whole whole in
    record { done = d; fits = g; bytes = b; reads = ap (list_in most) b ∙ list_back most _ g }

-- What is known once it is read well: it is readable, and has one rule more, as many or one less.
pub record Renewed (l l' : List Rule) (n most place : ℕ) (change : Change) (t : List ℕ) (n' : ℕ) : Type 0 where
  pub clean : list_refusal most l' ≡ 0
  pub rules : rules_of n' t ≡ l'
  pub count : length l' ≡ n'
  pub size : length t ≡ list_size n'
  pub limit : n' ≤ most
  pub there : place + taken_by change ≤ length l
  pub more : n' ≤ n + 1
  pub less : n ≤ n' + 1
  pub put : place + put_by change ≤ n'

pub list_renewed : {l : List Rule} {n most place : ℕ} {change : Change} {new out out' : List ℕ} {end : ℕ} {d : Section} → length l ≡ n → ChangedList l n most place change new out out' end
    → ListAccepted most (take end out') d → Renewed l (changed place (kind_of change new) l) n most place change (take end out') d.count
list_renewed {l} {n} {most} {place} {change} {new} {out} {out'} {end} {d} counted c b =
    let u = unless_accepted (list_refusal most (changed place (kind_of change new) l)) (sym c.reads ∙ b.reads) in
    let e : length (changed place (kind_of change new) l) ≡ d.count = ap length u.1 ∙ rules_in-length d.count (drop count_size (take end out')) in
    let h = c.done.found in
    let t = taken_is change new in
    let p = put_is change new in
    let i = few change in
    let k = changed-length place (kind_of change new) l (omega arith) in
    record {
      clean = u.0;
      rules = sym u.1;
      count = e;
      size = sym b.laid.whole ∙ b.laid.section.end;
      limit = b.laid.section.limit;
      there = omega arith;
      more = omega (arith, i.0, i.1);
      less = omega (arith, i.0, i.1);
      put = omega arith;
    }
