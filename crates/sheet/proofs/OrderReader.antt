-- The readers of A and B and of an order sheet: what the code answers is what the definitions give. Assumes nothing.
use mathlib.Core.Path.{◌≡◌, refl, ap, sym}
use mathlib.Core.List.{List}
use Prim.Native.Nat.{ℕ, ◌+◌, ◌-◌, ◌<◌, ◌≤◌}
use native.Mathlib.Omega.{arith}
use lib.ListN.{length, take, drop, length-drop}
use lib.Seq.{drop-drop}
use borrow.Author.Tests.{eq-eqb, ne_eqb}
use Rattle.std.specs.Prelude.{Ok, Err}
use Rattle.policy.specs.Fields.{limits}
use Rattle.policy.specs.Refusals.{Answered}
use Rattle.policy.specs.declared.Refusal.{Refusal}
use Rattle.policy.specs.declared.Refusal.TheVariants.{LengthWrong}
use Rattle.sheet.specs.Orders.{order_in, lists_in}
use Rattle.sheet.specs.Steps.{SectionRead, ListsRead, OrderRead}
use Rattle.sheet.specs.declared.Section.{Section}
use Rattle.sheet.specs.declared.OrderLayout.{OrderLayout}
use Rattle.sheet.proofs.Parts.{part_from}
use Rattle.policy.proofs.Answers.{gives_refusal, given_refusal, given_value, given_laid}

of_part : {most : ℕ} (s : List ℕ) (at : ℕ) {r : Answered Section} → SectionRead most (take (length s - at) (drop at s)) r → SectionRead most (drop at s) r
of_part s at x = rw (part_from s at) at x

-- Over any limits, so that a wrong limit is refused at the contract, not here.
module _ {p : ℕ} {s : List ℕ} {r : Answered Section} (x : SectionRead p s r) (l : Section) (e : r ≡ Ok l) where
  pub middle_inside : l.next ≤ length s
  middle_inside = (given_laid x l e).inside

  pub own_inside :
      {q : ℕ} {t : Answered Section} → SectionRead q (take (length s - l.next) (drop l.next s)) t → (m : Section) → t ≡ Ok m
      → l.next + m.next ≤ length s
  own_inside y m i =
      let g = (given_laid (of_part s l.next y) m i).inside in
      let h = middle_inside in
      omega (arith, length-drop l.next s)

-- From what the section reader ensures of A, and of the part behind it.
module _ {s : List ℕ} {r : Answered Section} (x : SectionRead limits.gate s r) where
  pub gate_refusal : (f : Refusal) → r ≡ Err f → ListsRead s (Err f)
  unfolding lists_in
  gate_refusal f e = gives_refusal f (rw (given_refusal x f e) refl)

  module _ (l : Section) (e : r ≡ Ok l) {q : Answered Section} (y : SectionRead limits.own (take (length s - l.next) (drop l.next s)) q) where
    pub own_refusal : (f : Refusal) → q ≡ Err f → ListsRead s (Err f)
    unfolding lists_in
    own_refusal f i = gives_refusal f (rw (given_value x l e, given_refusal (of_part s l.next y) f i) refl)

    pub lists_read : (m : Section) → q ≡ Ok m → ListsRead s (Ok (record { gate = l.count; own = m.count; middle = l.next; end = l.next + m.next }))
    unfolding lists_in
    lists_read m i =
        let p = given_laid x l e in
        let g = given_laid (of_part s l.next y) m i in
        record {
          says = sym (rw (given_value x l e, given_value (of_part s l.next y) m i, drop-drop m.next l.next s) refl);
          laid = record {
            gate_end = p.end;
            own_end = ap (λ (k : ℕ). l.next + k) g.end;
            inside = own_inside x l e y m i;
            gate_limit = p.limit;
            own_limit = g.limit;
          };
        }

-- The order sheet.
module _ {s : List ℕ} {r : Answered OrderLayout} (x : ListsRead s r) where
  pub order_refusal : (f : Refusal) → r ≡ Err f → OrderRead s (Err f)
  unfolding order_in
  order_refusal f e = gives_refusal f (rw (given_refusal x f e) refl)

  module _ (l : OrderLayout) (e : r ≡ Ok l) where
    pub order_over : l.end < length s → OrderRead s (Err LengthWrong)
    unfolding order_in
    order_over h =
        gives_refusal LengthWrong
        (rw (given_value x l e, ne_eqb (length (drop l.end s)) 0 (λ z. omega (arith, length-drop l.end s))) refl)

    pub order_read : length s ≤ l.end → OrderRead s (Ok l)
    unfolding order_in
    order_read h =
        let p = given_laid x l e in
        let i = p.inside in
        record {
          says = sym (rw (given_value x l e, eq-eqb (length (drop l.end s)) 0 (omega (arith, length-drop l.end s))) refl);
          laid = record { lists = p; whole = omega arith };
        }
