-- Two outcomes of one call for C are equal: the number, and everything lent. Assumes nothing.
use mathlib.Core.Path.{◌≡◌}
use mathlib.Core.List.{List}
use mathlib.Core.Bool.{Bool}
use Prim.Native.Nat.{ℕ}
use Rattle.policy.specs.Ranges.{Packet}
use Rattle.policy.specs.Refusals.{Outcome}
use Rattle.records.specs.Calls.{RecordRead, RecordWritten}
use Rattle.records.proofs.Calls.{rule_once, record_once}
use Rattle.orders.specs.Split.{Split}
use Rattle.orders.specs.Join.{Join}
use Rattle.orders.proofs.Splits.{split_once}
use Rattle.orders.proofs.Joins.{join_once}
use Rattle.promises.specs.Calls.{Call, Checks}
use Rattle.promises.proofs.Calls.{call_once}
use Rattle.checking.proofs.Checking.{check_once}
use Rattle.origins.specs.Origin.{Origins}
use Rattle.origins.proofs.Calls.{origin_once}
use Rattle.reporting.specs.Report.{Reports}
use Rattle.reporting.proofs.Calls.{report_once}
use Rattle.foldplover.specs.Coded.{Coded}
use Rattle.foldplover.proofs.Codes.{same_number}

-- Move, the three edits and both list calls.
pub call_number_once :
    {A : Type 0} (bytes : A → List ℕ) (size : ℕ) (lent : Bool) (x : Outcome A) (out w : List ℕ) {n m : ℕ} {y z u v : List ℕ}
    → Coded (λ q. Call bytes size lent x out w q y u) n → Coded (λ q. Call bytes size lent x out w q z v) m → (n ≡ m) × (y ≡ z) × (u ≡ v)
call_number_once bytes size lent x out w a b =
    let o = call_once bytes size lent x out w a.below b.below in
    (same_number a b o.0, o.1, o.2)

pub check_number_once :
    (s w : List ℕ) {n m : ℕ} {u v : List ℕ} → Coded (λ q. Checks s w q u) n → Coded (λ q. Checks s w q v) m → (n ≡ m) × (u ≡ v)
check_number_once s w x y = let o = check_once s w x.below y.below in (same_number x y o.0, o.1)

pub split_number_once :
    {s a b : List ℕ} {n m : ℕ} {a' b' a'' b'' : List ℕ} → Coded (λ q. Split s a b q a' b') n → Coded (λ q. Split s a b q a'' b'') m
    → (n ≡ m) × (a' ≡ a'') × (b' ≡ b'')
split_number_once x y = let o = split_once x.below y.below in (same_number x y o.0, o.1, o.2)

pub join_number_once :
    {a b out : List ℕ} {n m : ℕ} {y z : List ℕ} → Coded (λ q. Join a b out q y) n → Coded (λ q. Join a b out q z) m → (n ≡ m) × (y ≡ z)
join_number_once x y = let o = join_once x.below y.below in (same_number x y o.0, o.1)

pub rule_number_once :
    {s ns : List ℕ} {n m : ℕ} {y z : List ℕ} → Coded (λ q. RecordRead s ns q y) n → Coded (λ q. RecordRead s ns q z) m → (n ≡ m) × (y ≡ z)
rule_number_once x y = let o = rule_once x.below y.below in (same_number x y o.0, o.1)

pub record_number_once :
    {ns out : List ℕ} {n m : ℕ} {y z : List ℕ} → Coded (λ q. RecordWritten ns out q y) n → Coded (λ q. RecordWritten ns out q z) m → (n ≡ m) × (y ≡ z)
record_number_once x y = let o = record_once x.below y.below in (same_number x y o.0, o.1)

pub origin_number_once :
    (p : Packet) (s ns w : List ℕ) {n m : ℕ} {u v u' v' : List ℕ} → Coded (λ q. Origins p s ns w q u v) n → Coded (λ q. Origins p s ns w q u' v') m
    → (n ≡ m) × (u ≡ u') × (v ≡ v')
origin_number_once p s ns w x y = let o = origin_once p s ns w x.below y.below in (same_number x y o.0, o.1, o.2)

pub report_number_once :
    (s packets earlier later ts hs w : List ℕ) {n m : ℕ} {x y z x' y' z' : List ℕ} → Coded (λ q. Reports s packets earlier later ts hs w q x y z) n
    → Coded (λ q. Reports s packets earlier later ts hs w q x' y' z') m → (n ≡ m) × (x ≡ x') × (y ≡ y') × (z ≡ z')
report_number_once s packets earlier later ts hs w a b =
    let o = report_once s packets earlier later ts hs w a.below b.below in
    (same_number a b o.0, o.1, o.2, o.3)
