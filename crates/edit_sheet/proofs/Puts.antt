-- A changed B put where the old one was: what is moved and what is left. Assumes nothing.
use mathlib.Core.Path.{◌≡◌, ap, sym, ◌∙◌}
use mathlib.Core.List.{List, ◌++◌, append_assoc}
use Prim.Native.Nat.{ℕ, ◌+◌, ◌-◌, ◌≤◌}
use native.Mathlib.Omega.{arith}
use lib.ListN.{length, take, drop, length-append}
use lib.Seq.{sets, take_all, drop_at, length-sets, length-take-le}
use Rattle.lists.proofs.Lists.{take-sets, sets-parts}
use Rattle.wire.specs.Buffers.{zeroed, filled}
use Rattle.wire.proofs.Buffers.{filled_is}
use Rattle.sheet.specs.Pairs.{pair_size}
use Rattle.sheet.specs.declared.PairLayout.{PairLayout}
use Rattle.edit_sheet.specs.Steps.{RoomReady, with_own, OwnPut}
use Rattle.edit_sheet.proofs.Rooms.{part_long}

module _ {s list : List ℕ} {l : PairLayout} (h : OwnPut s l list) where
  abbrev middle : ℕ
  middle = l.order.middle

  abbrev third : ℕ
  third = l.order.end

  abbrev end : ℕ
  end = middle + length list

  abbrev behind : ℕ
  behind = l.end - third

  pub own_room : RoomReady s third end behind
  own_room = record { apart = h.apart; old = omega (arith, h.inside, h.old, h.room); new = omega (arith, h.new, h.room) }

  pub own_put : (s₁ s₂ s₃ : List ℕ) (last : ℕ) → s₁ ≡ sets s end (take behind (drop third s)) → s₂ ≡ sets s₁ middle list
      → last ≡ end + behind → s₃ ≡ zeroed last pair_size s₂
      → (last ≡ length (with_own s l list)) × (s₃ ≡ filled pair_size s (with_own s l list))
  own_put s₁ s₂ s₃ last f₁ e₂ el e₃ =
      let t : List ℕ = take behind (drop third s) in
      let lt : length t ≡ behind = part_long own_room in
      let fit : end + length t ≤ length s = omega (arith, h.new, h.room) in
      let l₁ : length s₁ ≡ length s = ap length f₁ ∙ length-sets s end t in
      let g : drop end s₁ ≡ t ++ drop (end + length t) s = ap (drop end) (f₁ ∙ sets-parts s end t fit) ∙ drop_at (take end s) (t ++ drop (end + length t) s) end (length-take-le end s (omega arith)) in
      let f₂ : s₂ ≡ take middle s ++ (list ++ (t ++ drop (end + length t) s)) =
      e₂ ∙ sets-parts s₁ middle list (omega arith) ∙ rw (g, f₁, take-sets middle s end t (omega arith)) in
      let c : List ℕ = with_own s l list in
      let f : s₂ ≡ c ++ drop (end + length t) s = f₂ ∙ rw (append_assoc (take middle s) (list ++ t) (drop (end + length t) s), append_assoc list t (drop (end + length t) s)) in
      let lc : length c ≡ last = rw (length-append (take middle s) (list ++ t), length-append list t, length-take-le middle s (omega arith)) (omega arith) in
      let m : end + length t ≡ last = omega arith in
      let u : s₂ ≡ take last c ++ drop last s = f ∙ rw (m, take_all last c (omega arith)) in
      (sym lc, filled_is c s s₂ s₃ last pair_size (sym lc) (omega (arith, h.new)) h.room u e₃)
