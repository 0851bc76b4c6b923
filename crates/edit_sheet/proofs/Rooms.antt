-- Bytes moved by a record, and the pair sheet of a new A put together around what was moved. Assumes nothing.
use mathlib.Core.Path.{◌≡◌, refl, ap, sym, ◌∙◌}
use mathlib.Core.List.{List, [], ◌++◌, append_assoc}
use Prim.Native.Nat.{ℕ, ◌+◌, ◌-◌, ◌≤◌, ◌<◌}
use native.Mathlib.Omega.{arith}
use lib.ListN.{length, take, drop, length-append, length-drop, take-append-drop}
use lib.Seq.{sets, take_all, take_at, drop_at, drop-drop, take-add, length-take-le}
use Rattle.lists.proofs.Lists.{sets-parts}
use Rattle.lists.proofs.Parts.{tail_whole, tail_back}
use Rattle.policy.specs.Fields.{count_size, record_size}
use Rattle.wire.specs.Numbers.{number_bytes}
use Rattle.wire.specs.Buffers.{zeroed, filled}
use Rattle.wire.specs.Steps.{copied_down, copied_up}
use Rattle.wire.proofs.Buffers.{filled_is}
use Rattle.wire.proofs.Numbers.{number_bytes-length}
use Rattle.sheet.specs.Pairs.{pair_size}
use Rattle.sheet.specs.declared.PairLayout.{PairLayout}
use Rattle.edit_sheet.specs.Steps.{RoomReady, part_of, with_gate, group_count, GatePut}
use Rattle.edit_sheet.specs.declared.Kept.{Kept}

module _ {s : List ℕ} {from to n : ℕ} (h : RoomReady s from to n) where
  abbrev part : List ℕ
  part = take n (drop from s)

  pub part_long : length part ≡ n
  part_long = length-take-le n (drop from s) (rw length-drop (omega (arith, h.old)))

  pub room_up : from < to → (y : List ℕ) → y ≡ copied_up record_size n (take (length s - from) (drop from s))
      → take from s ++ (y ++ drop (length s - from) (drop from s)) ≡ sets s to part
  unfolding copied_up
  room_up k y ey =
      let e : to ≡ from + record_size = h.apart.up k in
      let i : from + (record_size + n) ≡ from + record_size + length part = omega (arith, part_long) in
      let d : drop (record_size + n) (drop from s) ≡ drop (from + record_size + length part) s = drop-drop (record_size + n) from s ∙ ap (λ (j : ℕ). drop j s) i in
      tail_back s from (omega (arith, h.old)) y
      ∙ rw (ey, tail_whole s from (omega (arith, h.old)), e, d, sets-parts s (from + record_size) part (omega (arith, part_long, h.new)), take-add from record_size s) (sym (append_assoc (take from s) (take record_size (drop from s)) (part ++ drop (from + record_size + length part) s)))

  pub room_down : to < from → (y : List ℕ) → y ≡ copied_down record_size 0 n (take (length s - to) (drop to s))
      → take to s ++ (y ++ drop (length s - to) (drop to s)) ≡ sets s to part
  unfolding copied_down
  room_down k y ey =
      let z : n - 0 ≡ n = omega arith in
      let i : to + (record_size + 0) ≡ from = omega (arith, h.apart.down k) in
      let f : drop (record_size + 0) (drop to s) ≡ drop from s = drop-drop (record_size + 0) to s ∙ ap (λ (j : ℕ). drop j s) i in
      let d : drop n (drop to s) ≡ drop (to + length part) s = drop-drop n to s ∙ ap (λ (j : ℕ). drop (to + j) s) (sym part_long) in
      tail_back s to (omega (arith, h.new)) y
      ∙ rw (ey, tail_whole s to (omega (arith, h.new)), z, f, d, sets-parts s to part (omega (arith, part_long, h.new)))

  pub room_kept : to ≤ from → from ≤ to → s ≡ sets s to part
  room_kept j k =
      let e : to ≡ from = omega arith in
      let d : drop (from + length part) s ≡ drop n (drop from s) = ap (λ (m : ℕ). drop (from + m) s) part_long ∙ sym (drop-drop n from s) in
      rw (e, sets-parts s from part (omega (arith, part_long, h.old)), d, take-append-drop n (drop from s)) (sym (take-append-drop from s))

-- a run of stores with what is before it and behind it known
stored : (c x y z v : List ℕ) (i : ℕ) → c ≡ x ++ (y ++ z) → length x ≡ i → length y ≡ length v → sets c i v ≡ x ++ (v ++ z)
stored c x y z v i e l k =
    let n : i + length v ≤ length c = rw (e, length-append, length-append) (omega arith) in
    let t : take i c ≡ x = ap (take i) e ∙ take_at x (y ++ z) i l in
    let d : drop (i + length v) c ≡ z = sym (drop-drop (length v) i c) ∙ ap (drop (length v)) (ap (drop i) e ∙ drop_at x (y ++ z) i l) ∙ drop_at y z (length v) k in
    sets-parts c i v n ∙ rw (t, d)

module _ {s list behind : List ℕ} {l : PairLayout} {kept : Kept} {fresh : ℕ} (h : GatePut s l list kept fresh behind) where
  abbrev middle : ℕ
  middle = l.order.middle

  abbrev third : ℕ
  third = l.order.end

  abbrev from : ℕ
  from = l.from

  abbrev size : ℕ
  size = kept.size

  abbrev groups : ℕ
  groups = group_count kept fresh

  abbrev own : List ℕ
  own = part_of middle third s

  abbrev front : List ℕ
  front = take size (drop from s)

  abbrev number : List ℕ
  number = number_bytes count_size groups

  abbrev moving : ℕ
  moving = third - middle + count_size + size

  pub gate_room : RoomReady s middle (length list) moving
  gate_room = record { apart = h.apart; old = omega (arith, h.old, h.begin, h.up_to); new = omega (arith, h.fits, h.room, h.up_to) }

  own_long : length own ≡ third - middle
  own_long = length-take-le (third - middle) (drop middle s) (rw length-drop (omega (arith, h.old, h.begin, h.up_to)))

  front_long : length front ≡ size
  front_long = length-take-le size (drop from s) (rw length-drop (omega (arith, h.old)))

  -- what is moved: B, the count behind it, the first groups
  moved_is : take moving (drop middle s) ≡ own ++ (take count_size (drop third s) ++ front)
  moved_is =
      let i : moving ≡ third - middle + (count_size + size) = omega arith in
      let j : middle + (third - middle) ≡ third = omega (arith, h.up_to) in
      ap (λ (n : ℕ). take n (drop middle s)) i ∙ take-add (third - middle) (count_size + size) (drop middle s)
      ∙ ap (λ (l : List ℕ). own ++ l) (rw (drop-drop (third - middle) middle s, j, take-add count_size size (drop third s), drop-drop count_size third s, ← h.begin))

  abbrev content : List ℕ
  content = with_gate s l list size groups behind

  content_long : length content ≡ length list + (third - middle) + count_size + size + length behind
  content_long = rw (length-append, length-append, length-append, length-append, own_long, front_long, number_bytes-length) (omega arith)

  -- what stands there moved, A, the count and the groups behind the first ones written, zeros behind them
  pub gate_put : (c₀ c₁ c₂ c₃ last : List ℕ) (at start end : ℕ) → c₀ ≡ sets s (length list) (take moving (drop middle s)) → c₁ ≡ sets c₀ 0 list
      → at ≡ length list + (third - middle) → c₂ ≡ sets c₁ at number → start ≡ at + count_size + size → c₃ ≡ sets c₂ start behind → end ≡ start + length behind
      → last ≡ zeroed end pair_size c₃
      → (end ≡ length content) × (last ≡ filled pair_size s content)
  gate_put c₀ c₁ c₂ c₃ last at start end e₀ e₁ ea e₂ es e₃ ee el =
      let k = h.fits in
      let m = h.room in
      let ol = own_long in
      let fl = front_long in
      let nl = number_bytes-length count_size groups in
      let two : List ℕ = take count_size (drop third s) in
      let tl : length two ≡ count_size = length-take-le count_size (drop third s) (rw length-drop (omega (arith, h.old, h.begin))) in
      let rl = part_long gate_room in
      let z : List ℕ = drop end s in
      let n : ℕ = length list in
      let room : n + moving + length behind ≤ length s = omega (arith, h.up_to) in
      let j : n + moving + length behind ≡ end = omega arith in
      let last-part : drop (n + moving) s ≡ take (length behind) (drop (n + moving) s) ++ z =
      sym (take-append-drop (length behind) (drop (n + moving) s)) ∙ ap (λ (l : List ℕ). take (length behind) (drop (n + moving) s) ++ l) (drop-drop (length behind) (n + moving) s ∙ ap (λ (i : ℕ). drop i s) j) in
      let spare : List ℕ = take (length behind) (drop (n + moving) s) in
      let sl : length spare ≡ length behind = length-take-le (length behind) (drop (n + moving) s) (rw length-drop (omega arith)) in
      let hl : length (take n s) ≡ n = length-take-le n s (omega arith) in
      let p₀ : c₀ ≡ take n s ++ ((own ++ (two ++ front)) ++ (spare ++ z)) =
      e₀ ∙ sets-parts s n (take moving (drop middle s)) (omega arith)
      ∙ ap (λ (i : ℕ). take n s ++ (take moving (drop middle s) ++ drop (n + i) s)) rl ∙ ap (λ (l : List ℕ). take n s ++ (take moving (drop middle s) ++ l)) last-part
      ∙ ap (λ (l : List ℕ). take n s ++ (l ++ (spare ++ z))) moved_is in
      let p₁ : c₁ ≡ list ++ ((own ++ (two ++ front)) ++ (spare ++ z)) = e₁ ∙ stored c₀ [] (take n s) ((own ++ (two ++ front)) ++ (spare ++ z)) list 0 p₀ refl hl in
      let q₁ : c₁ ≡ (list ++ own) ++ (two ++ (front ++ (spare ++ z))) =
      p₁ ∙ rw (append_assoc own (two ++ front) (spare ++ z), append_assoc two front (spare ++ z)) (sym (append_assoc list own (two ++ (front ++ (spare ++ z))))) in
      let la : length (list ++ own) ≡ at = length-append list own ∙ omega arith in
      let p₂ : c₂ ≡ (list ++ own) ++ (number ++ (front ++ (spare ++ z))) = e₂ ∙ stored c₁ (list ++ own) two (front ++ (spare ++ z)) number at q₁ la (omega arith) in
      let q₂ : c₂ ≡ ((list ++ own) ++ (number ++ front)) ++ (spare ++ z) =
      p₂ ∙ ap (λ (l : List ℕ). (list ++ own) ++ l) (sym (append_assoc number front (spare ++ z))) ∙ sym (append_assoc (list ++ own) (number ++ front) (spare ++ z)) in
      let lb : length ((list ++ own) ++ (number ++ front)) ≡ start = rw (length-append, length-append, length-append) (omega arith) in
      let p₃ : c₃ ≡ ((list ++ own) ++ (number ++ front)) ++ (behind ++ z) = e₃ ∙ stored c₂ ((list ++ own) ++ (number ++ front)) spare z behind start q₂ lb sl in
      let q₃ : c₃ ≡ content ++ z =
      p₃ ∙ append_assoc (list ++ own) (number ++ front) (behind ++ z) ∙ ap (λ (l : List ℕ). (list ++ own) ++ l) (append_assoc number front (behind ++ z) ∙ ap (λ (l : List ℕ). number ++ l) (sym (append_assoc front behind z)) ∙ sym (append_assoc number (front ++ behind) z))
      ∙ sym (append_assoc (list ++ own) (number ++ (front ++ behind)) z) in
      let cl : end ≡ length content = omega (arith, content_long) in
      let u : c₃ ≡ take end content ++ drop end s = q₃ ∙ ap (λ (l : List ℕ). l ++ z) (sym (take_all end content (omega arith))) in
      (cl, filled_is content s c₃ last end pair_size cl (omega arith) m u el)
