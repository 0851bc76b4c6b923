-- The table of a sheet that passes check: what is written is a table, and each list has its rows there. Assumes nothing.
use mathlib.Core.Path.{◌≡◌, refl, ap, sym, subst, ◌∙◌}
use mathlib.Core.List.{List, [], ◌∷◌, ◌++◌, append_assoc}
use Prim.Native.Nat.{ℕ, suc, ◌+◌, ◌*◌, ◌-◌, ◌^◌, ◌<◌, ◌≤◌}
use native.Mathlib.Omega.{arith}
use lib.ListN.{length, get_or, take, drop, length-append}
use lib.Seq.{sets, drop-drop, take_at, drop_at, length-sets}
use Rattle.lists.specs.Lists.{Each}
use Rattle.lists.proofs.Lists.{append-none, sets-append, sets-parts, each_append, each_imp, each_take, each-drop, each_every}
use Rattle.policy.specs.Fields.{highest}
use Rattle.policy.specs.Ranges.{Region, proper}
use Rattle.policy.specs.Rules.{Proper, denies}
use Rattle.policy.specs.Move.{Pair, together}
use Rattle.policy.specs.Demands.{group_at}
use Rattle.policy.specs.Steps.{regions}
use Rattle.policy.proofs.Places.{together_each}
use Rattle.wire.specs.Records.{each_in}
use Rattle.wire.proofs.Items.{bytes-append}
use Rattle.sheet.specs.Steps.{pair_at}
use Rattle.sheet.specs.declared.PairLayout.{PairLayout}
use Rattle.sheet.proofs.Pairs.{ProperGroup}
use Rattle.origins.specs.Steps.{Checked, Denies, front_of, Holds}
use Rattle.origins.proofs.Searches.{regions-length}
use Rattle.origins.proofs.Deciding.{good, gate_proper, own_proper}
use Rattle.origins.proofs.Tracing.{gate_length, own_length}
use Rattle.rows.specs.Steps.{row_size, row_numbers, rows_numbers, row_in, rows_in, fronts_at, table_size, all_boxes, Fronts, Tabled}
use Rattle.rows.proofs.Rows.{rows-length, rows_back}
use Rattle.rows.proofs.Fronts.{front_most, boxes_parts, front_next, above_sets}

-- Items that are read as a list, and a stretch of them.
module _ {A : Type 0} (size : ℕ) (read : List ℕ → A) where
  front_read : (g y : List A) (t : List ℕ) → each_in size read (length (g ++ y)) t ≡ g ++ y → each_in size read (length g) t ≡ g
  unfolding each_in
  front_read [] y t e = refl
  front_read (b ∷ g) y t e =
      let h : read t ≡ b = cc in
      let r : each_in size read (length (g ++ y)) (drop size t) ≡ g ++ y = cc in
      rw (h, front_read g y (drop size t) r)

  stretch_read : (x g y : List A) (t : List ℕ) → each_in size read (length (x ++ (g ++ y))) t ≡ x ++ (g ++ y) → each_in size read (length g) (drop (size * length x) t) ≡ g
  unfolding each_in
  stretch_read [] g y t e =
      let z : size * 0 ≡ 0 = omega arith in
      rw z (front_read g y t e)
  stretch_read (b ∷ x) g y t e =
      let r : each_in size read (length (x ++ (g ++ y))) (drop size t) ≡ x ++ (g ++ y) = cc in
      let z : size * suc (length x) ≡ size + size * length x = omega arith in
      rw (z, ← drop-drop (size * length x) size t) (stretch_read x g y (drop size t) r)

each_stretch : {A : Type 0} (P : A → Type 0) (x g y : List A) → Each P (x ++ (g ++ y)) → Each P g
each_stretch P x g y h =
    rw (drop_at x (g ++ y) (length x) refl, take_at g y (length g) refl) at (each_take P (length g) (drop (length x) (x ++ (g ++ y))) (each-drop P (length x) (x ++ (g ++ y)) h))

-- Three runs of stores, each where the one before it ends.
stored_three : (t a b d u v w : List ℕ) (m n : ℕ) → length a ≡ m → length b ≡ n → u ≡ sets t 0 a → v ≡ sets u m b → w ≡ sets v (m + n) d → w ≡ sets t 0 (a ++ (b ++ d))
stored_three t a b d u v w m n la lb eu ev ew =
    let x : 0 + length a ≡ m = omega arith in
    ew ∙ rw (ev, eu) (sym (sets-append t 0 a (b ++ d) ∙ (sets-append (sets t 0 a) (0 + length a) b d ∙ rw (x, lb))))

module _ {s : List ℕ} {l : PairLayout} (c : Checked s l) where
  abbrev q : Pair
  q = pair_at l s

  abbrev gate : List Region
  gate = regions q.order.gate

  abbrev boxes : List Region
  boxes = together q.groups

  abbrev own : List Region
  own = regions q.order.own

  pub groups_proper : Each (Each Proper) q.groups
  groups_proper = each_imp ProperGroup (Each Proper) q.groups (λ g h. each_every (proper highest) Proper (λ b e. e) g h) (good s q c.checks).groups.boxes

  boxes_proper : Each Proper boxes
  boxes_proper = together_each Proper q.groups groups_proper

  all_proper : Each Proper (all_boxes q)
  unfolding all_boxes
  all_proper = each_append Proper gate (boxes ++ own) (gate_proper s q c.checks) (each_append Proper boxes own boxes_proper (own_proper s q c.checks))

  gate-length : length gate ≡ l.order.gate
  gate-length = regions-length q.order.gate ∙ gate_length c

  own-length : length own ≡ l.order.own
  own-length = regions-length q.order.own ∙ own_length c

  boxes-length : length boxes ≡ l.boxes
  boxes-length = sym c.laid.boxes_are

  all-length : length (all_boxes q) ≡ l.order.gate + (l.boxes + l.order.own)
  unfolding all_boxes
  all-length = rw (length-append gate (boxes ++ own), length-append boxes own, gate-length, boxes-length, own-length)

  -- they end where the fronts begin
  all_below : row_size * length (all_boxes q) ≤ fronts_at
  all_below = omega (arith, all-length, c.laid.lists.gate_limit, c.laid.total_limit)

  all_numbers : rows_numbers (all_boxes q) ≡ rows_numbers gate ++ (rows_numbers boxes ++ rows_numbers own)
  unfolding all_boxes
  all_numbers = bytes-append row_numbers gate (boxes ++ own) ∙ ap (λ (x : List ℕ). rows_numbers gate ++ x) (bytes-append row_numbers boxes own)

  -- What is written.
  module _ (t : List ℕ) (room : table_size ≤ length t) (there : Fronts q t) where
    pub table_put : {m : ℕ} → m ≡ l.order.gate → {x y : List Region} {u v w : List ℕ} → x ≡ gate → y ≡ own → u ≡ sets t 0 (rows_numbers x)
        → v ≡ sets u (row_size * m) (rows_numbers boxes) → w ≡ sets v (row_size * (m + l.boxes)) (rows_numbers y) → Tabled s l w
    table_put {m} em {u = u} {v = v} {w = w} ex ey eu ev ew =
        let a : length (rows_numbers gate) ≡ row_size * m = rows-length gate (gate_proper s q c.checks) ∙ ap (λ (n : ℕ). row_size * n) (gate-length ∙ sym em) in
        let b : length (rows_numbers boxes) ≡ row_size * l.boxes = rows-length boxes boxes_proper ∙ ap (λ (n : ℕ). row_size * n) boxes-length in
        let k : row_size * (m + l.boxes) ≡ row_size * m + row_size * l.boxes = omega arith in
        let n : List ℕ = rows_numbers (all_boxes q) in
        let is : w ≡ sets t 0 n =
        stored_three t (rows_numbers gate) (rows_numbers boxes) (rows_numbers own) u v w (row_size * m) (row_size * l.boxes) a b
        (eu ∙ ap (λ (r : List Region). sets t 0 (rows_numbers r)) ex) ev
        (ew ∙ (ap (λ (r : List Region). sets v (row_size * (m + l.boxes)) (rows_numbers r)) ey ∙ ap (λ (at : ℕ). sets v at (rows_numbers own)) k))
        ∙ ap (sets t 0) (sym all_numbers) in
        let z = rows-length (all_boxes q) all_proper in
        let f = sets-parts t 0 n (omega (arith, all_below, room)) in
        let long = ap length is ∙ length-sets t 0 n in
        record {
          long = omega (arith, room);
          rows = subst (λ (x : List ℕ). rows_in (length (all_boxes q)) x ≡ all_boxes q) (sym (is ∙ f)) (rows_back (all_boxes q) (drop (0 + length n) t) all_proper);
          fronts = λ j h. ap (λ (x : List ℕ). get_or x (fronts_at + j) 0) is ∙ (above_sets fronts_at t n j (omega (arith, all_below)) ∙ there j h);
        }

  -- What is read.
  module _ {table : List ℕ} (t : Tabled s l table) where
    stretch : length table < 2 ^ 64 → (x g y : List Region) → all_boxes q ≡ x ++ (g ++ y) → (k n : ℕ) → length x ≡ k → length g ≡ n
        → Holds row_size row_in table (record { from = row_size * k; step = row_size; count = n }) g
    stretch fits x g y e k n ek en =
        let f = subst (λ (b : List Region). rows_in (length b) table ≡ b) e t.rows in
        record {
          apart = omega arith;
          inside = omega (arith, t.long, all_below, ap length e, length-append x (g ++ y), length-append g y);
          fits = fits;
          are = rw (← ek, ← en) (stretch_read row_size row_in x g y table f);
          proper = each_stretch Proper x g y (subst (Each Proper) e all_proper);
        }

    pub gate_run : length table < 2 ^ 64 → Holds row_size row_in table (record { from = 0; step = row_size; count = l.order.gate }) gate
    unfolding all_boxes
    gate_run fits = stretch fits [] gate (boxes ++ own) refl 0 l.order.gate refl gate-length

    pub own_run : length table < 2 ^ 64 → Holds row_size row_in table (record { from = row_size * (l.order.gate + l.boxes); step = row_size; count = l.order.own }) own
    unfolding all_boxes
    own_run fits =
        stretch fits (gate ++ boxes) own [] (rw (append-none own) (sym (append_assoc gate boxes own))) (l.order.gate + l.boxes) l.order.own
        (rw (length-append gate boxes, gate-length, boxes-length)) own-length

    -- The group of a deny rule: it ends where the next rule's front is.
    module _ {j : ℕ} (deny : Denies q j) where
      pub fronts_inside : fronts_at + (j + 1) < length table
      fronts_inside = omega (arith, deny.0, gate_length c, c.laid.lists.gate_limit, t.long)

      module _ {front next : ℕ} (is : front ≡ get_or table (fronts_at + j) 0) (then : next ≡ get_or table (fronts_at + (j + 1)) 0) where
        abbrev earlier : ℕ
        earlier = denies (take j q.order.gate)

        pub front_is : front ≡ front_of q j
        front_is = is ∙ t.fronts j (omega (arith, deny.0))

        next_is : next ≡ front + length (group_at q j)
        next_is =
            let e = then ∙ t.fronts (j + 1) (omega (arith, deny.0)) in
            omega (arith, front_is, front_next q j deny.0 (good s q c.checks).counted deny.1)

        pub front_below : front ≤ next
        front_below = omega (arith, next_is)

        pub next_few : next ≤ l.boxes
        next_few = omega (arith, then, t.fronts (j + 1) (omega (arith, deny.0)), front_most q (j + 1), boxes-length)

        pub group_run : length table < 2 ^ 64 → Holds row_size row_in table (record { from = row_size * (l.order.gate + front); step = row_size; count = next - front }) (group_at q j)
        unfolding all_boxes
        group_run fits =
            let b = boxes_parts q j deny.0 (good s q c.checks).counted deny.1 in
            let x : List Region = together (take earlier q.groups) in
            let y : List Region = together (drop (suc earlier) q.groups) in
            let e : all_boxes q ≡ (gate ++ x) ++ (group_at q j ++ (y ++ own)) =
            ap (λ (z : List Region). gate ++ (z ++ own)) b ∙ rw (append_assoc x (group_at q j ++ y) own, append_assoc (group_at q j) y own) (sym (append_assoc gate x (group_at q j ++ (y ++ own)))) in
            stretch fits (gate ++ x) (group_at q j) (y ++ own) e (l.order.gate + front) (next - front)
            (length-append gate x ∙ omega (arith, gate-length, front_is)) (omega (arith, next_is))
