-- An edit of A, or of B, once the new list is made in a buffer of its own or in the work buffer. Assumes nothing.
use Rattle.std.specs.Prelude.{Ok, Err}
use mathlib.Core.Path.{◌≡◌, refl, ap, sym, subst, ◌∙◌}
use mathlib.Core.List.{List, ◌++◌, append_assoc}
use Prim.Native.Nat.{ℕ, ◌+◌, ◌*◌, ◌-◌, ◌≤◌, ◌<◌}
use native.Mathlib.Omega.{arith}
use lib.Dec.{ltb}
use lib.ListN.{length, take, drop, get_or, length-append}
use lib.Seq.{take_all, drop_at, length-take-le}
use borrow.Author.Tests.{lt-ltb, le-ltb}
use Rattle.lists.proofs.Lists.{drop-sets, three-parts}
use Rattle.policy.specs.Fields.{box_size, count_size, record_size, limits, work_size}
use Rattle.policy.specs.Rules.{Rule, denies}
use Rattle.policy.specs.Refusals.{Answer, accepted, refused, unless, given, number_of}
use Rattle.policy.specs.Move.{alone, room, work, Order, Pair}
use Rattle.policy.specs.Edit.{Kind, out, put, front, gone, back, changed, around, new_order, new_slots}
use Rattle.policy.specs.declared.Refusal.{Refusal}
use Rattle.policy.proofs.Edits.{kept_boxes, kept_over}
use Rattle.wire.specs.Lists.{list_size, list_bytes}
use Rattle.wire.specs.Buffers.{filled, written, length_of}
use Rattle.wire.proofs.Lists.{list_rules_lem}
use Rattle.wire.proofs.Records.{rules_in-length}
use Rattle.sheet.specs.Orders.{order_in, order_bytes, gate_size, list_in}
use Rattle.sheet.specs.Pairs.{pair_bytes, pair_size}
use Rattle.sheet.specs.Steps.{rules_of, order_at, OrderRead, pair_at, groups_from, ListRead}
use Rattle.sheet.specs.declared.PairLayout.{PairLayout}
use Rattle.sheet.specs.declared.Section.{Section}
use Rattle.sheet.proofs.Orders.{order_again}
use Rattle.sheet.proofs.Pairs.{denies_most}
use Rattle.sheet.proofs.Accepted.{ListAccepted, list_accepted}
use Rattle.sheet.proofs.Parts.{bytes_of}
use Rattle.lists.specs.Lists.{Each}
use Rattle.wire.specs.Numbers.{Byte}
use Rattle.wire.proofs.Numbers.{bytes_take}
use mir.Val.{Fits}
use mir.Syntax.{w8}
use Rattle.promises.specs.Edits.{Asked, asked, request, kind_of, edit_of, edited_of}
use Rattle.promises.specs.Steps.{Writes}
use Rattle.promises.specs.declared.Change.{Change}
use Rattle.kept.specs.Steps.{run_size, GroupsHeld}
use Rattle.kept.proofs.Runs.{run_length}
use Rattle.edit_list.specs.Steps.{new_bytes}
use Rattle.edit_list.proofs.Changes.{taken_is, change_refused}
use Rattle.edit_sheet.specs.Steps.{order_with, groups_at, with_own, OwnPut}
use Rattle.edit_groups.specs.Steps.{around_of, AroundReady, slots_around, Placed, AllAnew, layout_of, slotted, Regrouping, Regrouped}
use Rattle.edit_groups.specs.declared.Around.{Around}
use Rattle.edit_groups.proofs.Settled.{part_is}
use Rattle.edit_groups.proofs.Slots.{around-length, gate_slots_lem, gate_placed, gate_wide}
use Rattle.editing.specs.Steps.{Revised}
use Rattle.editing.proofs.Parts.{list_first, known, own_long, gate_bytes_lem, own_bytes_lem, parts_there, gate_there}
use Rattle.editing.proofs.Changed.{bytes_new, ChangedList, changed_list, Renewed, list_renewed}
use Rattle.editing.proofs.Made.{Made}
use Rattle.editing.proofs.Revised as revised

module _ (sheet : List ℕ) (l : PairLayout) (place : ℕ) (change : Change) (new : List ℕ) where
  abbrev s : List ℕ
  s = take l.end sheet

  abbrev p : Pair
  p = pair_at l s

  abbrev o : Order
  o = p.order

  abbrev n : ℕ
  n = l.order.gate

  abbrev m : ℕ
  m = l.order.own

  abbrev middle : ℕ
  middle = l.order.middle

  abbrev third : ℕ
  third = l.order.end

  abbrev from : ℕ
  from = l.from

  abbrev count : ℕ
  count = l.groups

  abbrev boxes : ℕ
  boxes = l.boxes

  abbrev k : Kind
  k = kind_of change new

  -- what is asked of one list or the other, and what becomes of a list
  abbrev q : ℕ → Asked
  q which = asked (request which place change) new

  abbrev l' : List Rule → List Rule
  l' list = changed place k list

  pub gate_refused : {list list' : List ℕ} {f : Refusal} → Made sheet l o.gate n place change new list (Err f) list' → edited_of limits s (q 0) ≡ refused (number_of f)
  gate_refused {f = f} made = revised.revised_refused made.read (request 0 place change) new refl n (known sheet made.read made.inside).gate_count (list_bytes o.gate) f made.changed

  module _ {list list' : List ℕ} {end : ℕ} (made : Made sheet l o.gate n place change new list (Ok end) list') (roomy : gate_size + record_size ≤ length list) where
    gates : revised.ListsKnown o n m
    gates = known sheet made.read made.inside

    groups_long : length (drop from s) ≡ run_size count (drop from s)
    groups_long = ap length (sym made.read.group_bytes) ∙ run_length count (drop from s) made.read.good.groups.boxes

    groups_held : GroupsHeld (drop from s) count
    groups_held =
        let e = groups_long in
        record {
          boxes = made.read.good.groups.boxes;
          bytes = made.read.group_bytes ∙ sym (take_all (run_size count (drop from s)) (drop from s) (omega arith));
          there = omega arith;
          few = omega (arith, made.read.laid.total_limit, made.read.laid.boxes_are);
        }

    groups_are_lem : groups_at l sheet ≡ drop from s
    groups_are_lem = part_is from l.end sheet (parts_there sheet made.read made.inside).3 made.inside

    gate_changed : ChangedList o.gate n limits.gate place change new list list' end
    gate_changed = let g = made.read.laid.lists.gate_limit in changed_list gates.gate gates.gate_count (omega arith) made.whole (omega arith) made.changed

    abbrev t : List ℕ
    t = take end list'

    pub gate_end : end ≤ length list
    gate_end = gate_changed.done.inside

    pub gate_refuses : (f : Refusal) → list_in limits.gate t ≡ refused (number_of f) → edited_of limits s (q 0) ≡ refused (number_of f)
    gate_refuses f e = revised.revised_refuses made.read (request 0 place change) new refl n gates.gate_count gate_changed.done.found gate_changed.done.whole made.read.good.gate (l' o.gate) (number_of f) (sym gate_changed.reads ∙ e)

    -- The new A is in bytes of the old one, of the record and of its count.
    gate_new_bytes : ((i : ℕ) → Fits w8 (get_or sheet i 0)) → Each Byte t
    gate_new_bytes bytes =
        let old : Each Byte (list_bytes o.gate) = rw (gate_bytes_lem sheet made.read made.inside) at (bytes_take middle sheet (bytes_of sheet bytes)) in
        rw gate_changed.done.bytes (bytes_new new (list_bytes o.gate) n place change old made.whole)

    pub gate_accepted : {d : Section} → ((i : ℕ) → Fits w8 (get_or sheet i 0)) → ListRead limits.gate t (Ok d) → ListAccepted limits.gate t d
    gate_accepted bytes x = list_accepted x (gate_new_bytes bytes) _ refl

    module _ {d : Section} (b : ListAccepted limits.gate t d) where
      abbrev n' : ℕ
      n' = d.count

      renewed : Renewed o.gate (l' o.gate) n limits.gate place change t n'
      renewed = list_renewed gates.gate_count gate_changed b

      -- the new order sheet: the new A, and B as it stands in the sheet
      abbrev order : List ℕ
      order = order_with t l sheet

      order_is : order ≡ list_bytes (l' o.gate) ++ list_bytes o.own
      order_is = rw (gate_changed.bytes, own_bytes_lem sheet made.read made.inside)

      front_new : rules_of n' order ≡ l' o.gate
      front_new = ap (rules_of n') order_is ∙ ap (λ (j : ℕ). rules_of j (list_bytes (l' o.gate) ++ list_bytes o.own)) (sym renewed.count) ∙ list_first (l' o.gate) (list_bytes o.own) gate_changed.fits.rules

      own_new : rules_of m (drop (list_size n') order) ≡ o.own
      own_new =
          let e : drop (list_size n') order ≡ list_bytes o.own = ap (drop (list_size n')) order_is ∙ drop_at (list_bytes (l' o.gate)) (list_bytes o.own) (list_size n') (omega (arith, ap length gate_changed.bytes, renewed.size)) in
          ap (rules_of m) e ∙ ap (λ (j : ℕ). rules_of j (list_bytes o.own)) (sym gates.own_count) ∙ list_rules_lem o.own gates.own.rules

      lists_new : order_at (layout_of n' m) order ≡ new_order (edit_of (q 0)) o
      lists_new = rw (front_new, own_new)

      long_is : length order ≡ list_size n' + list_size m
      long_is = ap length order_is ∙ length-append (list_bytes (l' o.gate)) (list_bytes o.own) ∙ omega (arith, ap length gate_changed.bytes, renewed.size, own_long sheet made.read made.inside)

      order_read : OrderRead order (Ok (layout_of n' m))
      unfolding order_bytes
      order_read = record {
        says = rw lists_new (sym (ap (order_in limits) order_is ∙ order_again limits (new_order (edit_of (q 0)) o) (omega arith) (omega arith) renewed.clean made.read.good.own));
        laid = record {
          lists = record { gate_end = refl; own_end = refl; inside = omega (arith, long_is); gate_limit = renewed.limit; own_limit = made.read.laid.lists.own_limit };
          whole = sym long_is;
        };
      }

      there : place + out k ≤ length o.gate
      there = omega (arith, taken_is change new, renewed.there)

      pub gate_around : AroundReady s l place change t n'
      gate_around = record {
        gate_there = omega (arith, (gate_there sheet made.read made.inside).3, length-take-le l.end sheet made.inside);
        groups_are = made.read.laid.groups_are;
        list_there = omega (arith, renewed.size);
        taken = gate_changed.done.found;
        put = renewed.put;
      }

      abbrev v : Around
      v = around_of place change (rules_of n s) (rules_of n' t)

      rules_are : v.count ≡ n'
      unfolding around_of
      rules_are = rules_in-length n' (drop count_size t)

      groups_count_is : v.groups ≡ count
      unfolding around_of
      groups_count_is = sym made.read.laid.groups_are

      -- where the groups come from, and that they are those of the edit
      slots_are : slots_around alone v (drop from s) (drop count_size t) ≡ new_slots (edit_of (q 0)) p
      slots_are =
          rw renewed.rules (gate_slots_lem alone place change new o.gate there (drop from s) (drop count_size t) n' renewed.rules)
          ∙ ap (λ (j : ℕ). around alone (front place o.gate) (gone place k o.gate) (put k) (back place k o.gate) (groups_from j (drop from s))) (sym made.read.laid.groups_are)

      slots_placed : Placed v
      slots_placed = rw renewed.rules (gate_placed alone place change new o.gate there (drop from s) (drop count_size t) n' renewed.rules renewed.limit)

      slots_counted : length (new_slots (edit_of (q 0)) p) ≡ denies (rules_of n' t)
      slots_counted =
          let g : List Rule = o.gate in
          let c : length p.groups ≡ denies (front place g ++ (gone place k g ++ back place k g)) = rw (three-parts place (out k) g) made.read.good.counted in
          rw renewed.rules (around-length alone (front place g) (gone place k g) (put k) (back place k g) p.groups c)

      -- with more than one rule to work out, none is kept behind the place
      slots_wide : v.place + 1 < v.to → AllAnew v
      slots_wide = rw renewed.rules (gate_wide alone place change new o.gate there (drop from s) (drop count_size t) n' renewed.rules)

      gate_edited : edited_of limits s (q 0) ≡ slotted (order_at (layout_of n' m) order) (slots_around alone v (drop from s) (drop count_size t))
      gate_edited =
          revised.revised_slotted made.read (request 0 place change) new refl n gates.gate_count gate_changed.done.found gate_changed.done.whole made.read.good.gate renewed.clean
          ∙ rw (lists_new, slots_are)

      module _ {v' : Around} (same : v' ≡ v) where
        pub gate_regrouping : {w : List ℕ} → pair_size ≤ length sheet → work_size ≤ length w → Regrouping alone sheet l t v' w
        gate_regrouping {w} h j =
            let g = made.read.laid.lists.gate_end in
            let d = parts_there sheet made.read made.inside in
            subst (λ (x : Around). Regrouping alone sheet l t x w) (sym same)
            (record {
              reads = rw rules_are order_read;
              long = rw rules_are (omega (arith, renewed.size));
              front = rw rules_are (front_new ∙ sym renewed.rules);
              held = rw (groups_are_lem, groups_count_is) groups_held;
              placed = slots_placed;
              counted = rw (groups_are_lem, rules_are) (ap length slots_are ∙ slots_counted);
              all = rw (groups_are_lem, groups_count_is) made.read.laid.boxes_are;
              exact = rw (groups_are_lem, groups_count_is) groups_long;
              wide = slots_wide;
              up_to = d.0;
              begin = d.2;
              within = d.3;
              end = made.inside;
              apart = record { up = λ i. omega (arith, renewed.size, renewed.more, i); down = λ i. omega (arith, renewed.size, renewed.less, i) };
              sheet_room = h;
              work_room = j;
            })

        pub gate_done : {w w' sheet' : List ℕ} {x : Answer} → Regrouped alone sheet l t v' w x sheet' w' → Revised sheet l.end (q 0) w x sheet' w'
        gate_done y =
            let e : slotted (order_at (layout_of v'.count m) order) (slots_around alone v' (groups_at l sheet) (drop count_size t)) ≡ edited_of limits s (q 0) =
            rw (same, rules_are, groups_are_lem) (sym gate_edited) in
            rw e at y

  abbrev p' : Pair
  p' = record { order = new_order (edit_of (q 1)) o; groups = p.groups }

  pub own_refused : {w w' : List ℕ} {f : Refusal} → Made sheet l o.own m place change new w (Err f) w' → (edited_of limits s (q 1) ≡ refused (number_of f)) × (drop work_size w' ≡ drop work_size w)
  own_refused {f = f} made = (
    revised.revised_refused made.read (request 1 place change) new refl m (known sheet made.read made.inside).own_count (list_bytes o.own) f made.changed,
    ap (drop work_size) (change_refused {A = ℕ} (accepted 0) (list_bytes o.own) m place change new f made.changed).1,
  )

  module _ {w w' : List ℕ} {end : ℕ} (made : Made sheet l o.own m place change new w (Ok end) w') (roomy : work_size ≤ length w) where
    owns : revised.ListsKnown o n m
    owns = known sheet made.read made.inside

    -- what the sheet's size is, with as many boxes and other own rules
    sheet_long : (middle + list_size m ≡ third) × (third ≤ l.end) × (l.end - third ≡ count_size + (count_size * count + box_size * boxes)) × (middle ≤ gate_size) × (count ≤ limits.gate)
    sheet_long =
        let a = made.read.laid in (
          omega (arith, a.lists.own_end),
          (parts_there sheet made.read made.inside).1,
          omega (arith, a.begin, a.groups_end),
          omega (arith, a.lists.gate_end, a.lists.gate_limit),
          omega (arith, a.groups_are, denies_most o.gate, owns.gate_count, a.lists.gate_limit),
        )

    own_changed : ChangedList o.own m limits.own place change new w w' end
    own_changed = let g = made.read.laid.lists.own_limit in changed_list owns.own owns.own_count (omega arith) made.whole (omega arith) made.changed

    pub own_end : end ≤ length w
    own_end = own_changed.done.inside

    pub own_beyond : drop work_size w' ≡ drop work_size w
    own_beyond = ap (drop work_size) own_changed.done.result ∙ drop-sets work_size w 0 (new_bytes (list_bytes o.own) m place change new) (omega (arith, own_changed.done.long, own_changed.done.short, own_long sheet made.read made.inside, made.read.laid.lists.own_limit))

    pub own_refuses : (f : Refusal) → list_in limits.own (take end w') ≡ refused (number_of f) → edited_of limits s (q 1) ≡ refused (number_of f)
    own_refuses f e = revised.revised_refuses made.read (request 1 place change) new refl m owns.own_count own_changed.done.found own_changed.done.whole made.read.good.own (l' o.own) (number_of f) (sym own_changed.reads ∙ e)

    module _ {d : Section} (b : ListAccepted limits.own (take end w') d) where
      abbrev m' : ℕ
      m' = d.count

      own_renewed : Renewed o.own (l' o.own) m limits.own place change (take end w') m'
      own_renewed = list_renewed owns.own_count own_changed b

      -- no group is worked out anew, so that only 7 is left
      own_edited : edited_of limits s (q 1) ≡ unless (given (ltb limits.total (boxes + m')) 7) p'
      unfolding slotted room work
      own_edited =
          revised.revised_slotted made.read (request 1 place change) new refl m owns.own_count own_changed.done.found own_changed.done.whole made.read.good.own own_renewed.clean
          ∙ rw (kept_over limits.pieces p.groups, kept_boxes p.groups, own_renewed.count, ← made.read.laid.boxes_are)

      pub own_seven : limits.total < boxes + m' → edited_of limits s (q 1) ≡ refused 7
      own_seven h = own_edited ∙ rw (lt-ltb limits.total (boxes + m') h)

      module _ (within : boxes + m' ≤ limits.total) (sheet_room : pair_size ≤ length sheet) where
        accepted_is : edited_of limits s (q 1) ≡ accepted p'
        accepted_is = own_edited ∙ rw (le-ltb limits.total (boxes + m') within)

        pub own_put : OwnPut sheet l (take end w')
        own_put =
            let p = sheet_long in
            record {
              apart = record { up = λ h. omega (arith, own_renewed.size, own_renewed.more, p.0, h); down = λ h. omega (arith, own_renewed.size, own_renewed.less, p.0, h) };
              up_to = omega (arith, p.0);
              inside = p.1;
              old = omega (arith, p.0, p.1, p.2, p.3, p.4, made.read.laid.total_limit, made.read.laid.lists.own_limit);
              new = omega (arith, own_renewed.size, p.0, p.1, p.2, p.3, p.4, within, own_renewed.limit);
              room = sheet_room;
            }

        -- the new pair sheet is the old one with the new B in it
        pair_is : with_own sheet l (take end w') ≡ pair_bytes p'
        unfolding pair_bytes order_bytes
        pair_is =
            let e : take (l.end - third) (drop third sheet) ≡ drop third s = part_is third l.end sheet sheet_long.1 made.inside in
            rw (gate_bytes_lem sheet made.read made.inside, own_changed.bytes, e, ← made.read.section_bytes) (sym (append_assoc (list_bytes o.gate) (list_bytes (l' o.own)) _))

        pub own_done : {sheet' : List ℕ} {k : ℕ} → (k ≡ length (with_own sheet l (take end w'))) × (sheet' ≡ filled pair_size sheet (with_own sheet l (take end w')))
            → Writes pair_bytes pair_size (edited_of limits s (q 1)) sheet w (Ok k) sheet' w'
        unfolding length_of written
        own_done e = record {
          answer = rw (accepted_is, ← pair_is, e.0);
          result = rw (accepted_is, ← pair_is) e.1;
          beyond = own_beyond;
        }
