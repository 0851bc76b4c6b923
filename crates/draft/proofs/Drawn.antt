-- What a draft says of the slots behind groups of so many boxes: 6; or how many boxes there are and, while they are within the
-- total, that its bytes are the groups' bytes. Assumes nothing.
use mathlib.Core.Path.{◌≡◌, sym}
use mathlib.Core.List.{List}
use mathlib.Core.Bool.{true, false}
use Prim.Native.Nat.{ℕ, ◌+◌, ◌≤◌}
use native.Mathlib.Omega.{arith}
use lib.ListN.{length, take, drop, length-map}
use lib.Seq.{sets, sets-eq, take_at}
use Rattle.lists.specs.Lists.{Each}
use Rattle.policy.specs.Fields.{limits}
use Rattle.policy.specs.Move.{Slot, boxes_of, together, any_over, groups_of}
use Rattle.sheet.specs.Pairs.{groups_bytes}
use Rattle.sheet.proofs.Pairs.{ProperGroup}
use Rattle.draft.specs.Steps.{Begins, Told, Drafting, draft_size}
use Rattle.draft.specs.declared.Drafted.{Drafted}
use Rattle.std.specs.Prelude.{Result, Ok, Err}
use Rattle.policy.specs.declared.Refusal.{Refusal}
use Rattle.policy.specs.declared.Refusal.TheVariants.{TooManyPieces}
use Rattle.sheet.proofs.Pairs.{groups-length}

module _ {l : List Slot} {draft draft' : List ℕ} {front : ℕ} where
  pub drawn_over : {f : Refusal} → Drafting limits l draft 0 front (Err f) draft' → (f ≡ TooManyPieces) × (any_over limits.pieces l ≡ true)
  unfolding Told
  drawn_over x = x.told

  module _ {d : Drafted} (x : Drafting limits l draft 0 front (Ok d) draft') where
    pub drawn_light : any_over limits.pieces l ≡ false
    unfolding Told
    drawn_light = x.told.0

    pub drawn_boxes : d.boxes ≡ front + length (together (groups_of l))
    unfolding Told
    drawn_boxes = x.told.1

    module _ (few : d.boxes ≤ limits.total) (proper : Each ProperGroup (groups_of l)) (short : length l ≤ limits.gate) (room : draft_size ≤ length draft) where
      bytes_drawn : (d.end ≡ 0 + length (groups_bytes (groups_of l))) × (draft' ≡ sets draft 0 (groups_bytes (groups_of l)))
      unfolding Told
      bytes_drawn = x.told.2 few

      pub drawn_end : d.end ≤ length draft
      drawn_end = omega (arith, bytes_drawn.0, groups-length (groups_of l) proper, length-map l boxes_of, drawn_boxes)

      pub drawn_content : take d.end draft' ≡ groups_bytes (groups_of l)
      drawn_content =
          let e = bytes_drawn in
          let g : List ℕ = groups_bytes (groups_of l) in
          let z : 0 + length g ≡ length g = omega arith in
          rw (e.1, sets-eq g draft 0 (omega (arith, drawn_end)), e.0) (take_at g (drop (0 + length g) draft) (0 + length g) (sym z))

-- What drafting says of slots behind groups of so many boxes, whose bytes then begin a buffer.
pub record Behind (l : List Slot) (boxes : ℕ) (r : Result Drafted Refusal) (s : List ℕ) : Type 0 where
  pub told : Told limits l boxes (Begins s (groups_bytes (groups_of l))) r

-- all of it, once the groups are known to be proper
pub drawn_behind : {l : List Slot} {draft draft' : List ℕ} {front : ℕ} (r : Result Drafted Refusal) → Drafting limits l draft 0 front r draft' → length draft' ≡ length draft
    → Each ProperGroup (groups_of l) → length l ≤ limits.gate → draft_size ≤ length draft → Behind l front r draft'
unfolding Told
drawn_behind (Err f) x k proper short room = record { told = drawn_over x }
drawn_behind (Ok d) x k proper short room = record {
  told = (drawn_light x, drawn_boxes x, λ t. (omega (arith, drawn_end x t proper short room), drawn_content x t proper short room));
}
