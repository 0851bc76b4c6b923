-- `number_at` meets its contract: the bytes of a number of four, zero before those that are read. Assumes nothing.
use native.Mathlib.Omega.{arith}
use mathlib.Core.Path.{◌≡◌, ap, ◌∙◌}
use mathlib.Core.List.{List}
use Prim.Native.Nat.{ℕ, ◌+◌, ◌-◌}
use lib.ListN.{take, drop, length-take, length-drop}
use lib.Seq.{length-take-le}
use Rattle.wire.proofs.Numbers.{width_most, number_read}
use Rattle.wire.proofs.number_at.Goals as goal

pub overflow_sub-bytes : goal.overflow_sub-bytes
overflow_sub-bytes c = width_most c.args.w c.requires.1

pub copy_from_slice-requires : goal.copy_from_slice-requires
copy_from_slice-requires c =
    let w = width_most c.args.w c.requires.1 in
    rw (length-take, length-drop, length-take, length-drop) (omega arith)

pub returns : goal.returns
returns c =
    let a = c.args in
    let s : List ℕ = drop a.at a.s.now in
    let n : a.at + a.w - a.at ≡ a.w = omega arith in
    let r : c.copy_from_slice.new.self ≡ take a.w s = c.copy_from_slice.ensures.after ∙ ap (λ (k : ℕ). take k s) n in
    c.from_be_bytes.ensures ∙ number_read a.w (take a.w s) c.copy_from_slice.new.self (width_most a.w c.requires.1) (length-take-le a.w s (rw length-drop (omega arith))) r
