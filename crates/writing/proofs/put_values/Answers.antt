-- Each turn stores the bytes of the value that comes next.
use mathlib.Core.Path.{◌≡◌, refl, ◌∙◌}
use mathlib.Core.List.{List, [], ◌∷◌}
use Prim.Native.Nat.{ℕ, ◌+◌, ◌*◌, ◌<◌}
use native.Mathlib.Numerals.{add-one}
use native.Mathlib.Omega.{arith}
use lib.IntN.{ℤ, pos}
use lib.ListN.{length, get_or, take}
use lib.Seq.{sets, take-suc, length-take-le}
use mir.Syntax.{w32}
use mir.Val.{to_z, of_z}
use mir.Facts.{to_z-of_z}
use Rattle.numbers.proofs.Buffers.{sets_append}
use Rattle.sheet.specs.Bytes.{value_size, le16, bits16, value_bytes}
use Rattle.sheet.proofs.Bytes.{length_values}
use Rattle.sheet.proofs.Sheets.{values_append}
use Rattle.writing.proofs.put_values.Goals as goal

-- n values are stored, and then the one after them
turn : (l k : List ℕ) (values : List ℤ) (p n : ℕ) → n < length values → k ≡ sets l p (value_bytes (take n values))
    → sets k (p + value_size * n) (le16 (bits16 (get_or values n (pos 0)))) ≡ sets l p (value_bytes (take (n + 1) values))
unfolding value_bytes
turn l k values p n h e =
    let z = get_or values n (pos 0) in
    let bytes = value_bytes (take n values) in
    let taken = length-take-le n values (omega (arith, h)) in
    let size : length bytes ≡ value_size * n = omega (arith, length_values (take n values), taken) in
    rw (e, add-one, take-suc values n (pos 0) h, values_append (take n values) (z ∷ []), sets_append l p bytes (value_bytes (z ∷ [])), size)

pub loop-i-init : goal.loop-i-init
unfolding value_bytes
loop-i-init c = refl

pub loop-i-preserved : goal.loop-i-preserved
loop-i-preserved c =
    let z = get_or c.args.values.now c.loop-i.i (pos 0) in
    let read : to_z w32 (of_z w32 z) ≡ z = to_z-of_z {w = w32} (record { sfits = omega arith }) in
    c.put_i16.ensures ∙ rw read (turn _ _ c.args.values.now _ _ c.loop-i-test.true c.loop-i.invariant)
