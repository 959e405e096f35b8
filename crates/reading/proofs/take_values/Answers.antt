-- Each turn stores the value that comes next.
use mathlib.Core.Path.{◌≡◌, refl, ◌∙◌}
use mathlib.Core.List.{List, [], ◌∷◌}
use Prim.Native.Nat.{ℕ, ◌+◌, ◌*◌}
use lib.IntN.{ℤ}
use lib.ListN.{set}
use lib.Seq.{sets}
use mir.Syntax.{w32}
use mir.Facts.{to_z-of_z}
use Rattle.numbers.proofs.Buffers.{sets_append}
use Rattle.sheet.specs.Bytes.{value_size, i16_at, values_at}
use Rattle.sheet.proofs.Bytes.{values_length}
use Rattle.reading.proofs.Flat.{values_add}
use Rattle.reading.proofs.take_values.Goals as goal

-- n values are stored, and then the one after them
turn : (b : List ℕ) (l k : List ℤ) (p at n : ℕ) {v : ℤ} → k ≡ sets l at (values_at b p n) → v ≡ i16_at b (p + value_size * n)
    → set k (at + n) v ≡ sets l at (values_at b p (n + 1))
unfolding values_at
turn b l k p at n s e =
    rw (s, e, values_add b p n 1, sets_append l at (values_at b p n) (i16_at b (p + value_size * n) ∷ []), values_length b p n)

pub loop-i-init : goal.loop-i-init
unfolding values_at
loop-i-init c = refl

pub loop-i-preserved : goal.loop-i-preserved
loop-i-preserved c =
    turn _ _ _ _ _ _ c.loop-i.invariant (to_z-of_z {w = w32} (record { sfits = c.i16_at.type_inv }) ∙ c.i16_at.ensures)
