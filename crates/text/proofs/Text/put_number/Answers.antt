-- Below 0 the sign is put first, and then the digits.
use mathlib.Core.Path.{◌≡◌, ap}
use mathlib.Core.Bool.{true, false, true≢false}
use mathlib.Core.List.{[], ◌∷◌}
use Prim.Native.Nat.{ℕ}
use native.Mathlib.Omega.{arith}
use borrow.Author.Tests.{ltb-true}
use lib.IntN.{ℤ, pos, negsuc, nat_abs}
use lib.Signed.{lt_z}
use mir.Facts.{to_z-of_z}
use Rattle.text.specs.Decimal.{decimal, numeral}
use Rattle.text.specs.Reached.{Gains}
use Rattle.text.proofs.Pieces.{gains_as, gains_both}
use Rattle.text.proofs.Text.put_number.Goals.{then-z-lt0, else-z-lt0}
use Rattle.text.proofs.Text.put_number.Goals as goal

-- m is the magnitude of z
below_zero : (z : ℤ) {m : ℕ} → m ≡ nat_abs z → lt_z z (pos 0) ≡ true → 45 ∷ decimal m ≡ numeral z
unfolding numeral
below_zero (pos n) size t = absurd (omega (arith, ltb-true n 0 t))
below_zero (negsuc n) size t = ap (λ m. 45 ∷ decimal m) size

from_zero : (z : ℤ) {m : ℕ} → m ≡ nat_abs z → lt_z z (pos 0) ≡ false → decimal m ≡ numeral z
unfolding numeral
from_zero (pos n) size t = ap decimal size
from_zero (negsuc n) size t = absurd (true≢false t)

pub returns : goal.returns
returns c =
    let a = c.args in
    let read = to_z-of_z c.ranges.z in
    let size = rw read at c.unsigned_abs.ensures.value in
    let digits = c.put_count.ensures in
    elim c.if-z-lt0.branch [
      | then-z-lt0 w ↦
          let sign : Gains a.self.now (45 ∷ []) c.if-z-lt0.self = rw w.self-is w.put.ensures in
          gains_as (below_zero a.z size (rw read at w.if-z-lt0.true)) (gains_both sign digits)
      | else-z-lt0 w ↦ gains_as (from_zero a.z size (rw read at w.if-z-lt0.false)) (rw w.self-is at digits)
    ]
