-- The increment now, and after doubling, from b and c: the magnitude of a floor, and not the floor of a magnitude.
use mathlib.Core.Path.{◌≡◌, refl, ap, ap₂, ◌∙◌}
use Prim.Native.Nat.{ℕ, suc, ◌+◌, ◌-◌, ◌^◌}
use native.Mathlib.Omega.{arith}
use lib.IntN.{ℤ, nat_abs, ◌+ℤ◌}
use Rattle.coordinate.specs.declared.Registers.{Registers}
use Rattle.coordinate.specs.Registers.{turn, ◌>>◌}
use Rattle.coordinate.specs.Increment.{increment, doubled_increment}
use Rattle.coordinate.proofs.Back.{two_above}
use Rattle.coordinate.proofs.Floors.{Floor, floor_shift}

-- after doubling, from b and c alone: (c + (b >> (n + 1))) >> (n − 1)
pub doubled_from_b_and_c : (n : ℕ) (r : Registers) → doubled_increment n r ≡ nat_abs ((r.c +ℤ (r.b >> (n + 1))) >> (n - 1))
unfolding doubled_increment increment turn
doubled_from_b_and_c n r = refl

-- the same at level n + 1, so that no difference can be cut off at 0
pub doubled-increment : (n : ℕ) (r : Registers) → doubled_increment (suc n) r ≡ nat_abs ((r.c +ℤ (r.b >> (n + 2))) >> n)
doubled-increment n r =
    let coarser : suc n - 1 ≡ n = omega arith in
    doubled_from_b_and_c (suc n) r ∙ ap₂ (λ (k m : ℕ). nat_abs ((r.c +ℤ (r.b >> k)) >> m)) (two_above n) coarser

-- ---- the same by floors

pub increment_by_floor : (n : ℕ) (r : Registers) (y : ℤ) → Floor r.c (2 ^ n) y → increment n r ≡ nat_abs y
unfolding increment
increment_by_floor n r y f = ap nat_abs (floor_shift r.c n y f)

pub doubled_by_floors : (n : ℕ) (r : Registers) (z y : ℤ) → Floor r.b (2 ^ (n + 2)) z → Floor (r.c +ℤ z) (2 ^ n) y
    → doubled_increment (suc n) r ≡ nat_abs y
doubled_by_floors n r z y f g =
    doubled-increment n r ∙ ap (λ (v : ℤ). nat_abs ((r.c +ℤ v) >> n)) (floor_shift r.b (n + 2) z f) ∙ ap nat_abs (floor_shift (r.c +ℤ z) n y g)
