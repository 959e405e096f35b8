-- Where a step is chosen, the point shown moves by at most 1. Off the finest level the upper limit says so; at the finest one the curve is
-- tame: 2^F − 2 units at most, and c is less than two 2^F-ths of a unit from it.
use mathlib.Core.Path.{◌≡◌, refl}
use Prim.Native.Nat.{ℕ, zero, suc, ◌+◌, ◌*◌, ◌-◌, ◌^◌, ◌≤◌, ◌<◌}
use native.Mathlib.Nat.{le_refl, le_trans}
use native.Mathlib.Omega.{arith}
use lib.Dec.{lit<}
use lib.Pow.{pow_pos, pow_mono}
use lib.IntN.{ℤ, pos, nat_abs, ◌+ℤ◌, ◌-ℤ◌}
use Rattle.numbers.proofs.Ring.{#, ◌:+◌, ◌:-◌, ring}
use Rattle.numbers.proofs.Floor.{floors_touch}
use Rattle.numbers.proofs.Size.{Size, size_by, size_floor}
use Rattle.coordinate.specs.declared.Registers.{Registers}
use Rattle.coordinate.specs.Registers.{step, ◌>>◌, turn}
use Rattle.coordinate.specs.Increment.{increment}
use Rattle.coordinate.specs.Shown.{pixel}
use Rattle.coordinate.specs.Course.{Course}
use Rattle.coordinate.proofs.Near.{At}
use Rattle.coordinate.proofs.Sizes.{Tame, c_by_chord}

-- ---- an increment of at most one unit

step_touches : (n : ℕ) (r : Registers) → Size (r.c >> n) 65536 → nat_abs (pixel (turn step n r) -ℤ pixel r) ≤ 1
unfolding turn pixel
step_touches n r s =
    let δ : ℤ = r.c >> n in
    floors_touch (r.d +ℤ pos 32768) (r.d +ℤ δ +ℤ pos 32768) 65536 (lit< tt)
    (size_by (ring 2 (λ d δ. (d :+ δ :+ # 32768 :- (d :+ # 32768), δ)) tt r.d δ) (le_refl 65536) s)

-- ---- at the finest level, before the end

module _ (F : ℕ) (p : Course) (h : F ≤ 16) (two : 2 ≤ 2 ^ F) (t : Tame F p) (n q : ℕ) (r : Registers) (l : q < 2 ^ F) where
  finest_c : At F p.curve n 0 q r → Size r.c (65536 * 2 ^ F)
  finest_c o =
      let most : 65536 * (2 ^ F - 2) + 2 * 2 ^ F ≤ 65536 * 2 ^ F = omega (arith, pow_mono {j = 16} h) in
      size_by refl most (c_by_chord F p.curve n 0 q (2 ^ F - 2) r o (t.finest q l))

  finest_increment : At F p.curve n 0 q r → Size (r.c >> n) 65536
  finest_increment o = size_floor (2 ^ n) (pow_pos n) (size_by refl (omega (arith, o.levels)) (finest_c o))

  -- `upper` limits the increment at every other level
  increment_size : (upper j : ℕ) → upper ≤ 65536 → n + j ≡ F → (n < F → increment n r ≤ upper) → At F p.curve n j q r → Size (r.c >> n) 65536
  unfolding increment
  increment_size upper zero u e i o = finest_increment o
  increment_size upper (suc j) u e i o = record { le = le_trans (i (omega arith)) u }

  -- a step before the end moves the point shown by at most 1
  pub touches : (upper j : ℕ) → upper ≤ 65536 → n + j ≡ F → (n < F → increment n r ≤ upper) → At F p.curve n j q r
      → nat_abs (pixel (turn step n r) -ℤ pixel r) ≤ 1
  touches upper j u e i o = step_touches n r (increment_size upper j u e i o)
