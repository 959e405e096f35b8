-- How far the point shown is from the exact curve: half a unit more than d is.
use Prim.Native.Nat.{ℕ, suc, ◌+◌, ◌*◌, ◌-◌, ◌^◌, ◌≤◌, ◌<◌}
use native.Mathlib.Nat.{le_refl, add-mul, mul-pos, mul-le-mul_right}
use native.Mathlib.Omega.{arith}
use lib.Dec.{lit<}
use lib.Pow.{pow_pos}
use lib.IntN.{ℤ, pos, nat_abs, ◌+ℤ◌, ◌-ℤ◌, ◌*ℤ◌}
use Rattle.numbers.proofs.Ring.{#, ◌:+◌, ◌:-◌, ◌:*◌, ring}
use Rattle.numbers.proofs.Order.{nat, ◌⊕◌, gap, certified}
use Rattle.numbers.proofs.Floor.{floor_low, floor_high}
use Rattle.numbers.proofs.Size.{Size, size_between, size_of, size_sum, size_product, size_by}
use Rattle.coordinate.specs.declared.Registers.{Registers}
use Rattle.coordinate.specs.Curve.{exact, off}
use Rattle.coordinate.specs.Course.{Course}
use Rattle.coordinate.specs.Shown.{pixel}
use Rattle.coordinate.specs.Stands.{Stands}

-- the point shown is at most half a unit from d
pub shown_half : (r : Registers) → Size (pos 65536 *ℤ pixel r -ℤ r.d) 32768
unfolding pixel
shown_half r =
    let z : ℤ = r.d +ℤ pos 32768 in
    let p = pixel r in
    size_between
    (certified (ring 2 (λ d p. (# 32768 :- (# 65536 :* p :- d), d :+ # 32768 :- # 65536 :* p)) tt r.d p) (gap (floor_low z 65536 (lit< tt))))
    (certified (ring 2 (λ d p. (# 32768 :- (# 0 :- (# 65536 :* p :- d)), (# 65536 :* p :+ # 65536 :- # 1 :- (d :+ # 32768)) :+ # 1)) tt r.d p)
    (gap (floor_high z 65536 (lit< tt)) ⊕ nat 1))

-- less than half a unit and one and a half 2^F from the exact curve
pub shown_near : (F : ℕ) (p : Course) (q : ℕ) (r : Registers) → Stands F p q r
    → 2 * off F p.curve q (pos 65536 *ℤ pixel r) < (65536 + 3 * 2 ^ F) * 2 ^ (3 * F)
shown_near F p q r s =
    apart r.d (pixel r) (exact F p.curve q) (3 * 2 ^ F) (2 ^ (3 * F)) (mul-pos (lit< tt) (pow_pos F)) (pow_pos (3 * F)) (shown_half r) s.close
  where
    apart : (d p e : ℤ) (W T : ℕ) → 0 < W → 0 < T → Size (pos 65536 *ℤ p -ℤ d) 32768 → 2 * nat_abs (d *ℤ pos T -ℤ pos 65536 *ℤ e) ≤ (W - 1) * T
        → 2 * nat_abs (pos 65536 *ℤ p *ℤ pos T -ℤ pos 65536 *ℤ e) < (65536 + W) * T
    apart d p e W T w t h l =
        let whole = ring 4 (λ d p e T. (# 65536 :* p :* T :- # 65536 :* e, (# 65536 :* p :- d) :* T :+ (d :* T :- # 65536 :* e))) tt d p e (pos T) in
        let rest : Size (d *ℤ pos T -ℤ pos 65536 *ℤ e) (nat_abs (d *ℤ pos T -ℤ pos 65536 *ℤ e)) = record { le = le_refl _ } in
        let sum = size_by whole (le_refl _) (size_sum (size_product h (size_of T)) rest) in
        let fewer : suc (W - 1) ≤ W = omega arith in
        omega (arith, sum.le, add-mul 65536 W T, mul-le-mul_right T fewer)
