-- Three times a quadratic is a cubic, whose points are 3p0, p0 + 2p1, 2p1 + p2 and 3p2: at most three times as far from 0, and neighbours at most
-- twice as far apart.
use mathlib.Core.Path.{◌≡◌, refl}
use Prim.Native.Nat.{ℕ, ◌*◌}
use native.Mathlib.Nat.{le_refl}
use native.Mathlib.Omega.{arith}
use lib.IntN.{pos, ◌+ℤ◌, ◌*ℤ◌}
use Rattle.numbers.proofs.Ring.{#, ◌:+◌, ◌:-◌, ◌:*◌, ring}
use Rattle.numbers.proofs.Size.{size_of, size_by, size_sum, size_product}
use Rattle.rules.specs.declared.Degree.TheVariants.{Quadratic, Cubic}
use Rattle.coordinate.specs.Control.{Control}
use Rattle.coordinate.specs.Curve.{curve}
use Rattle.coordinate.proofs.Points.{Extent, Reach}
use Rattle.coordinate.proofs.Coefficients.{third_e, second_e, first_e, bend_e, rise_e}
use Rattle.coordinate.proofs.Multiple.{times}

abbrev pub raised : Control Quadratic → Control Cubic
raised p =
    record {
      p0 = pos 3 *ℤ p.p0;
      p1 = p.p0 +ℤ pos 2 *ℤ p.p1;
      p2 = pos 2 *ℤ p.p1 +ℤ p.p2;
      p3 = pos 3 *ℤ p.p2;
    }

pub thrice : (p : Control Quadratic) → times 3 (curve Quadratic p) ≡ curve Cubic (raised p)
unfolding curve
thrice p =
    let A =
    ring 3 (λ p0 p1 p2. (# 0 :* # 3, third_e (# 3 :* p0) (p0 :+ # 2 :* p1) (# 2 :* p1 :+ p2) (# 3 :* p2))) tt p.p0 p.p1 p.p2 in
    let B = ring 3 (λ p0 p1 p2. (bend_e p0 p1 p2 :* # 3, second_e (# 3 :* p0) (p0 :+ # 2 :* p1) (# 2 :* p1 :+ p2))) tt p.p0 p.p1 p.p2 in
    let C = ring 2 (λ p0 p1. (rise_e p0 p1 :* # 3, first_e (# 3 :* p0) (p0 :+ # 2 :* p1))) tt p.p0 p.p1 in
    let D = ring 1 (λ p0. (p0 :* # 3, # 3 :* p0)) tt p.p0 in
    λ i. record { A = A i; B = B i; C = C i; D = D i }

-- ---- its points

pub raised_extent : (H : ℕ) (p : Control Quadratic) → Extent Quadratic H p → Extent Cubic (3 * H) (raised p)
raised_extent H p e =
    let twice = size_product (size_of 2) e.1 in (
      size_product (size_of 3) e.0,
      size_by refl (omega arith) (size_sum e.0 twice),
      size_by refl (omega arith) (size_sum twice e.2),
      size_product (size_of 3) e.2,
    )

pub raised_reach : (W : ℕ) (p : Control Quadratic) → Reach Quadratic W p → Reach Cubic (2 * W) (raised p)
raised_reach W p v = (
  size_by (ring 2 (λ p0 p1. (p0 :+ # 2 :* p1 :- # 3 :* p0, # 2 :* (p1 :- p0))) tt p.p0 p.p1) (le_refl _) (size_product (size_of 2) v.0),
  size_by (ring 3 (λ p0 p1 p2. (# 2 :* p1 :+ p2 :- (p0 :+ # 2 :* p1), (p2 :- p1) :+ (p1 :- p0))) tt p.p0 p.p1 p.p2) (omega arith)
      (size_sum v.1 v.0),
  size_by (ring 2 (λ p1 p2. (# 3 :* p2 :- (# 2 :* p1 :+ p2), # 2 :* (p2 :- p1))) tt p.p1 p.p2) (le_refl _) (size_product (size_of 2) v.1),
)
