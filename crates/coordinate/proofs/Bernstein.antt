-- The coefficients A, B, C, D are those of the curve with these control points: Bernstein's form, with t = 2^F − q still to go.
use mathlib.Core.Path.{◌≡◌}
use Prim.Native.Nat.{ℕ, ◌+◌, ◌*◌, ◌^◌}
use lib.IntN.{pos, ◌+ℤ◌, ◌*ℤ◌}
use Rattle.numbers.proofs.Multiples.{square, cube}
use Rattle.numbers.proofs.Ring.{Ex, #, ◌:+◌, ◌:*◌, ring}
use Rattle.rules.specs.declared.Degree.{Degree}
use Rattle.rules.specs.declared.Degree.TheVariants.{Quadratic, Cubic}
use Rattle.coordinate.specs.Control.{Control}
use Rattle.coordinate.specs.Curve.{curve, exact}
use Rattle.coordinate.specs.Course.{first, last}
use Rattle.coordinate.proofs.Coefficients.{third_e, second_e, first_e, bend_e, rise_e}

pub cubic_bernstein : (F : ℕ) (p : Control Cubic) (q t : ℕ) → q + t ≡ 2 ^ F
    → exact F (curve Cubic p) q
    ≡ pos (t * t * t) *ℤ p.p0 +ℤ pos (3 * (t * t * q)) *ℤ p.p1 +ℤ pos (3 * (t * q * q)) *ℤ p.p2 +ℤ pos (q * q * q) *ℤ p.p3
unfolding exact curve
cubic_bernstein F p q t e =
    rw (square F, cube F, ← e)
    (ring 6 (λ q t p0 p1 p2 p3. (
      third_e p0 p1 p2 p3 :* (q :* q :* q)
          :+ second_e p0 p1 p2 :* (q :* q :* (q :+ t))
          :+ first_e p0 p1 :* (q :* ((q :+ t) :* (q :+ t)))
          :+ p0 :* ((q :+ t) :* (q :+ t) :* (q :+ t)),
      t :* t :* t :* p0 :+ # 3 :* (t :* t :* q) :* p1 :+ # 3 :* (t :* q :* q) :* p2 :+ q :* q :* q :* p3,
    )) tt (pos q) (pos t) p.p0 p.p1 p.p2 p.p3)

-- `exact` is scaled by 2^(3F), and this form by 2^(2F)
pub quadratic_bernstein : (F : ℕ) (p : Control Quadratic) (q t : ℕ) → q + t ≡ 2 ^ F
    → exact F (curve Quadratic p) q ≡ pos (2 ^ F) *ℤ (pos (t * t) *ℤ p.p0 +ℤ pos (2 * (t * q)) *ℤ p.p1 +ℤ pos (q * q) *ℤ p.p2)
unfolding exact curve
quadratic_bernstein F p q t e =
    rw (square F, cube F, ← e)
    (ring 5 (λ q t p0 p1 p2. (
      # 0 :* (q :* q :* q)
          :+ bend_e p0 p1 p2 :* (q :* q :* (q :+ t))
          :+ rise_e p0 p1 :* (q :* ((q :+ t) :* (q :+ t)))
          :+ p0 :* ((q :+ t) :* (q :+ t) :* (q :+ t)),
      (q :+ t) :* (t :* t :* p0 :+ # 2 :* (t :* q) :* p1 :+ q :* q :* p2),
    )) tt (pos q) (pos t) p.p0 p.p1 p.p2)

-- ---- the curve starts at the first control point and ends at the last

abbrev at_zero_e : Ex → Ex → Ex → Ex → Ex → Ex → Ex → Ex
at_zero_e A B C D G S U = A :* (# 0 :* # 0 :* # 0) :+ B :* (# 0 :* # 0 :* G) :+ C :* (# 0 :* S) :+ D :* U

-- whatever the other coefficients are
pub starts : (D : Degree) (F : ℕ) (p : Control D) → exact F (curve D p) 0 ≡ first D p *ℤ pos (2 ^ (3 * F))
unfolding exact curve
starts Quadratic F p =
    ring 6 (λ p0 p1 p2 G S U. (at_zero_e (# 0) (bend_e p0 p1 p2) (rise_e p0 p1) p0 G S U, p0 :* U)) tt
    p.p0 p.p1 p.p2 (pos (2 ^ F)) (pos (2 ^ (2 * F))) (pos (2 ^ (3 * F)))
starts Cubic F p =
    ring 7 (λ p0 p1 p2 p3 G S U. (at_zero_e (third_e p0 p1 p2 p3) (second_e p0 p1 p2) (first_e p0 p1) p0 G S U, p0 :* U)) tt
    p.p0 p.p1 p.p2 p.p3 (pos (2 ^ F)) (pos (2 ^ (2 * F))) (pos (2 ^ (3 * F)))

abbrev at_end_e : Ex → Ex → Ex → Ex → Ex → Ex
at_end_e A B C D G = A :* (G :* G :* G) :+ B :* (G :* G :* G) :+ C :* (G :* (G :* G)) :+ D :* (G :* G :* G)

pub ends : (D : Degree) (F : ℕ) (p : Control D) → exact F (curve D p) (2 ^ F) ≡ last D p *ℤ pos (2 ^ (3 * F))
unfolding exact curve
ends Quadratic F p =
    rw (square F, cube F)
    (ring 4 (λ p0 p1 p2 G. (at_end_e (# 0) (bend_e p0 p1 p2) (rise_e p0 p1) p0 G, p2 :* (G :* G :* G))) tt p.p0 p.p1 p.p2 (pos (2 ^ F)))
ends Cubic F p =
    rw (square F, cube F)
    (ring 5 (λ p0 p1 p2 p3 G. (at_end_e (third_e p0 p1 p2 p3) (second_e p0 p1 p2) (first_e p0 p1) p0 G, p3 :* (G :* G :* G))) tt
    p.p0 p.p1 p.p2 p.p3 (pos (2 ^ F)))
