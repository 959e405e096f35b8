-- A, B and C by the control points: as expressions, for identities between whole numbers; by the differences of neighbours, as the code reckons
-- them; and how large they are.
use mathlib.Core.Path.{◌≡◌, refl, subst}
use lib.Dec.{lit≤}
use lib.IntN.{pos, ◌+ℤ◌, ◌-ℤ◌, ◌*ℤ◌}
use Rattle.numbers.proofs.Ring.{Ex, #, ◌:+◌, ◌:-◌, ◌:*◌, ring}
use Rattle.numbers.proofs.Size.{size_of, size_by, size_sum, size_difference, size_product}
use Rattle.rules.specs.declared.Degree.{Degree}
use Rattle.rules.specs.declared.Degree.TheVariants.{Quadratic, Cubic}
use Rattle.rules.specs.Rules.{most_reach}
use Rattle.coordinate.specs.Control.{Control}
use Rattle.coordinate.specs.Curve.{Curve, curve, Mild}
use Rattle.coordinate.proofs.Points.{Extent, Reach}

-- of a cubic
abbrev pub third_e : Ex → Ex → Ex → Ex → Ex
third_e p0 p1 p2 p3 = p3 :- # 3 :* p2 :+ # 3 :* p1 :- p0

abbrev pub second_e : Ex → Ex → Ex → Ex
second_e p0 p1 p2 = # 3 :* (p2 :- # 2 :* p1 :+ p0)

abbrev pub first_e : Ex → Ex → Ex
first_e p0 p1 = # 3 :* (p1 :- p0)

-- B and C of a quadratic
abbrev pub bend_e : Ex → Ex → Ex → Ex
bend_e p0 p1 p2 = p2 :- # 2 :* p1 :+ p0

abbrev pub rise_e : Ex → Ex → Ex
rise_e p0 p1 = # 2 :* (p1 :- p0)

-- ---- by the differences of neighbours

abbrev pub by_differences : (D : Degree) → Control D → Curve
by_differences Quadratic p =
    record { A = pos 0; B = (p.p2 -ℤ p.p1) -ℤ (p.p1 -ℤ p.p0); C = pos 2 *ℤ (p.p1 -ℤ p.p0); D = p.p0 }
by_differences Cubic p =
    record {
      A = (p.p3 -ℤ p.p2) -ℤ pos 2 *ℤ (p.p2 -ℤ p.p1) +ℤ (p.p1 -ℤ p.p0);
      B = pos 3 *ℤ ((p.p2 -ℤ p.p1) -ℤ (p.p1 -ℤ p.p0));
      C = pos 3 *ℤ (p.p1 -ℤ p.p0);
      D = p.p0;
    }

pub by-differences : (D : Degree) (p : Control D) → by_differences D p ≡ curve D p
unfolding curve
by-differences Quadratic p =
    let B = ring 3 (λ p0 p1 p2. ((p2 :- p1) :- (p1 :- p0), bend_e p0 p1 p2)) tt p.p0 p.p1 p.p2 in
    λ i. record { A = pos 0; B = B i; C = pos 2 *ℤ (p.p1 -ℤ p.p0); D = p.p0 }
by-differences Cubic p =
    let A = ring 4 (λ p0 p1 p2 p3. ((p3 :- p2) :- # 2 :* (p2 :- p1) :+ (p1 :- p0), third_e p0 p1 p2 p3)) tt p.p0 p.p1 p.p2 p.p3 in
    let B = ring 3 (λ p0 p1 p2. (# 3 :* ((p2 :- p1) :- (p1 :- p0)), second_e p0 p1 p2)) tt p.p0 p.p1 p.p2 in
    λ i. record { A = A i; B = B i; C = pos 3 *ℤ (p.p1 -ℤ p.p0); D = p.p0 }

-- ---- how large they are

mild_differences : (D : Degree) (p : Control D) → Extent D 16384 p → Reach D (most_reach D) p → Mild (by_differences D p)
mild_differences Quadratic p e v =
    record {
      A = lit≤ tt;
      B = (size_by refl (lit≤ tt) (size_difference v.1 v.0)).le;
      C = (size_product (size_of 2) v.0).le;
      D = e.0.le;
    }
mild_differences Cubic p e v =
    record {
      A = (size_sum (size_difference v.2 (size_product (size_of 2) v.1)) v.0).le;
      B = (size_product (size_of 3) (size_difference v.1 v.0)).le;
      C = (size_product (size_of 3) v.0).le;
      D = e.0.le;
    }

pub mild : (D : Degree) (p : Control D) → Extent D 16384 p → Reach D (most_reach D) p → Mild (curve D p)
mild D p e v = subst Mild (by-differences D p) (mild_differences D p e v)
