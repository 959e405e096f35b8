-- The exact curve of one coordinate, f(t) = A·t³ + B·t² + C·t + D for t from 0 to 1. It starts at p0, the first control point.
use Rattle.std.specs.Prelude.{ℕ, ◌*◌, ◌^◌, ◌≤◌, ℤ, pos, nat_abs, ◌+ℤ◌, ◌-ℤ◌, ◌*ℤ◌}
use Rattle.rules.specs.declared.Degree.{Degree}
use Rattle.rules.specs.declared.Degree.TheVariants.{Quadratic, Cubic}
use Rattle.coordinate.specs.Control.{Control}

pub record Curve : Type 0 where
  pub A : ℤ
  pub B : ℤ
  pub C : ℤ
  pub D : ℤ

-- of a quadratic C = 2(p1 − p0), B = p2 − 2·p1 + p0, A = 0, D = p0;
-- of a cubic C = 3(p1 − p0), B = 3(p2 − 2·p1 + p0), A = p3 − 3·p2 + 3·p1 − p0, D = p0
unfoldable pub curve : (D : Degree) → Control D → Curve
curve Quadratic p = record { A = pos 0; B = p.p2 -ℤ pos 2 *ℤ p.p1 +ℤ p.p0; C = pos 2 *ℤ (p.p1 -ℤ p.p0); D = p.p0 }
curve Cubic p =
    record {
      A = p.p3 -ℤ pos 3 *ℤ p.p2 +ℤ pos 3 *ℤ p.p1 -ℤ p.p0;
      B = pos 3 *ℤ (p.p2 -ℤ pos 2 *ℤ p.p1 +ℤ p.p0);
      C = pos 3 *ℤ (p.p1 -ℤ p.p0);
      D = p.p0;
    }

-- how large they are at most, of control points that are accepted: a cubic's with neighbours 682 apart are the largest
pub record Mild (f : Curve) : Type 0 where
  pub A : nat_abs f.A ≤ 2728
  pub B : nat_abs f.B ≤ 4092
  pub C : nat_abs f.C ≤ 2046
  pub D : nat_abs f.D ≤ 16384

-- the exact curve at t = q / 2^F, times 2^(3F)
unfoldable pub exact : ℕ → Curve → ℕ → ℤ
exact F f q =
    f.A *ℤ pos (q * q * q)
    +ℤ f.B *ℤ pos (q * q * 2 ^ F)
    +ℤ f.C *ℤ pos (q * 2 ^ (2 * F))
    +ℤ f.D *ℤ pos (2 ^ (3 * F))

-- how far d, in 65,536ths of a unit, is from it there, times 2^(3F)
abbrev pub off : ℕ → Curve → ℕ → ℤ → ℕ
off F f q d = nat_abs (d *ℤ pos (2 ^ (3 * F)) -ℤ pos 65536 *ℤ exact F f q)
