-- One coordinate's course: its exact curve, and the points at which it starts and ends.
use Rattle.std.specs.Prelude.{ℤ}
use Rattle.rules.specs.declared.Degree.{Degree}
use Rattle.rules.specs.declared.Degree.TheVariants.{Quadratic, Cubic}
use Rattle.coordinate.specs.Control.{Control}
use Rattle.coordinate.specs.Curve.{Curve, curve}

pub record Course : Type 0 where
  pub curve : Curve
  pub first : ℤ
  pub last : ℤ

-- from the first control point to the last
abbrev pub first : (D : Degree) → Control D → ℤ
first Quadratic p = p.p0
first Cubic p = p.p0

abbrev pub last : (D : Degree) → Control D → ℤ
last Quadratic p = p.p2
last Cubic p = p.p3

abbrev pub course : (D : Degree) → Control D → Course
course D p = record { curve = curve D p; first = first D p; last = last D p }
