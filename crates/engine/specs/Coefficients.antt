-- The coefficients that the code reckons, and a curve's.
use Rattle.std.specs.Prelude.{pos}
use Rattle.coordinate.specs.Curve.{Curve}
use Rattle.engine.specs.declared.curve.Coefficients.{Coefficients}

-- coefficients read as a curve, and a curve's coefficients
abbrev pub curve_of : Coefficients → Curve
curve_of f = record { A = f.a; B = f.b; C = f.c; D = f.d }

abbrev pub coefficients : Curve → Coefficients
coefficients f = record { a = f.A; b = f.B; c = f.C; d = f.D }

abbrev pub no_curve : Coefficients
no_curve = record { a = pos 0; b = pos 0; c = pos 0; d = pos 0 }
