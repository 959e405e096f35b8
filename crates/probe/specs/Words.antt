-- What stands in a request: words in its bytes, and in its words signed and unsigned numbers, control points, registers, drawings, degrees, shapes and
-- limits.
use Rattle.std.specs.Prelude.{cond, List, ℕ, ◌+◌, ◌*◌, eqb, ℤ, pos, get_or, Option, Some, None}
use Rattle.std.specs.Int.{w32}
use Rattle.std.proofs.Common.{of_z}
use Rattle.rules.specs.declared.Degree.{Degree}
use Rattle.rules.specs.declared.Degree.TheVariants.{Quadratic, Cubic}
use Rattle.rules.specs.declared.Limits.{Limits}
use Rattle.rules.specs.Rules.{coordinates}
use Rattle.coordinate.specs.Control.{Control}
use Rattle.coordinate.specs.declared.Registers.{Registers}
use Rattle.engine.specs.declared.Drawing.{Drawing}
use Rattle.path.specs.declared.Shape.{Shape}

abbrev pub word_at : List ℕ → ℕ → ℕ
word_at bytes at =
    get_or bytes at 0 + 256 * get_or bytes (at + 1) 0 + 65536 * get_or bytes (at + 2) 0 + 16777216 * get_or bytes (at + 3) 0

abbrev pub signed_at : List ℤ → ℕ → ℤ
signed_at words at = get_or words at (pos 0)

abbrev pub unsigned_at : List ℤ → ℕ → ℕ
unsigned_at words at = of_z w32 (signed_at words at)

-- point by point: x from place 0 on, y from 1, the width from 2
abbrev pub control_at : (D : Degree) → List ℤ → ℕ → Control D
control_at Quadratic words at =
    record {
      p0 = signed_at words at;
      p1 = signed_at words (at + coordinates);
      p2 = signed_at words (at + 2 * coordinates);
    }
control_at Cubic words at =
    record {
      p0 = signed_at words at;
      p1 = signed_at words (at + coordinates);
      p2 = signed_at words (at + 2 * coordinates);
      p3 = signed_at words (at + 3 * coordinates);
    }

abbrev pub registers_at : List ℤ → ℕ → Registers
registers_at words at =
    record {
      a = signed_at words at;
      b = signed_at words (at + 1);
      c = signed_at words (at + 2);
      d = signed_at words (at + 3);
    }

-- finest level q, then a b c d of x, of y, of the width
abbrev pub drawing_in : List ℤ → Drawing
drawing_in words =
    record {
      finest = unsigned_at words 0;
      level = unsigned_at words 1;
      q = unsigned_at words 2;
      x = registers_at words 3;
      y = registers_at words 7;
      width = registers_at words 11;
    }

-- 2 is a quadratic and 3 a cubic; another number is let through by no request
abbrev pub degree_of : ℕ → Option Degree
degree_of n = cond (eqb n 2) (Some Quadratic) (cond (eqb n 3) (Some Cubic) None)

abbrev pub shaped : Option Degree → List ℤ → Option Shape
shaped None words = None
shaped (Some d) words = Some (record { degree = d; segments = unsigned_at words 1; finest = unsigned_at words 2; level = unsigned_at words 3 })

-- degree segments finest level, and upper lower
abbrev pub shape_in : List ℤ → Option Shape
shape_in words = shaped (degree_of (unsigned_at words 0)) words

abbrev pub limits_in : List ℤ → Limits
limits_in words = record { upper = unsigned_at words 0; lower = unsigned_at words 1 }
