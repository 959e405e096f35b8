-- The start of a drawing.
use Rattle.std.specs.Prelude.{ℕ, pos}
use Rattle.rules.specs.declared.Degree.{Degree}
use Rattle.coordinate.specs.declared.Registers.{Registers}
use Rattle.coordinate.specs.Control.{Control}
use Rattle.coordinate.specs.Curve.{Curve, curve}
use Rattle.coordinate.specs.Registers.{start_registers}
use Rattle.operations.specs.Coordinates.{Coordinate, in_x, in_y, in_width}
use Rattle.operations.specs.Refusals.{start_refusal}
use Rattle.engine.specs.declared.Drawing.{Drawing}
use Rattle.engine.specs.Moved.{Moved}
use Rattle.engine.specs.Drawing.{moved}

-- every number 0
abbrev pub zeros : Registers
zeros = record { a = pos 0; b = pos 0; c = pos 0; d = pos 0 }

abbrev pub nothing_drawn : Drawing
nothing_drawn = record { finest = 0; level = 0; q = 0; x = zeros; y = zeros; width = zeros }

-- at finest level F, level n and q = 0, by the curve of each coordinate: a drawing does not know its degree
abbrev pub first_drawing : ℕ → (Coordinate → Curve) → ℕ → Drawing
first_drawing F f n =
    record {
      finest = F;
      level = n;
      q = 0;
      x = start_registers n (f in_x);
      y = start_registers n (f in_y);
      width = start_registers n (f in_width);
    }

-- a refused start gives a drawing with every number 0
unfoldable pub started : (D : Degree) → ℕ → (Coordinate → Control D) → ℕ → Moved
started D F p n = moved (start_refusal D F p n) nothing_drawn (first_drawing F (λ c. curve D (p c)) n)
