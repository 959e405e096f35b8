-- What a start looks at in one coordinate: whether its control points keep rules 1 and 2, and where they keep both its coefficients.
use Rattle.std.specs.Prelude.{cond, ◌&&◌, ℕ}
use Rattle.rules.specs.declared.Degree.{Degree}
use Rattle.coordinate.specs.Control.{Control}
use Rattle.coordinate.specs.Curve.{curve}
use Rattle.coordinate.specs.Points.{are_coordinates, are_near}
use Rattle.operations.specs.Coordinates.{Coordinate, every}
use Rattle.operations.specs.Refusals.{begin_refusal}
use Rattle.engine.specs.Moved.{Moved}
use Rattle.engine.specs.declared.starting.Checked.{Checked}
use Rattle.engine.specs.Coefficients.{curve_of, coefficients, no_curve}
use Rattle.engine.specs.Drawing.{moved}
use Rattle.engine.specs.Start.{nothing_drawn, first_drawing}

-- neighbours at most W apart
unfoldable pub checked : (D : Degree) → ℕ → Control D → Checked
checked D W p =
    record {
      inside = are_coordinates D p;
      near = are_near D W p;
      curve = cond (are_coordinates D p && are_near D W p) (coefficients (curve D p)) no_curve;
    }

-- the start by these: the refusal, or else the first drawing
unfoldable pub begun : ℕ → (Coordinate → Checked) → ℕ → Moved
begun F p n =
    moved (begin_refusal F (every (λ c. (p c).inside)) (every (λ c. (p c).near)) n) nothing_drawn (first_drawing F (λ c. curve_of (p c).curve) n)
