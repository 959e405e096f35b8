-- A path: 1 to 64 segments of one degree D over D·S + 1 points, one finest level and one start level for all its segments, and the limits that choose
-- its steps.
use Rattle.std.specs.Prelude.{List, ℕ, ◌+◌, ◌*◌, ℤ, pos, length, get_or}
use Rattle.rules.specs.declared.Degree.{Degree}
use Rattle.rules.specs.declared.Degree.TheVariants.{Quadratic, Cubic}
use Rattle.rules.specs.declared.Limits.{Limits}
use Rattle.rules.specs.Refusals.{unless, first_of}
use Rattle.rules.specs.Rules.{is_finest, reach, is_level, are_limits, degree, coordinates, is_size, points_refusal}
use Rattle.coordinate.specs.Control.{Control}
use Rattle.coordinate.specs.Course.{Course, course}
use Rattle.operations.specs.Coordinates.{Coordinate, in_x, in_y, in_width}
use Rattle.engine.specs.declared.Drawing.{Drawing}
use Rattle.engine.specs.Start.{first_drawing}
use Rattle.path.specs.declared.Shape.{Shape}

-- points: x0, y0, width0, x1, y1, width1, .., as on a sheet
pub record Path : Type 0 where
  pub degree : Degree
  pub points : List ℤ
  pub segments : ℕ
  pub finest : ℕ
  pub level : ℕ
  pub upper : ℕ
  pub lower : ℕ

-- as an entry is given it
abbrev pub path : List ℤ → Shape → Limits → Path
path points shape limits =
    record {
      degree = shape.degree;
      points = points;
      segments = shape.segments;
      finest = shape.finest;
      level = shape.level;
      upper = limits.upper;
      lower = limits.lower;
    }

-- 14, 24, then 1 and 2 over the whole path, 2 by the reach of its degree at its finest level, then 3, 4
unfoldable pub path_refusal : Path → ℕ
path_refusal p =
    unless (is_size p.degree p.segments (length p.points)) 14
    (unless (is_finest p.finest) 24
    (first_of (points_refusal (reach p.degree p.finest) p.points)
    (unless (is_level p.finest p.level) 3 (unless (are_limits p.upper p.lower) 4 0))))

-- ---- its points

-- number c of point i, and the number of each coordinate
unfoldable pub point_at : List ℤ → ℕ → ℕ → ℤ
point_at points c i = get_or points (coordinates * i + c) (pos 0)

abbrev pub place : Coordinate → ℕ
place in_x = 0
place in_y = 1
place in_width = 2

-- segment k uses points Dk to Dk + D: coordinate c of them
unfoldable pub control : (D : Degree) → List ℤ → ℕ → ℕ → Control D
control Quadratic points c k =
    let i = degree Quadratic * k in
    record { p0 = point_at points c i; p1 = point_at points c (i + 1); p2 = point_at points c (i + 2) }
control Cubic points c k =
    let i = degree Cubic * k in
    record { p0 = point_at points c i; p1 = point_at points c (i + 1); p2 = point_at points c (i + 2); p3 = point_at points c (i + 3) }

-- the control points of each coordinate, and its course
abbrev pub controls : (D : Degree) → List ℤ → ℕ → Coordinate → Control D
controls D points k c = control D points (place c) k

abbrev pub courses : Degree → List ℤ → ℕ → Coordinate → Course
courses D points k c = course D (controls D points k c)

-- the start of segment k at finest level F: every segment begins at the path's start level
unfoldable pub first : Degree → ℕ → List ℤ → ℕ → ℕ → Drawing
first D F points level k = first_drawing F (λ c. (courses D points k c).curve) level
