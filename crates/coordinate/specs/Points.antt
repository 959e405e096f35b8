-- Rules 1 and 2 of one coordinate's control points.
use Rattle.std.specs.Prelude.{Bool, ◌&&◌, ℕ}
use Rattle.rules.specs.declared.Degree.{Degree}
use Rattle.rules.specs.declared.Degree.TheVariants.{Quadratic, Cubic}
use Rattle.rules.specs.Rules.{is_coordinate, are_neighbours}
use Rattle.coordinate.specs.Control.{Control}

unfoldable pub are_coordinates : (D : Degree) → Control D → Bool
are_coordinates Quadratic p = is_coordinate p.p0 && is_coordinate p.p1 && is_coordinate p.p2
are_coordinates Cubic p = is_coordinate p.p0 && is_coordinate p.p1 && is_coordinate p.p2 && is_coordinate p.p3

-- neighbours are at most W apart
unfoldable pub are_near : (D : Degree) → ℕ → Control D → Bool
are_near Quadratic W p = are_neighbours W p.p0 p.p1 && are_neighbours W p.p1 p.p2
are_near Cubic W p = are_neighbours W p.p0 p.p1 && are_neighbours W p.p1 p.p2 && are_neighbours W p.p2 p.p3
