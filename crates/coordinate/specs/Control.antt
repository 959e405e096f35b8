-- The control points of one coordinate, by the degree of the curve: four of a cubic, three of a quadratic.
use Rattle.rules.specs.declared.Degree.{Degree}
use Rattle.rules.specs.declared.Degree.TheVariants.{Quadratic, Cubic}
use Rattle.coordinate.specs.declared.Quadratic.{Quadratic as Three}
use Rattle.coordinate.specs.declared.Cubic.{Cubic as Four}

abbrev pub Control : Degree → Type 0
Control Quadratic = Three
Control Cubic = Four
