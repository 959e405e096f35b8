-- The two comparisons are those of `is_coordinate`, once the parameter is read back.
use mathlib.Core.Path.{ap}
use mir.Facts.{to_z-of_z}
use Rattle.rules.specs.Rules.{is_coordinate}
use Rattle.rules.proofs.coordinate.Goals as goal

pub returns : goal.returns
unfolding is_coordinate
returns c = ap is_coordinate (to_z-of_z c.ranges.p)
