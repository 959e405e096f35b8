use mathlib.Core.Path.{◌≡◌}
use lib.ListN.{drop}
use Rattle.rules.specs.Rules.{are_points}
use Rattle.rules.proofs.points.Given as goal

abbrev pub invariant-loop-i : goal.invariant-loop-i
invariant-loop-i l = are_points (drop l.i l.numbers) ≡ are_points l.numbers
