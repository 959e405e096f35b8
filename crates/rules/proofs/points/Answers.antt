-- What is left of the numbers passes the test exactly where all of them do.
use mathlib.Core.Path.{◌≡◌, sym, ap, ◌∙◌}
use lib.IntN.{pos}
use lib.ListN.{get_or}
use mir.Syntax.{w32}
use mir.Facts.{to_z-of_z}
use Rattle.rules.specs.Rules.{is_coordinate}
use Rattle.rules.proofs.Every.{points_stop, points_on, points_end}
use native.Mathlib.Omega.{arith}
use Rattle.rules.proofs.points.Goals as goal
use Rattle.rules.proofs.points.Goals.{After-coordinate}

-- what was asked is the number at i
asked : (c : After-coordinate)
    → c.coordinate.result ≡ is_coordinate (get_or c.args.numbers.now c.loop-i.i (pos 0))
asked c = c.coordinate.ensures ∙ ap is_coordinate (to_z-of_z {w = w32} (record { sfits = omega arith }))

pub returns-then-not-coordinate : goal.returns-then-not-coordinate
returns-then-not-coordinate c =
    sym (sym c.loop-i.invariant ∙ points_stop _ _ c.loop-i-test.true (sym (asked (goal.at.returns-then-not-coordinate c).After-coordinate) ∙ c.if-not-coordinate.true))

pub loop-i-preserved : goal.loop-i-preserved
loop-i-preserved c =
    points_on _ _ c.loop-i-test.true (sym (asked (goal.at.loop-i-preserved c).After-coordinate) ∙ c.if-not-coordinate.false) ∙ c.loop-i.invariant

pub returns : goal.returns
returns c = sym (sym c.loop-i.invariant ∙ points_end _ _ c.loop-i-test.false)
