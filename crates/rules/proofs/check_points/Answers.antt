-- Each return rewrites `points_refusal` with the tests that led there.
use mathlib.Core.Path.{sym, ◌∙◌}
use Rattle.rules.specs.Rules.{points_refusal}
use Rattle.rules.proofs.check_points.Goals as goal

pub returns-then-not-points : goal.returns-then-not-points
unfolding points_refusal
returns-then-not-points c = simp (sym c.points.ensures ∙ c.if-not-points.true)

pub returns-then-not-chained : goal.returns-then-not-chained
unfolding points_refusal
returns-then-not-chained c =
    let d = c in
    simp (sym d.points.ensures ∙ d.if-not-points.false, sym c.chained.ensures ∙ c.if-not-chained.true)

pub returns : goal.returns
unfolding points_refusal
returns c =
    let d = c in
    simp (sym d.points.ensures ∙ d.if-not-points.false, sym c.chained.ensures ∙ c.if-not-chained.false)
