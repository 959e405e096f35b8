-- The coefficients are reckoned where both rules are kept.
use Rattle.engine.proofs.Begun.{kept_checked, broken_checked}
use Rattle.engine.proofs.starting.check.Goals as goal

pub returns-then-inside-near : goal.returns-then-inside-near
returns-then-inside-near g c =
    kept_checked g.C.Curve.degree c.args.reach (g.C.Curve.control c.args.p) _ _ _ c.inside-inside.ensures c.near-near.ensures
    c.if-inside-near.true c.coefficients.ensures

pub returns : goal.returns
returns g c =
    broken_checked g.C.Curve.degree c.args.reach (g.C.Curve.control c.args.p) _ _ _ c.inside-inside.ensures c.near-near.ensures
    c.if-inside-near.false c.no_curve.ensures
