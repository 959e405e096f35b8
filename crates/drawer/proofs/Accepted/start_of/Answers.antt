-- The start is accepted, so that it begins.
use mathlib.Core.Path.{ap, ◌∙◌}
use Rattle.engine.specs.Moved.{Moved}
use Rattle.drawer.proofs.Starts.{is_given, given, segment_starts}
use Rattle.drawer.proofs.Accepted.start_of.Goals as goal

pub unwrap-requires : goal.unwrap-requires
unwrap-requires g c =
    let p = c.args.self in
    is_given _
    (ap (λ (m : Moved). m.refusal)
    (c.start.ensures
    ∙ segment_starts p.points.now p.shape p.limits p.accepted _ c.requires.0 c.args.k c.requires.1 _ _ _ c.read-x.ensures c.read-y.ensures c.read-width.ensures))

pub returns : goal.returns
returns g c =
    let p = c.args.self in
    ap (λ (m : Moved). m.drawing)
    (given c.unwrap.ensures c.start.ensures
    ∙ segment_starts p.points.now p.shape p.limits p.accepted _ c.requires.0 c.args.k c.requires.1 _ _ _ c.read-x.ensures c.read-y.ensures c.read-width.ensures)
