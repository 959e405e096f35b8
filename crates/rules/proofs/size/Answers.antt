-- Each return rewrites `is_size` with what the calls found.
use mathlib.Core.Path.{sym, ◌∙◌}
use Rattle.rules.specs.Rules.{is_size}
use Rattle.rules.proofs.size.Goals as goal

pub returns-then-not-segments : goal.returns-then-not-segments
unfolding is_size
returns-then-not-segments c = simp (sym c.segments.ensures ∙ c.if-not-segments.true)

pub returns : goal.returns
unfolding is_size
returns c =
    let d = c in
    simp (sym d.segments.ensures ∙ d.if-not-segments.false, c.point_numbers.ensures)
