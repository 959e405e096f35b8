-- Each return rewrites `head_refusal` with the tests that led there.
use mathlib.Core.Path.{sym, ◌∙◌}
use Rattle.rules.specs.Rules.{head_refusal}
use Rattle.rules.proofs.check_head.Goals as goal

pub returns-then-not-segments : goal.returns-then-not-segments
unfolding head_refusal
returns-then-not-segments c = simp (sym c.segments.ensures ∙ c.if-not-segments.true)

pub returns-then-not-level : goal.returns-then-not-level
unfolding head_refusal
returns-then-not-level c =
    let d = c in
    simp (sym d.segments.ensures ∙ d.if-not-segments.false, sym c.level.ensures ∙ c.if-not-level.true)

pub returns : goal.returns
unfolding head_refusal
returns c =
    let d = c in
    simp (sym d.segments.ensures ∙ d.if-not-segments.false, sym c.level.ensures ∙ c.if-not-level.false)
