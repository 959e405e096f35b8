-- Each coordinate is rounded as `point` says.
use mathlib.Core.Path.{◌∙◌}
use mir.Syntax.{w32}
use mir.Facts.{to_z-of_z}
use borrow.Author.Rules.{sfits_of}
use Rattle.engine.specs.Shown.{point}
use Rattle.engine.proofs.Drawing.shown.Goals as goal

pub returns : goal.returns
unfolding point
returns c =
    let x = to_z-of_z (sfits_of {w = w32} c.pixel_of.type_inv) ∙ c.pixel_of.ensures in
    let y = to_z-of_z (sfits_of {w = w32} c.pixel_of-2.type_inv) ∙ c.pixel_of-2.ensures in
    let width = to_z-of_z (sfits_of {w = w32} c.pixel_of-3.type_inv) ∙ c.pixel_of-3.ensures in
    λ i. record { x = x i; y = y i; width = width i }
