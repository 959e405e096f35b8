-- A refusal hands the drawing back; otherwise the coordinates are halved and land.
use mathlib.Core.Path.{◌≡◌, refl, ap, ◌∙◌}
use Rattle.std.proofs.Common.{rules}
use Rattle.std.specs.Prelude.{Err}
use Rattle.rules.proofs.Numbered.{number_positive}
use Rattle.coordinate.specs.Registers.{halve}
use Rattle.engine.specs.Moved.{answered}
use Rattle.engine.proofs.Moved.{stood, stopped}
use Rattle.engine.proofs.Answers.{call_refused, call_lands}
use Rattle.engine.proofs.Drawing.halve.Goals as goal

pub returns-in_err-at : goal.returns-in_err-at
returns-in_err-at c =
    let r = stopped _ c.map_err.ensures.variant c.in_err-at.was in
    let e : c.from_residual.result ≡ Err (record { refusal = r.0; drawing = c.args.self }) = search (rules, r.1) in
    ap answered e ∙ call_refused halve c.args.self (rw r.1 at c.to_halve.ensures) (number_positive r.0)

pub returns : goal.returns
returns c =
    call_lands halve _ c.in_ok-at.at _ _ _ _ _ (stood _ _ c.to_halve.ensures c.map_err.ensures.cases c.map_err.ensures.variant c.in_ok-at.was)
    c.halve_one-x.ensures c.halve_one-y.ensures c.halve_one-width.ensures refl c.land.ensures
