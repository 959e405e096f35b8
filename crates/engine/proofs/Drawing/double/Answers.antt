-- A refusal hands the drawing back; otherwise the coordinates are doubled and land.
use mathlib.Core.Path.{◌≡◌, refl, ap, ◌∙◌}
use borrow.Author.Tests.{ltb-true}
use Rattle.std.proofs.Common.{rules}
use Rattle.std.specs.Prelude.{Err}
use Rattle.rules.proofs.Refusals.{rule_kept}
use Rattle.rules.proofs.Numbered.{number_positive}
use Rattle.coordinate.specs.Registers.{double}
use Rattle.operations.proofs.Gates.{call_opens}
use Rattle.engine.specs.Moved.{answered}
use Rattle.engine.proofs.Moved.{stood, stopped}
use Rattle.engine.proofs.Answers.{call_refused, call_lands}
use Rattle.engine.proofs.Drawing.double.Goals as goal

pub returns-in_err-at : goal.returns-in_err-at
returns-in_err-at c =
    let r = stopped _ c.map_err.ensures.variant c.in_err-at.was in
    let e : c.from_residual.result ≡ Err (record { refusal = r.0; drawing = c.args.self }) = search (rules, r.1) in
    ap answered e ∙ call_refused double c.args.self (rw r.1 at c.to_double.ensures) (number_positive r.0)

pub overflow_sub-at : goal.overflow_sub-at
overflow_sub-at c =
    let s = stood _ _ c.to_double.ensures c.map_err.ensures.cases c.map_err.ensures.variant c.in_ok-at.was in
    rw s.2 (ltb-true _ _ (rule_kept _ _ _ (call_opens _ double _ _ s.0).1).0)

pub returns : goal.returns
returns c =
    call_lands double _ c.in_ok-at.at _ _ _ _ _ (stood _ _ c.to_double.ensures c.map_err.ensures.cases c.map_err.ensures.variant c.in_ok-at.was)
    c.double_one-x.ensures c.double_one-y.ensures c.double_one-width.ensures refl c.land.ensures
