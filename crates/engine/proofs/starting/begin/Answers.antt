-- A refusal gives zeros; otherwise the coordinates begin as `start_registers` says.
use mathlib.Core.Path.{◌≡◌, sym, ap, ◌∙◌}
use Prim.Native.Nat.{ℕ}
use Rattle.std.proofs.Common.{rules}
use Rattle.std.specs.Prelude.{Err}
use Rattle.rules.proofs.Numbered.{number_positive}
use Rattle.rules.proofs.Refusals.{answers, refuses}
use Rattle.coordinate.specs.Curve.{Curve}
use Rattle.coordinate.specs.Registers.{start_registers}
use Rattle.operations.specs.Coordinates.{every}
use Rattle.engine.specs.Drawing.{refused}
use Rattle.engine.specs.Moved.{answered}
use Rattle.engine.specs.Start.{nothing_drawn}
use Rattle.engine.specs.Checked.{begun}
use Rattle.engine.proofs.Moved.{stood, stopped}
use Rattle.engine.proofs.starting.begin.Goals as goal

pub returns-in_err-at : goal.returns-in_err-at
unfolding begun every
returns-in_err-at c =
    let r = stopped _ c.map_err.ensures.variant c.in_err-at.was in
    let e : c.from_residual.result ≡ Err (record { refusal = r.0; drawing = nothing_drawn }) = search (rules, r.1) in
    ap answered e ∙ refuses (refused nothing_drawn) _ (rw r.1 at c.check_begin-checked.ensures) (number_positive r.0)

pub returns : goal.returns
unfolding begun every
returns c =
    let s = stood _ _ c.check_begin-checked.ensures c.map_err.ensures.cases c.map_err.ensures.variant c.in_ok-at.was in
    let here : (f : Curve) → start_registers c.in_ok-at.at.level f ≡ start_registers c.args.level f = λ f. ap (λ (n : ℕ). start_registers n f) s.2 in
    (λ i. record {
      refusal = 0;
      drawing = record {
        finest = s.1 i;
        level = s.2 i;
        q = s.3 i;
        x = (c.start_one.ensures ∙ here _) i;
        y = (c.start_one-2.ensures ∙ here _) i;
        width = (c.start_one-3.ensures ∙ here _) i;
      };
    })
    ∙ sym (answers (refused nothing_drawn) _ s.0)
