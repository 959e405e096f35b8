-- The path's refusal, then the room by the count of points, and then the list is filled.
use mathlib.Core.Path.{◌≡◌, ap, ◌∙◌}
use Rattle.std.proofs.Common.{rules}
use Rattle.std.specs.Prelude.{Err}
use Rattle.path.specs.Answer.{Drawn, answered}
use Rattle.drawer.proofs.Answers.{drawn_refused, drawn_nine, drawn_filled}
use Rattle.drawer.proofs.draw.Goals as goal

pub returns-in_err-path : goal.returns-in_err-path
returns-in_err-path c =
    let r = c.in_err-path.field-0.0 in
    let e : c.from_residual.result ≡ Err r = search rules in
    let both = drawn_refused _ c.args.list.now r c.in_err-path.ensures.refusal in
    record { answer = ap answered e ∙ both.0; list_after = both.1 }

pub returns-then-list-totals : goal.returns-then-list-totals
returns-then-list-totals c =
    let count = ap (λ (d : Drawn). d.points) c.draw_into-totals.ensures.value in
    let both = drawn_nine _ c.args.list.now c.in_ok-path.path c.in_ok-path.ensures.path _ count c.if-list-totals.true in
    record { answer = both.0; list_after = both.1 }

pub returns : goal.returns
returns c =
    let count = ap (λ (d : Drawn). d.points) c.draw_into-totals.ensures.value in
    let both = drawn_filled _ c.args.list.now c.in_ok-path.path c.in_ok-path.ensures.path _ count c.if-list-totals.false in
    record { answer = c.draw_into.ensures.value ∙ both.0; list_after = c.draw_into.ensures.list_after ∙ both.1 }
