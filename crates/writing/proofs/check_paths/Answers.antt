-- Each turn asks one path: the refusal of those still to come is that of all.
use mathlib.Core.Path.{◌≡◌, sym, ◌∙◌}
use Prim.Native.Nat.{◌+◌, ◌-◌}
use native.Mathlib.Omega.{arith}
use Rattle.std.proofs.lemmas.Result.{err_from_is_err_and}
use Rattle.rules.proofs.Numbered.{number_positive}
use Rattle.sheet.specs.Writing.{path_refusal}
use Rattle.sheet.proofs.Writing.{paths_more, paths_stop, paths_end, paths_left, path_fits}
use Rattle.writing.proofs.check_paths.Goals as goal

pub returns-in_err-check_path : goal.returns-in_err-check_path
returns-in_err-check_path c =
    let asked = c.in_err-check_path.ensures in
    let p = err_from_is_err_and c.from_residual.result c.from_residual.ensures.1 in
    let stop = paths_stop _ _ _ (omega arith) (λ z. number_positive _ (asked ∙ z)) in
    rw (p.1, p.2) (asked ∙ sym stop ∙ c.loop.invariant.1)

pub loop-preserved : goal.loop-preserved
loop-preserved c =
    let l = c.args.numbers.now in
    let accepted : path_refusal l c.loop.at ≡ 0 = sym c.in_ok-check_path.ensures in
    let less : c.args.paths - (c.loop.counter + 1) ≡ c.args.paths - c.loop.counter - 1 = omega arith in
    let more = paths_more l (c.args.paths - c.loop.counter) c.loop.at (omega arith) accepted in
    (omega (arith, c.end-at.ensures, path_fits l c.loop.at accepted), rw (less, c.end-at.ensures) (sym more ∙ c.loop.invariant.1))

pub returns-then-at-numbers : goal.returns-then-at-numbers
returns-then-at-numbers c = sym (sym c.loop.invariant.1 ∙ paths_left _ _ _ (omega arith) c.if-at-numbers.true)

pub returns : goal.returns
returns c = sym (sym c.loop.invariant.1 ∙ paths_end _ _ _ (omega arith) c.if-at-numbers.false)
