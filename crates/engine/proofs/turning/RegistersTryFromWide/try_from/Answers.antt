-- The first number that does not fit is the error; where all fit each is kept as it is.
use Rattle.numbers.proofs.Machine.{narrows}
use Rattle.coordinate.proofs.Bits.{registers_fit}
use Rattle.engine.proofs.Fitting.{told_wide, keeps, fit, unfit}
use Rattle.engine.proofs.turning.RegistersTryFromWide.try_from.Goals as goal

pub returns-in_err-try_from : goal.returns-in_err-try_from
returns-in_err-try_from c =
    unfit _ _ c.from_residual.ensures.0 (λ e. c.in_err-try_from.ensures (narrows (registers_fit _ e).a))

pub returns-in_err-try_from-2 : goal.returns-in_err-try_from-2
returns-in_err-try_from-2 c =
    unfit _ _ c.from_residual-in_err-try_from-2.ensures.0 (λ e. c.in_err-try_from-2.ensures (narrows (registers_fit _ e).b))

pub returns-in_err-try_from-3 : goal.returns-in_err-try_from-3
returns-in_err-try_from-3 c =
    unfit _ _ c.from_residual-in_err-try_from-3.ensures.0 (λ e. c.in_err-try_from-3.ensures (narrows (registers_fit _ e).c))

pub returns-in_err-try_from-4 : goal.returns-in_err-try_from-4
returns-in_err-try_from-4 c =
    unfit _ _ c.from_residual-in_err-try_from-4.ensures.0 (λ e. c.in_err-try_from-4.ensures (narrows (registers_fit _ e).d))

pub returns : goal.returns
returns c =
    let wide = told_wide c.well_formed.0.1.1 in
    let a = keeps wide.a c.in_ok-try_from.ensures in
    let b = keeps wide.b c.in_ok-try_from-2.ensures in
    let c' = keeps wide.c c.in_ok-try_from-3.ensures in
    let d = keeps wide.d c.in_ok-try_from-4.ensures in
    fit c.args.w (record { a = a.0; b = b.0; c = c'.0; d = d.0 }) a.1 b.1 c'.1 d.1
