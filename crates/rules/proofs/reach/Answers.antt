-- One shifted by a level from 1 to 11 is a power of two from 2 to 2,048; a finer one has the most reach.
use mathlib.Core.Path.{sym, ap, ◌∙◌}
use Prim.Native.Nat.{ℕ, ◌-◌, ◌/◌, ◌^◌}
use native.Mathlib.Omega.{arith}
use lib.Pow.{pow_mono}
use Rattle.numbers.proofs.Machine.{power}
use Rattle.rules.specs.Rules as rules
use Rattle.rules.proofs.Reaches.{reach_coarsest, reach_fine, reach_finer}
use Rattle.rules.proofs.reach.Goals as goal

pub returns-then-f-eq0 : goal.returns-then-f-eq0
returns-then-f-eq0 c =
    let D = c.args.degree in
    sym (ap (rules.reach D) c.if-f-eq0.true ∙ reach_coarsest D)

pub returns-then-f-gt11 : goal.returns-then-f-gt11
returns-then-f-gt11 c =
    let a = c.args in
    c.most_reach.ensures ∙ sym (reach_finer a.degree a.f c.if-f-gt11.true)

pub overflow_sub-result : goal.overflow_sub-result
overflow_sub-result c =
    let f = c.args.f in
    rw (power f (omega (arith, c.if-f-gt11.false))) (pow_mono {i = 1} (omega (arith, c.if-f-eq0.false)))

pub returns : goal.returns
returns c =
    let a = c.args in
    rw (power a.f (omega (arith, c.if-f-gt11.false)))
    (ap (λ (n : ℕ). (2 ^ a.f - 2) / n) c.number.ensures ∙ sym (reach_fine a.degree a.f c.if-f-gt11.false))
