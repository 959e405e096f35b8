-- Every sum and product is below 2^31, since the points are coordinates; they are the coefficients by `by-differences`.
use mathlib.Core.Path.{◌∙◌}
use lib.IntN.{pos, ◌+ℤ◌, ◌-ℤ◌, ◌*ℤ◌}
use mir.Syntax.{w32, w64}
use Rattle.numbers.proofs.Machine.{Num, known, literal, local, plus, minus, times, fits}
use Rattle.rules.specs.declared.Degree.TheVariants.{Cubic}
use Rattle.coordinate.specs.Control.{Control}
use Rattle.coordinate.proofs.Points.{Extent, extent}
use Rattle.coordinate.proofs.Coefficients.{by-differences}
use Rattle.engine.proofs.cubic.of_coordinates.Goals as goal
use Rattle.engine.proofs.cubic.of_coordinates.Goals.{Start}

abbrev p : Start → Control Cubic
p c = c.args.p

at_points : (c : Start) → Extent Cubic 16384 (p c)
at_points c = extent Cubic (p c) c.requires

-- ---- the numbers of the code

abbrev first : (c : Start) → Num 32768 ((p c).p1 -ℤ (p c).p0)
first c = minus (known w32 tt (at_points c).1) (known w32 tt (at_points c).0)

abbrev second : (c : Start) → Num 32768 ((p c).p2 -ℤ (p c).p1)
second c = minus (known w32 tt (at_points c).2) (known w32 tt (at_points c).1)

abbrev third : (c : Start) → Num 32768 ((p c).p3 -ℤ (p c).p2)
third c = minus (known w32 tt (at_points c).3) (known w32 tt (at_points c).2)

abbrev twice : (c : Start) → Num 65536 (pos 2 *ℤ ((p c).p2 -ℤ (p c).p1))
twice c = times (literal 2) (local w32 tt (second c))

abbrev less_twice : (c : Start) → Num 98304 (((p c).p3 -ℤ (p c).p2) -ℤ pos 2 *ℤ ((p c).p2 -ℤ (p c).p1))
less_twice c = minus (local w32 tt (third c)) (local w32 tt (twice c))

abbrev A : (c : Start) → Num 131072 (((p c).p3 -ℤ (p c).p2) -ℤ pos 2 *ℤ ((p c).p2 -ℤ (p c).p1) +ℤ ((p c).p1 -ℤ (p c).p0))
A c = plus (local w32 tt (less_twice c)) (local w32 tt (first c))

abbrev bend : (c : Start) → Num 65536 (((p c).p2 -ℤ (p c).p1) -ℤ ((p c).p1 -ℤ (p c).p0))
bend c = minus (local w32 tt (second c)) (local w32 tt (first c))

abbrev B : (c : Start) → Num 196608 (pos 3 *ℤ (((p c).p2 -ℤ (p c).p1) -ℤ ((p c).p1 -ℤ (p c).p0)))
B c = times (literal 3) (local w32 tt (bend c))

abbrev C : (c : Start) → Num 98304 (pos 3 *ℤ ((p c).p1 -ℤ (p c).p0))
C c = times (literal 3) (local w32 tt (first c))

-- ---- what the code asks

pub overflow_sub-first : goal.overflow_sub-first
overflow_sub-first c = fits tt (first (goal.at.overflow_sub-first c).Start)

pub overflow_sub-second : goal.overflow_sub-second
overflow_sub-second c = fits tt (second (goal.at.overflow_sub-second c).Start)

pub overflow_sub-third : goal.overflow_sub-third
overflow_sub-third c = fits tt (third (goal.at.overflow_sub-third c).Start)

pub overflow_mul-a : goal.overflow_mul-a
overflow_mul-a c = fits tt (twice (goal.at.overflow_mul-a c).Start)

pub overflow_sub-a : goal.overflow_sub-a
overflow_sub-a c = fits tt (less_twice (goal.at.overflow_sub-a c).Start)

pub overflow_add-a : goal.overflow_add-a
overflow_add-a c = fits tt (A (goal.at.overflow_add-a c).Start)

pub overflow_sub-b : goal.overflow_sub-b
overflow_sub-b c = fits tt (bend (goal.at.overflow_sub-b c).Start)

pub overflow_mul-b : goal.overflow_mul-b
overflow_mul-b c = fits tt (B (goal.at.overflow_mul-b c).Start)

pub overflow_mul-c : goal.overflow_mul-c
overflow_mul-c c = fits tt (C (goal.at.overflow_mul-c c).Start)

pub returns : goal.returns
returns c =
    let s = (goal.at.returns c).Start in
    (λ i. record {
      A = (local w64 tt (local w32 tt (A s))).is i;
      B = (local w64 tt (local w32 tt (B s))).is i;
      C = (local w64 tt (local w32 tt (C s))).is i;
      D = (local w64 tt (known w32 tt (at_points s).0)).is i;
    })
    ∙ by-differences Cubic (p s)
