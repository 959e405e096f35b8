-- Every sum and product is below 2^31, since the points are coordinates; they are the coefficients by `by-differences`.
use mathlib.Core.Path.{◌∙◌}
use lib.IntN.{pos, ◌-ℤ◌, ◌*ℤ◌}
use mir.Syntax.{w32, w64}
use Rattle.numbers.proofs.Machine.{Num, known, literal, local, minus, times, fits}
use Rattle.rules.specs.declared.Degree.TheVariants.{Quadratic}
use Rattle.coordinate.specs.Control.{Control}
use Rattle.coordinate.proofs.Points.{Extent, extent}
use Rattle.coordinate.proofs.Coefficients.{by-differences}
use Rattle.engine.proofs.quadratic.of_coordinates.Goals as goal
use Rattle.engine.proofs.quadratic.of_coordinates.Goals.{Start}

abbrev p : Start → Control Quadratic
p c = c.args.p

at_points : (c : Start) → Extent Quadratic 16384 (p c)
at_points c = extent Quadratic (p c) c.requires

-- ---- the numbers of the code

abbrev first : (c : Start) → Num 32768 ((p c).p1 -ℤ (p c).p0)
first c = minus (known w32 tt (at_points c).1) (known w32 tt (at_points c).0)

abbrev second : (c : Start) → Num 32768 ((p c).p2 -ℤ (p c).p1)
second c = minus (known w32 tt (at_points c).2) (known w32 tt (at_points c).1)

abbrev B : (c : Start) → Num 65536 (((p c).p2 -ℤ (p c).p1) -ℤ ((p c).p1 -ℤ (p c).p0))
B c = minus (local w32 tt (second c)) (local w32 tt (first c))

abbrev C : (c : Start) → Num 65536 (pos 2 *ℤ ((p c).p1 -ℤ (p c).p0))
C c = times (literal 2) (local w32 tt (first c))

-- ---- what the code asks

pub overflow_sub-first : goal.overflow_sub-first
overflow_sub-first c = fits tt (first (goal.at.overflow_sub-first c).Start)

pub overflow_sub-second : goal.overflow_sub-second
overflow_sub-second c = fits tt (second (goal.at.overflow_sub-second c).Start)

pub overflow_sub-b : goal.overflow_sub-b
overflow_sub-b c = fits tt (B (goal.at.overflow_sub-b c).Start)

pub overflow_mul-c : goal.overflow_mul-c
overflow_mul-c c = fits tt (C (goal.at.overflow_mul-c c).Start)

pub returns : goal.returns
returns c =
    let s = (goal.at.returns c).Start in
    (λ i. record {
      A = pos 0;
      B = (local w64 tt (local w32 tt (B s))).is i;
      C = (local w64 tt (local w32 tt (C s))).is i;
      D = (local w64 tt (known w32 tt (at_points s).0)).is i;
    })
    ∙ by-differences Quadratic (p s)
