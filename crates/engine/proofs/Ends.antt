-- Why a drawing ends: a number that falls with every chosen operation. It needs no bound on the registers, only that the double is
-- chosen with a look at the doubled increments.
use mathlib.Core.Path.{◌≡◌}
use mathlib.Core.Bool.{Bool, true, false, cond}
use Prim.Native.Nat.{ℕ, ◌+◌, ◌-◌, ◌*◌, ◌^◌, ◌≤◌, ◌<◌}
use native.Mathlib.Nat.{mul-le-mul_right}
use native.Mathlib.Omega.{arith}
use lib.Pow.{pow_pos}
use borrow.Author.Tests.{le-ltb}
use Rattle.rules.proofs.Refusals.{broken}
use Rattle.coordinate.specs.declared.Registers.{Registers}
use Rattle.coordinate.specs.Registers.{halve, double, step}
use Rattle.coordinate.specs.Increment.{doubled_increment}
use Rattle.operations.specs.Coordinates.{Coordinate}
use Rattle.operations.specs.Position.{stride}
use Rattle.operations.specs.Lawful.{Open}
use Rattle.operations.specs.Choice.{wants_halve}
use Rattle.operations.specs.ThreeRules.{Rule1, Rule2}
use Rattle.operations.proofs.Stays.{step_within}
use Rattle.operations.proofs.Choice.{halve_wanted, wants-halve, by_rules}
use Rattle.engine.specs.declared.Drawing.{Drawing}
use Rattle.engine.specs.Drawing.{of, turned}
use Rattle.engine.specs.Choice.{chosen, left}

-- the registers of every coordinate
abbrev held : Drawing → Coordinate → Registers
held d = λ c. of c d

-- after a chosen double the upper test does not ask to halve
double_holds : (upper lower : ℕ) (d : Drawing) → Rule2 d.finest upper lower d.level d.q (held d)
    → wants_halve d.finest upper (turned double d).level (held (turned double d)) ≡ false
unfolding wants_halve turned doubled_increment
double_holds upper lower d w = simp (le-ltb upper _ w.doubled_x, le-ltb upper _ w.doubled_y)

-- ---- and it falls

at_most : (F : ℕ) (b : Bool) (n : ℕ) → n ≤ F → cond b (2 * F + 1 - n) n ≤ 2 * F + 1
at_most F true n h = omega arith
at_most F false n h = omega arith

step_falls : (upper : ℕ) (d : Drawing) → d.level ≤ d.finest → d.q + stride d.finest d.level ≤ 2 ^ d.finest → left upper (turned step d) < left upper d
unfolding turned
step_falls upper d h k =
    let s = pow_pos (d.finest - d.level) in
    let less : 2 ^ d.finest - (d.q + stride d.finest d.level) + 1 ≤ 2 ^ d.finest - d.q = omega arith in
    omega (arith, mul-le-mul_right (2 * d.finest + 2) less, at_most d.finest (wants_halve d.finest upper d.level (held (turned step d))) d.level h)

halve_less : (F : ℕ) (b : Bool) (n : ℕ) → n < F → cond b (2 * F + 1 - (n + 1)) (n + 1) < 2 * F + 1 - n
halve_less F true n h = omega arith
halve_less F false n h = omega arith

halve_falls : (upper : ℕ) (d : Drawing) → Rule1 d.finest upper d.level (held d) → left upper (turned halve d) < left upper d
unfolding turned
halve_falls upper d w =
    simp (wants-halve d.finest upper d.level (held d) w)
    (omega (arith, halve_less d.finest (wants_halve d.finest upper (d.level + 1) (held (turned halve d))) d.level w.below))

double_falls : (upper lower : ℕ) (d : Drawing) → (Rule1 d.finest upper d.level (held d) → ⊥) → Rule2 d.finest upper lower d.level d.q (held d)
    → left upper (turned double d) < left upper d
unfolding turned
double_falls upper lower d h w =
    let not-halved = broken (wants_halve d.finest upper d.level (held d)) (λ e. h (halve_wanted d.finest upper d.level (held d) e)) in
    simp (not-halved, double_holds upper lower d w) (omega (arith, w.above))

pub chosen_falls : (upper lower : ℕ) (d : Drawing) → Open d.finest d.level d.q → left upper (turned (chosen upper lower d) d) < left upper d
chosen_falls upper lower d o =
    by_rules d.finest upper lower d.level d.q (held d) (λ op. left upper (turned op d) < left upper d)
    (halve_falls upper d)
    (double_falls upper lower d)
    (λ h g. step_falls upper d o.inside.level (step_within d.finest d.level d.q o))
