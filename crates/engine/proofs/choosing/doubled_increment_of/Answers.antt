-- What is reckoned is the right side of `doubled_from_b_and_c`, and fits 64 bits.
use mathlib.Core.Path.{sym, ap, ap₂, ◌∙◌}
use Prim.Native.Nat.{ℕ, ◌+◌, ◌-◌}
use lib.IntN.{ℤ, nat_abs, ◌+ℤ◌}
use mir.Syntax.{w64}
use Rattle.numbers.proofs.Machine.{Num, local, shift, plus}
use Rattle.coordinate.specs.Registers.{◌>>◌}
use Rattle.coordinate.proofs.Increment.{doubled_from_b_and_c}
use Rattle.engine.proofs.Fitting.{from_field}
use Rattle.engine.proofs.choosing.doubled_increment_of.Goals as goal
use Rattle.engine.proofs.choosing.doubled_increment_of.Goals.{After-from-2}

abbrev b_by : After-from-2 → ℕ
b_by c = c.args.at.level + 1

abbrev c_by : After-from-2 → ℕ
c_by c = c.args.at.level - 1

abbrev b : (c : After-from-2) → Num 2147483648 c.args.b
b c = from_field c.ranges.b c.from-2.ensures

abbrev doubled : (c : After-from-2) → Num 4294967296 (c.args.c +ℤ (c.args.b >> b_by c))
doubled c = plus (from_field c.ranges.c c.from.ensures) (local w64 tt (shift (b_by c) (b c)))

abbrev shifted : (c : After-from-2) → Num 4294967296 ((c.args.c +ℤ (c.args.b >> b_by c)) >> c_by c)
shifted c = local w64 tt (shift (c_by c) (local w64 tt (doubled c)))

pub returns : goal.returns
returns c r b_is c_is =
    let s = (goal.at.returns c).After-from-2 in
    c.unsigned_abs.ensures.value
    ∙ ap nat_abs ((shifted s).is ∙ ap₂ (λ (y z : ℤ). (z +ℤ (y >> b_by s)) >> c_by s) (sym b_is) (sym c_is))
    ∙ sym (doubled_from_b_and_c c.args.at.level r)
