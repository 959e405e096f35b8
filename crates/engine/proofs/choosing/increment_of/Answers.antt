-- The shifted c, in magnitude.
use mathlib.Core.Path.{sym, ap, ◌∙◌}
use lib.IntN.{ℤ, nat_abs}
use mir.Syntax.{w32}
use Rattle.numbers.proofs.Machine.{Num, field, kept, shift, shift_fits}
use Rattle.coordinate.specs.Registers.{◌>>◌}
use Rattle.coordinate.specs.Increment.{increment}
use Rattle.engine.proofs.choosing.increment_of.Goals as goal
use Rattle.engine.proofs.choosing.increment_of.Goals.{Start}

abbrev shifted : (c : Start) → Num 2147483648 (c.args.c >> c.args.at.level)
shifted c = kept w32 (shift_fits c.args.at.level c.ranges.c) (shift c.args.at.level (field c.ranges.c))

pub returns : goal.returns
unfolding increment
returns c r is = c.unsigned_abs.ensures.value ∙ ap nat_abs ((shifted (goal.at.returns c).Start).is ∙ ap (λ (z : ℤ). z >> c.args.at.level) (sym is))
