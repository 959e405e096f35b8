-- Each new register is the one of `turn double`, and fits 64 bits.
use Prim.Native.Nat.{◌+◌}
use lib.IntN.{pos, ◌+ℤ◌, ◌*ℤ◌}
use mir.Syntax.{w64}
use Rattle.numbers.proofs.Machine.{Num, literal, local, shift, plus, times}
use Rattle.coordinate.specs.declared.Registers.{Registers}
use Rattle.coordinate.specs.Registers.{turn, ◌>>◌}
use Rattle.engine.proofs.Fitting.{Widened, widened, told}
use Rattle.engine.proofs.turning.double_one.Goals as goal
use Rattle.engine.proofs.turning.double_one.Goals.{After-from-old}

abbrev r : After-from-old → Registers
r w = w.args.r

abbrev old : (w : After-from-old) → Widened w.from-old.result (r w)
old w = widened _ (r w) (told w.well_formed.0.1.1) w.from-old.ensures

abbrev a : (w : After-from-old) → Num 4294967296 (pos 2 *ℤ (r w).a)
a w = times (literal 2) (old w).a

abbrev b : (w : After-from-old) → Num 4294967296 ((r w).b +ℤ (r w).a)
b w = plus (old w).b (old w).a

abbrev c : (w : After-from-old) → Num 4294967296 ((r w).c +ℤ ((r w).b >> (w.args.at.level + 1)))
c w = plus (old w).c (local w64 tt (shift (w.args.at.level + 1) (old w).b))

pub returns : goal.returns
unfolding turn
returns t =
    let w = (goal.at.returns t).After-from-old in
    λ i. record { a = (local w64 tt (a w)).is i; b = (local w64 tt (b w)).is i; c = (local w64 tt (c w)).is i; d = (old w).d.is i }
