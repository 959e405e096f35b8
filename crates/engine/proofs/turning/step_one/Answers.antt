-- Each new register is the one of `turn step`, and fits 64 bits.
use Prim.Native.Nat.{ℕ}
use lib.IntN.{◌+ℤ◌}
use mir.Syntax.{w64}
use Rattle.numbers.proofs.Machine.{Num, local, shift, plus}
use Rattle.coordinate.specs.declared.Registers.{Registers}
use Rattle.coordinate.specs.Registers.{turn, ◌>>◌}
use Rattle.engine.proofs.Fitting.{Widened, widened, told}
use Rattle.engine.proofs.turning.step_one.Goals as goal
use Rattle.engine.proofs.turning.step_one.Goals.{After-from-old}

abbrev r : After-from-old → Registers
r w = w.args.r

abbrev n : After-from-old → ℕ
n w = w.args.at.level

abbrev old : (w : After-from-old) → Widened w.from-old.result (r w)
old w = widened _ (r w) (told w.well_formed.0.1.1) w.from-old.ensures

abbrev b : (w : After-from-old) → Num 4294967296 ((r w).b +ℤ (r w).a)
b w = plus (old w).b (old w).a

abbrev c : (w : After-from-old) → Num 4294967296 ((r w).c +ℤ ((r w).b >> n w))
c w = plus (old w).c (local w64 tt (shift (n w) (old w).b))

abbrev d : (w : After-from-old) → Num 4294967296 ((r w).d +ℤ ((r w).c >> n w))
d w = plus (old w).d (local w64 tt (shift (n w) (old w).c))

pub returns : goal.returns
unfolding turn
returns t =
    let w = (goal.at.returns t).After-from-old in
    λ i. record { a = (old w).a.is i; b = (local w64 tt (b w)).is i; c = (local w64 tt (c w)).is i; d = (local w64 tt (d w)).is i }
