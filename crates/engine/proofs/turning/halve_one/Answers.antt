-- Each new register is the one of `turn halve`, and fits 64 bits.
use Prim.Native.Nat.{ℕ, ◌+◌}
use lib.IntN.{◌-ℤ◌}
use mir.Syntax.{w64}
use Rattle.numbers.proofs.Machine.{Num, local, shift, minus, fits}
use Rattle.coordinate.specs.declared.Registers.{Registers}
use Rattle.coordinate.specs.Registers.{turn, ◌>>◌}
use Rattle.engine.proofs.Fitting.{Widened, widened, told}
use Rattle.engine.proofs.turning.halve_one.Goals as goal
use Rattle.engine.proofs.turning.halve_one.Goals.{After-from-old}

abbrev r : After-from-old → Registers
r w = w.args.r

abbrev n : After-from-old → ℕ
n w = w.args.at.level

abbrev old : (w : After-from-old) → Widened w.from-old.result (r w)
old w = widened _ (r w) (told w.well_formed.0.1.1) w.from-old.ensures

abbrev a : (w : After-from-old) → Num 2147483648 ((r w).a >> 1)
a w = local w64 tt (shift 1 (old w).a)

abbrev b : (w : After-from-old) → Num 4294967296 ((r w).b -ℤ ((r w).a >> 1))
b w = minus (old w).b (a w)

abbrev c : (w : After-from-old) → Num 6442450944 ((r w).c -ℤ (((r w).b -ℤ ((r w).a >> 1)) >> (n w + 2)))
c w = minus (old w).c (local w64 tt (shift (n w + 2) (local w64 tt (b w))))

pub overflow_sub-result : goal.overflow_sub-result
overflow_sub-result t = fits tt (c (goal.at.overflow_sub-result t).After-from-old)

pub returns : goal.returns
unfolding turn
returns t =
    let w = (goal.at.returns t).After-from-old in
    λ i. record { a = (a w).is i; b = (local w64 tt (b w)).is i; c = (local w64 tt (c w)).is i; d = (old w).d.is i }
