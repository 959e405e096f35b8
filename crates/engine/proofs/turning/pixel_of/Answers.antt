-- The rounded d is at most 32,769 in size, so it fits 32 bits again.
use lib.IntN.{pos, ◌+ℤ◌}
use mir.Syntax.{w32, w64}
use Rattle.numbers.proofs.Machine.{Num, literal, local, shift_to, plus}
use Rattle.coordinate.specs.Registers.{◌>>◌}
use Rattle.coordinate.specs.Shown.{pixel}
use Rattle.coordinate.proofs.Bits.{Fits32}
use Rattle.engine.proofs.Fitting.{told, from_field}
use Rattle.engine.proofs.turning.pixel_of.Goals as goal
use Rattle.engine.proofs.turning.pixel_of.Goals.{After-from}

fitting : (c : After-from) → Fits32 c.args.r
fitting c = told c.well_formed.0.1.1

abbrev d : (c : After-from) → Num 2147483648 c.args.r.d
d c = from_field (fitting c).d c.from.ensures

abbrev rounded : (c : After-from) → Num 32769 ((c.args.r.d +ℤ pos 32768) >> 16)
rounded c = local w64 tt (shift_to 16 32769 tt (local w64 tt (plus (d c) (literal 32768))))

pub returns : goal.returns
unfolding pixel
returns c = (local w32 tt (rounded c)).is
