-- The point shown, in one coordinate: floor((d + 32,768) / 65,536), for any d.
use Rattle.std.specs.Prelude.{ℤ, pos, ◌+ℤ◌}
use Rattle.coordinate.specs.declared.Registers.{Registers}
use Rattle.coordinate.specs.Registers.{◌>>◌}

unfoldable pub pixel : Registers → ℤ
pixel r = (r.d +ℤ pos 32768) >> 16
