-- The increment of one coordinate, by which choosing goes: whole numbers of any size, and their magnitude.
use Rattle.std.specs.Prelude.{ℕ, ◌-◌, nat_abs}
use Rattle.coordinate.specs.declared.Registers.{Registers}
use Rattle.coordinate.specs.Registers.{double, ◌>>◌, turn}

-- the increment c >> n, and what it would be after doubling
unfoldable pub increment : ℕ → Registers → ℕ
increment n r = nat_abs (r.c >> n)

unfoldable pub doubled_increment : ℕ → Registers → ℕ
doubled_increment n r = increment (n - 1) (turn double n r)
