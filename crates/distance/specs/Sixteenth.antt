-- Order 13, of a drawing at finest level 11: every coordinate held is less than 4,096/65,536, one sixteenth of a unit, from the exact curve. f is the
-- curve of each coordinate, `along` is the sum of the steps taken.
use Rattle.std.specs.Prelude.{◌≡◌, ℕ, ◌*◌, ◌^◌, ◌<◌, pos, nat_abs, ◌-ℤ◌, ◌*ℤ◌}
use Rattle.coordinate.specs.Curve.{Curve, exact}
use Rattle.operations.specs.Coordinates.{Coordinate, in_x, in_y, in_width}
use Rattle.engine.specs.declared.Drawing.{Drawing}

pub record Sixteenth (f : Coordinate → Curve) (d : Drawing) (along : ℕ) : Type 0 where
  pub parameter : d.q ≡ along
  pub x : nat_abs (d.x.d *ℤ pos (2 ^ 33) -ℤ pos 65536 *ℤ exact 11 (f in_x) along) < 4096 * 2 ^ 33
  pub y : nat_abs (d.y.d *ℤ pos (2 ^ 33) -ℤ pos 65536 *ℤ exact 11 (f in_y) along) < 4096 * 2 ^ 33
  pub width : nat_abs (d.width.d *ℤ pos (2 ^ 33) -ℤ pos 65536 *ℤ exact 11 (f in_width) along) < 4096 * 2 ^ 33
