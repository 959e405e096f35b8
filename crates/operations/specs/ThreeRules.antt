-- The three rules of choosing as document 01 words them, said of the numbers: increments are those of x and y, in magnitude.
use Rattle.std.specs.Prelude.{◌⊎◌, ℕ, ◌≤◌, ◌<◌}
use Rattle.coordinate.specs.declared.Registers.{Registers}
use Rattle.coordinate.specs.Registers.{Operation, halve, double, step}
use Rattle.coordinate.specs.Increment.{increment, doubled_increment}
use Rattle.operations.specs.Coordinates.{Coordinate, in_x, in_y}
use Rattle.operations.specs.Lawful.{Even}

-- 1: either increment larger than upper, and level below F
pub record Rule1 (F upper n : ℕ) (r : Coordinate → Registers) : Type 0 where
  pub either : (upper < increment n (r in_x)) ⊎ (upper < increment n (r in_y))
  pub below : n < F

-- 2: both increments smaller than lower, level above 0, q a multiple of 2s, and after doubling neither increment larger than upper
pub record Rule2 (F upper lower n q : ℕ) (r : Coordinate → Registers) : Type 0 where
  pub x : increment n (r in_x) < lower
  pub y : increment n (r in_y) < lower
  pub above : 0 < n
  pub even : Even F n q
  pub doubled_x : doubled_increment n (r in_x) ≤ upper
  pub doubled_y : doubled_increment n (r in_y) ≤ upper

-- what the rules say where they choose an operation: the first rule that holds chooses, and 3 where neither does
abbrev pub Ruled : (F upper lower n q : ℕ) → (Coordinate → Registers) → Operation → Type 0
Ruled F upper lower n q r halve = Rule1 F upper n r
Ruled F upper lower n q r double = (Rule1 F upper n r → ⊥) × Rule2 F upper lower n q r
Ruled F upper lower n q r step = (Rule1 F upper n r → ⊥) × (Rule2 F upper lower n q r → ⊥)
