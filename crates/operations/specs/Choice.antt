-- Choosing the next operation at level n and position q, by the increments of x and y: whole numbers of any size. The width takes no part.
use Rattle.std.specs.Prelude.{Bool, cond, ◌&&◌, ◌||◌, ℕ, leb, ltb}
use Rattle.coordinate.specs.declared.Registers.{Registers}
use Rattle.coordinate.specs.Registers.{Operation, halve, double, step}
use Rattle.coordinate.specs.Increment.{increment, doubled_increment}
use Rattle.operations.specs.Coordinates.{Coordinate, in_x, in_y}
use Rattle.operations.specs.Position.{is_aligned}

-- 1: either increment larger than upper, and level below F
unfoldable pub wants_halve : ℕ → ℕ → ℕ → (Coordinate → Registers) → Bool
wants_halve F upper n r = (ltb upper (increment n (r in_x)) || ltb upper (increment n (r in_y))) && ltb n F

-- 2: both increments smaller than lower, level above 0, q a multiple of 2s, and after doubling neither increment larger than upper
unfoldable pub wants_double : ℕ → ℕ → ℕ → ℕ → ℕ → (Coordinate → Registers) → Bool
wants_double F upper lower n q r =
    ltb 0 n
    && (ltb (increment n (r in_x)) lower && ltb (increment n (r in_y)) lower)
    && is_aligned F n q
    && (leb (doubled_increment n (r in_x)) upper && leb (doubled_increment n (r in_y)) upper)

-- in this order; 3: otherwise step
unfoldable pub choose : ℕ → ℕ → ℕ → ℕ → ℕ → (Coordinate → Registers) → Operation
choose F upper lower n q r = cond (wants_halve F upper n r) halve (cond (wants_double F upper lower n q r) double step)
