-- The length of a list: over neighbouring entries, 0 where the pixel is the same, 1,000 for a move in one coordinate, 1,414 in both. A pixel is x and y,
-- and the width is no part of it.
use Rattle.std.specs.Prelude.{cond, List, [], ◌∷◌, ℕ, ◌+◌}
use Rattle.numbers.specs.Tests.{eqbℤ}
use Rattle.entries.specs.declared.Entry.{Entry}

unfoldable pub move_length : Entry → Entry → ℕ
move_length e f = cond (eqbℤ e.x f.x) (cond (eqbℤ e.y f.y) 0 1000) (cond (eqbℤ e.y f.y) 1000 1414)

-- from e on
unfoldable pub length_from : Entry → List Entry → ℕ
length_from e [] = 0
length_from e (f ∷ es) = move_length e f + length_from f es

unfoldable pub length_of : List Entry → ℕ
length_of [] = 0
length_of (e ∷ es) = length_from e es
