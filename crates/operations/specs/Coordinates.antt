-- The coordinates of a drawing: x, y and the width. What holds of a coordinate, its registers or its control points are functions of it.
use Rattle.std.specs.Prelude.{Bool, ◌&&◌}

pub data Coordinate : Type 0 where
  in_x : Coordinate
  in_y : Coordinate
  in_width : Coordinate

-- what is given for each
abbrev pub pick : {A : Type 0} → A → A → A → Coordinate → A
pick x y width in_x = x
pick x y width in_y = y
pick x y width in_width = width

-- a test of every coordinate
unfoldable pub every : (Coordinate → Bool) → Bool
every holds = holds in_x && holds in_y && holds in_width

-- the two of a pixel: what is chosen, and that neighbouring points touch, is of x and y alone
abbrev pub OfPixel : Coordinate → Type 0
OfPixel in_x = Unit
OfPixel in_y = Unit
OfPixel in_width = ⊥
