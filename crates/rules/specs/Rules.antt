-- What the documents accept, by their refusal numbers 1 to 4, 14 and 24.
use Rattle.std.specs.Prelude.{Bool, true, cond, ◌&&◌, List, [], ◌∷◌, ℕ, ◌+◌, ◌-◌, ◌*◌, ◌/◌, ◌^◌, min, leb, ltb, eqb, ℤ, pos, negsuc, nat_abs, ◌-ℤ◌, drop}
use Rattle.std.specs.Int.Signed.{le_z}
use Rattle.rules.specs.declared.Degree.{Degree}
use Rattle.rules.specs.declared.Degree.TheVariants.{Quadratic, Cubic}
use Rattle.rules.specs.declared.Limits.{Limits}
use Rattle.rules.specs.declared.Marked.{Marked}
use Rattle.rules.specs.Refusals.{unless}

-- 24: a finest level is from 6 to 12. At finest level F a position counts 2^F-ths of the parameter.
abbrev pub most_finest : ℕ
most_finest = 12

unfoldable pub is_finest : ℕ → Bool
is_finest F = leb 6 F && leb F most_finest

-- that of a sheet's paths
abbrev pub sheet_finest : ℕ
sheet_finest = 11

-- 1: a coordinate is from −16,384 to 16,383
unfoldable pub is_coordinate : ℤ → Bool
is_coordinate p = le_z (negsuc 16383) p && le_z p (pos 16383)

-- a curve of degree D has D points after its first
abbrev pub degree : Degree → ℕ
degree Quadratic = 2
degree Cubic = 3

-- 2: neighbouring control points differ by at most W in a coordinate. Of a cubic that is the smaller of 682 and the floor of (2^F − 2)/3, of a
-- quadratic the smaller of 1,023 and (2^F − 2)/2.
abbrev pub most_reach : Degree → ℕ
most_reach Quadratic = 1023
most_reach Cubic = 682

unfoldable pub reach : Degree → ℕ → ℕ
reach D F = min (most_reach D) ((2 ^ F - 2) / degree D)

unfoldable pub are_neighbours : ℕ → ℤ → ℤ → Bool
are_neighbours W p p' = leb (nat_abs (p' -ℤ p)) W

-- 3: a start level is from 0 to the finest
unfoldable pub is_level : ℕ → ℕ → Bool
is_level F n = leb n F

-- 4: 1 ≤ upper ≤ 65,536 and 0 ≤ lower ≤ upper
unfoldable pub are_limits : ℕ → ℕ → Bool
are_limits upper lower = leb 1 upper && leb upper 65536 && leb lower upper

-- the limits of an entry without limits, in 65,536ths: about 0.7 and 0.35 of a unit
abbrev pub standard_upper : ℕ
standard_upper = 45875

abbrev pub standard_lower : ℕ
standard_lower = 22937

abbrev pub standard_limits : Limits
standard_limits = record { upper = standard_upper; lower = standard_lower }

-- 14: a path has 1 to 64 segments, and D·S + 1 points of three coordinates: x, y and the width
abbrev pub coordinates : ℕ
coordinates = 3

abbrev pub most_segments : ℕ
most_segments = 64

unfoldable pub is_segments : ℕ → Bool
is_segments S = leb 1 S && leb S most_segments

-- the numbers of a path's points
abbrev pub point_numbers : Degree → ℕ → ℕ
point_numbers D S = coordinates * (degree D * S + 1)

unfoldable pub is_size : Degree → ℕ → ℕ → Bool
is_size D S numbers = is_segments S && eqb numbers (point_numbers D S)

-- a path's two numbers before its points: 14 by its segments, then 3
unfoldable pub head_refusal : ℕ → ℕ → ℕ → ℕ
head_refusal F S n = unless (is_segments S) 14 (unless (is_level F n) 3 0)

-- ---- 1 and 2 over the points of a whole path, as numbers: x0, y0, width0, x1, y1, width1, ..

-- 1: each number is a coordinate
unfoldable pub are_points : List ℤ → Bool
are_points [] = true
are_points (p ∷ ps) = is_coordinate p && are_points ps

-- numbers that stand beside each other in two lists are neighbours
unfoldable pub are_beside : ℕ → List ℤ → List ℤ → Bool
are_beside W [] ps' = true
are_beside W (p ∷ ps) [] = true
are_beside W (p ∷ ps) (p' ∷ ps') = are_neighbours W p p' && are_beside W ps ps'

-- 2: each number and the same coordinate of the next point are neighbours
unfoldable pub are_chained : ℕ → List ℤ → Bool
are_chained W ps = are_beside W ps (drop coordinates ps)

-- 1 over all points, then 2
unfoldable pub points_refusal : ℕ → List ℤ → ℕ
points_refusal W ps = unless (are_points ps) 1 (unless (are_chained W ps) 2 0)

-- ---- numbers of a number list

-- a count, a limit, segments or a mark; one below 0 is larger than any rule allows
abbrev pub natural : ℤ → ℕ
natural (pos n) = n
natural (negsuc n) = 4294967295

-- ---- the mark: a path's degree and start level in one number, on a sheet and in its number list

-- a level with 256 added marks a quadratic path
abbrev pub quadratic_mark : ℕ
quadratic_mark = 256

unfoldable pub mark : Degree → ℕ → ℕ
mark Quadratic n = n + quadratic_mark
mark Cubic n = n

-- read back, from any number
unfoldable pub marked : ℕ → Marked
marked m =
    cond (ltb m quadratic_mark)
    (record { degree = Cubic; level = m })
    (record { degree = Quadratic; level = m - quadratic_mark })
