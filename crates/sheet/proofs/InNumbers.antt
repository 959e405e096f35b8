-- A right path in the documents' own numbers, without the tests.
use mathlib.Core.Path.{◌≡◌, refl}
use Prim.Native.Nat.{ℕ, ◌+◌, ◌*◌, ◌≤◌, ◌<◌}
use borrow.Author.Tests.{leb-true, le-leb}
use lib.IntN.{pos, negsuc, nat_abs, ◌-ℤ◌}
use lib.ListN.{length, get_or}
use lib.Signed.{◌≤ℤ◌}
use Rattle.rules.specs.declared.Degree.{Degree}
use Rattle.rules.specs.declared.Degree.TheVariants.{Quadratic, Cubic}
use Rattle.rules.specs.Rules.{reach, is_level, point_numbers}
use Rattle.rules.proofs.Laws.{coordinate_range, range_coordinate, neighbours_size, size_neighbours, size_holds, holds_size}
use Rattle.rules.proofs.Every.{points_hold, hold_points, chained_hold, hold_chained}
use Rattle.sheet.specs.Sheet.{Target, sheet_reach, RightPath}

-- ---- what the two degrees differ in

-- S segments have so many points
abbrev pub path_points : Degree → ℕ → ℕ
path_points Quadratic S = 2 * S + 1
path_points Cubic S = 3 * S + 1

pub points_in_numbers : (D : Degree) (S : ℕ) → point_numbers D S ≡ 3 * path_points D S
points_in_numbers Quadratic S = refl
points_in_numbers Cubic S = refl

-- and neighbours are at most so far apart
abbrev pub apart : Degree → ℕ
apart Quadratic = 1023
apart Cubic = 682

pub reach_in_numbers : (D : Degree) → sheet_reach D ≡ apart D
unfolding reach
reach_in_numbers Quadratic = refl
reach_in_numbers Cubic = refl

-- ---- a path

-- 1 to 64 segments, and three numbers a point; a start level from 0 to 11; each number from −16,384 to 16,383, and at most so far from the same
-- coordinate of the next point
pub record InNumbers (p : Target) : Type 0 where
  pub some : 1 ≤ p.segments
  pub most : p.segments ≤ 64
  pub size : length p.points ≡ 3 * path_points p.degree p.segments
  pub level : p.level ≤ 11
  pub points : (i : ℕ) → i < length p.points → (negsuc 16383 ≤ℤ get_or p.points i (pos 0)) × (get_or p.points i (pos 0) ≤ℤ pos 16383)
  pub chained : (i : ℕ) → 3 + i < length p.points → nat_abs (get_or p.points (3 + i) (pos 0) -ℤ get_or p.points i (pos 0)) ≤ apart p.degree

pub right_in_numbers : (p : Target) → RightPath p → InNumbers p
unfolding is_level
right_in_numbers p r =
    let sized = size_holds p.degree p.segments (length p.points) r.size in
    let W = sheet_reach p.degree in
    record {
      some = sized.some;
      most = sized.most;
      size = rw points_in_numbers at sized.size;
      level = leb-true p.level 11 r.level;
      points = λ i h. coordinate_range _ (points_hold p.points r.points i h);
      chained = λ i h. rw (reach_in_numbers p.degree) at (neighbours_size W _ _ (chained_hold W p.points r.chained i h)).le;
    }

pub in_numbers_right : (p : Target) → InNumbers p → RightPath p
unfolding is_level
in_numbers_right p n =
    let W = sheet_reach p.degree in
    record {
      size = holds_size (record { some = n.some; most = n.most; size = rw points_in_numbers n.size });
      level = le-leb p.level 11 n.level;
      points = hold_points p.points (λ i h. range_coordinate (n.points i h).0 (n.points i h).1);
      chained = hold_chained W p.points (λ i h. size_neighbours W _ _ (record { le = rw reach_in_numbers (n.chained i h) }));
    }
