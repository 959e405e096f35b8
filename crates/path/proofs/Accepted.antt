-- Which paths are accepted: those that are lawful. Each segment of one is a start that is accepted.
use mathlib.Core.Path.{◌≡◌, refl}
use mathlib.Core.Bool.{true}
use Prim.Native.Nat.{ℕ, ◌+◌, ◌*◌, ◌/◌, ◌%◌, ◌≤◌, ◌<◌}
use native.Mathlib.Omega.{arith}
use lib.IntN.{ℤ, pos}
use mathlib.Core.List.{List}
use lib.ListN.{length, get_or}
use borrow.Author.Tests.{leb-true, le-leb}
use Rattle.rules.specs.declared.Degree.{Degree}
use Rattle.rules.specs.declared.Degree.TheVariants.{Quadratic, Cubic}
use Rattle.rules.specs.Rules.{is_finest, is_coordinate, are_neighbours, reach, is_level, are_limits, degree, coordinates, is_size, are_points, are_chained, points_refusal}
use Rattle.rules.proofs.Refusals.{rule_kept, first_kept}
use Rattle.rules.proofs.Laws.{finest_holds, holds_finest, coordinate_range, range_coordinate, neighbours_size, limits_hold, hold_limits, Sized, size_holds, holds_size}
use Rattle.rules.proofs.Every.{points_hold, hold_points, chained_hold, hold_chained}
use Rattle.coordinate.specs.Points.{are_coordinates, are_near}
use Rattle.operations.specs.Coordinates.{Coordinate, in_x, in_y, in_width}
use Rattle.operations.specs.Refusals.{begin_refusal, start_refusal}
use Rattle.operations.proofs.Every.{true_every}
use Rattle.operations.proofs.Order.{apart_reach}
use Rattle.path.specs.Path.{Path, path_refusal, point_at, place, control, controls}
use Rattle.path.specs.Lawful.{Lawful}

-- ---- the six tests

pub record Passed (p : Path) : Type 0 where
  pub size : is_size p.degree p.segments (length p.points) ≡ true
  pub finest : is_finest p.finest ≡ true
  pub points : are_points p.points ≡ true
  pub chained : are_chained (reach p.degree p.finest) p.points ≡ true
  pub level : is_level p.finest p.level ≡ true
  pub limits : are_limits p.upper p.lower ≡ true

pub passed : (p : Path) → path_refusal p ≡ 0 → Passed p
unfolding path_refusal points_refusal
passed p e =
    let size = rule_kept (is_size p.degree p.segments (length p.points)) 13 _ e in
    let finest = rule_kept (is_finest p.finest) 23 _ size.1 in
    let both = first_kept (points_refusal (reach p.degree p.finest) p.points) _ finest.1 in
    let points = rule_kept (are_points p.points) 0 _ both.0 in
    let chained = rule_kept (are_chained (reach p.degree p.finest) p.points) 1 0 points.1 in
    let level = rule_kept (is_level p.finest p.level) 2 _ both.1 in
    record {
      size = size.0;
      finest = finest.0;
      points = points.0;
      chained = chained.0;
      level = level.0;
      limits = (rule_kept (are_limits p.upper p.lower) 3 0 level.1).0;
    }

pub all_passed : (p : Path) → Passed p → path_refusal p ≡ 0
unfolding path_refusal points_refusal
all_passed p t = rw (t.size, t.finest, t.points, t.chained, t.level, t.limits)

-- ---- each number of an accepted path

module _ (p : Path) (t : Passed p) where
  pub sized : Sized p.degree p.segments (length p.points)
  sized = size_holds p.degree p.segments (length p.points) t.size

  point_kept : (c i : ℕ) → c < 3 → i ≤ degree p.degree * p.segments → is_coordinate (point_at p.points c i) ≡ true
  unfolding point_at
  point_kept c i h k = points_hold p.points t.points (coordinates * i + c) (omega (arith, sized.size))

  next_kept : (c i j : ℕ) → c < 3 → j ≡ i + 1 → j ≤ degree p.degree * p.segments
      → are_neighbours (reach p.degree p.finest) (point_at p.points c i) (point_at p.points c j) ≡ true
  unfolding point_at
  next_kept c i j h e k =
      let f : coordinates * j + c ≡ coordinates + (coordinates * i + c) = omega arith in
      rw f (chained_hold (reach p.degree p.finest) p.points t.chained (coordinates * i + c) (omega (arith, sized.size)))

  kept_lawful : Lawful p
  unfolding is_level
  kept_lawful =
      let l = limits_hold p.upper p.lower t.limits in
      let f = finest_holds p.finest t.finest in
      record {
        some = sized.some;
        most = sized.most;
        size = sized.size;
        finest_least = f.least;
        finest_most = f.most;
        low = λ c i h k. (coordinate_range (point_at p.points c i) (point_kept c i h k)).0;
        high = λ c i h k. (coordinate_range (point_at p.points c i) (point_kept c i h k)).1;
        near = λ c i h k.
            rw (apart_reach p.degree p.finest)
            (neighbours_size (reach p.degree p.finest) (point_at p.points c i) (point_at p.points c (i + 1)) (next_kept c i (i + 1) h refl (omega arith))).le;
        level = leb-true p.level p.finest t.level;
        least = l.least;
        unit = l.most;
        order = l.order;
      }

-- ---- one coordinate of segment k, of S segments

module _ (points : List ℤ) (c k S : ℕ) (m : k < S) where
  -- where each point keeps rule 1
  segment-points : (D : Degree) → ((i : ℕ) → i ≤ degree D * S → is_coordinate (point_at points c i) ≡ true) → are_coordinates D (control D points c k) ≡ true
  unfolding are_coordinates control
  segment-points Quadratic kept = rw (kept (2 * k) (omega arith), kept (2 * k + 1) (omega arith), kept (2 * k + 2) (omega arith))
  segment-points Cubic kept =
      rw (kept (3 * k) (omega arith), kept (3 * k + 1) (omega arith), kept (3 * k + 2) (omega arith), kept (3 * k + 3) (omega arith))

  -- and each with the next rule 2
  segment_near : (D : Degree) (W : ℕ) → ((i j : ℕ) → j ≡ i + 1 → j ≤ degree D * S → are_neighbours W (point_at points c i) (point_at points c j) ≡ true)
      → are_near D W (control D points c k) ≡ true
  unfolding are_near control
  segment_near Quadratic W kept =
      rw (kept (2 * k) (2 * k + 1) (omega arith) (omega arith), kept (2 * k + 1) (2 * k + 2) (omega arith) (omega arith))
  segment_near Cubic W kept =
      rw (
        kept (3 * k) (3 * k + 1) (omega arith) (omega arith),
        kept (3 * k + 1) (3 * k + 2) (omega arith) (omega arith),
        kept (3 * k + 2) (3 * k + 3) (omega arith) (omega arith),
      )

-- ---- the laws

pub accepted_lawful : (p : Path) → path_refusal p ≡ 0 → Lawful p
accepted_lawful p e = kept_lawful p (passed p e)

-- number i of the list is coordinate i % 3 of point i / 3
pub lawful_accepted : (p : Path) → Lawful p → path_refusal p ≡ 0
unfolding is_level are_neighbours point_at
lawful_accepted p l =
    all_passed p (record {
      size = holds_size (record { some = l.some; most = l.most; size = l.size });
      finest = holds_finest (record { least = l.finest_least; most = l.finest_most });
      points = hold_points p.points point;
      chained = hold_chained (reach p.degree p.finest) p.points pair;
      level = le-leb p.level p.finest l.level;
      limits = hold_limits (record { least = l.least; most = l.unit; order = l.order });
    })
  where
    point : (i : ℕ) → i < length p.points → is_coordinate (get_or p.points i (pos 0)) ≡ true
    point i h =
        let e : coordinates * (i / 3) + i % 3 ≡ i = omega arith in
        let k : i / 3 ≤ degree p.degree * p.segments = omega arith in
        rw e at (range_coordinate (l.low (i % 3) (i / 3) (omega arith) k) (l.high (i % 3) (i / 3) (omega arith) k))

    pair : (i : ℕ) → coordinates + i < length p.points
        → are_neighbours (reach p.degree p.finest) (get_or p.points i (pos 0)) (get_or p.points (coordinates + i) (pos 0)) ≡ true
    pair i h =
        let e : coordinates * (i / 3) + i % 3 ≡ i = omega arith in
        let f : coordinates * (i / 3 + 1) + i % 3 ≡ coordinates + i = omega arith in
        le-leb _ (reach p.degree p.finest) (rw (e, f, apart_reach p.degree p.finest) at (l.near (i % 3) (i / 3) (omega arith) (omega arith)))

pub point_inside : {p : Path} → Lawful p → (c i : ℕ) → c < 3 → i ≤ degree p.degree * p.segments → coordinates * i + c < length p.points
point_inside l c i h k = omega arith

place_inside : (c : Coordinate) → place c < coordinates
place_inside in_x = omega arith
place_inside in_y = omega arith
place_inside in_width = omega arith

pub segment_accepted : (p : Path) → path_refusal p ≡ 0 → (k : ℕ) → k < p.segments → start_refusal p.degree p.finest (controls p.degree p.points k) p.level ≡ 0
unfolding start_refusal begin_refusal
segment_accepted p e k h =
    let t = passed p e in
    let D = p.degree in
    let W = reach D p.finest in
    rw (
      t.finest,
      true_every (λ c. are_coordinates D (controls D p.points k c))
          (λ c. segment-points p.points (place c) k p.segments h D (λ i. point_kept p t (place c) i (place_inside c))),
      true_every (λ c. are_near D W (controls D p.points k c))
          (λ c. segment_near p.points (place c) k p.segments h D W (λ i j. next_kept p t (place c) i j (place_inside c))),
      t.level,
    )
