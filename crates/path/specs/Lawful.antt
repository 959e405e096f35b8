-- The paths that are accepted, said of their numbers one by one.
use Rattle.std.specs.Prelude.{◌≡◌, ℕ, ◌+◌, ◌*◌, ◌≤◌, ◌<◌, pos, negsuc, nat_abs, ◌-ℤ◌, length, ◌≤ℤ◌}
use Rattle.rules.specs.Rules.{degree}
use Rattle.operations.specs.Lawful.{apart}
use Rattle.path.specs.Path.{Path, point_at}

pub record Lawful (p : Path) : Type 0 where
  -- 1 to 64 segments, D·S + 1 points of three coordinates: D is 2 for a quadratic path and 3 for a cubic one
  pub some : 1 ≤ p.segments
  pub most : p.segments ≤ 64
  pub size : length p.points ≡ 3 * (degree p.degree * p.segments + 1)
  -- a finest level from 6 to 12
  pub finest_least : 6 ≤ p.finest
  pub finest_most : p.finest ≤ 12
  -- coordinate c of point i is from −16,384 to 16,383, and of neighbouring points at most as far apart as the degree lets it be at F
  pub low : (c i : ℕ) → c < 3 → i ≤ degree p.degree * p.segments → negsuc 16383 ≤ℤ point_at p.points c i
  pub high : (c i : ℕ) → c < 3 → i ≤ degree p.degree * p.segments → point_at p.points c i ≤ℤ pos 16383
  pub near : (c i : ℕ) → c < 3 → i < degree p.degree * p.segments
      → nat_abs (point_at p.points c (i + 1) -ℤ point_at p.points c i) ≤ apart p.degree p.finest
  -- levels 0 to the finest; 1 ≤ upper ≤ 65,536 and 0 ≤ lower ≤ upper
  pub level : p.level ≤ p.finest
  pub least : 1 ≤ p.upper
  pub unit : p.upper ≤ 65536
  pub order : p.lower ≤ p.upper
