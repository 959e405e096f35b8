-- The old form of a sheet, as document 01 has it: every path is cubic, and a point is x and y, without a width. It is neither read nor written
-- any more; it stands here for what is proved of it in proofs/OldForm, that a sheet of the old form with any path in it is refused.
use Rattle.std.specs.Prelude.{◌≡◌, true, List, [], ◌∷◌, map, ℕ, ◌+◌, ◌*◌, ◌≤◌, ℤ, pos, length, drop}
use Rattle.numbers.specs.Tables.{All}
use Rattle.rules.specs.declared.Degree.TheVariants.{Cubic}
use Rattle.rules.specs.Rules.{sheet_finest, is_level, are_limits, is_segments, are_points, are_beside}
use Rattle.sheet.specs.Sheet.{Target, Sheet, sheet_bytes, sheet_reach}

pub record Place : Type 0 where
  pub x : ℤ
  pub y : ℤ

-- one path of a sheet
pub record OldPath : Type 0 where
  pub segments : ℕ
  pub level : ℕ
  pub points : List Place

pub record OldSheet : Type 0 where
  pub upper : ℕ
  pub lower : ℕ
  pub paths : List OldPath

-- ---- its bytes

-- x and y of each point: x0, y0, x1, y1, ..
unfoldable pub place_numbers : List Place → List ℤ
place_numbers [] = []
place_numbers (p ∷ ps) = p.x ∷ p.y ∷ place_numbers ps

-- the path and the sheet with their points as numbers
unfoldable pub old_target : OldPath → Target
old_target p = record { degree = Cubic; segments = p.segments; level = p.level; points = place_numbers p.points }

unfoldable pub old_parts : OldSheet → Sheet
old_parts s = record { upper = s.upper; lower = s.lower; paths = map old_target s.paths }

-- header, offsets and records are made from these as in the new form: they do not know how many numbers a point has
abbrev pub old_bytes : OldSheet → List ℕ
old_bytes s = sheet_bytes (old_parts s)

-- ---- the same path in the new form, each of its widths 0

unfoldable pub with_widths : List Place → List ℤ
with_widths [] = []
with_widths (p ∷ ps) = p.x ∷ p.y ∷ pos 0 ∷ with_widths ps

unfoldable pub new_target : OldPath → Target
new_target p = record { degree = Cubic; segments = p.segments; level = p.level; points = with_widths p.points }

-- ---- right sheets of the old form

-- 14: 1 to 64 segments, and 3S + 1 points of two numbers
pub record OldSize (p : OldPath) : Type 0 where
  pub segments : is_segments p.segments ≡ true
  pub numbers : length (place_numbers p.points) ≡ 2 * (3 * p.segments + 1)

-- every rule of a path but for the limits: 14, 3, 1 over all points, and 2 between x and x, y and y
pub record OldRightPath (p : OldPath) : Type 0 where
  pub size : OldSize p
  pub level : is_level sheet_finest p.level ≡ true
  pub points : are_points (place_numbers p.points) ≡ true
  pub chained : are_beside (sheet_reach Cubic) (place_numbers p.points) (drop 2 (place_numbers p.points)) ≡ true

pub record OldRight (s : OldSheet) : Type 0 where
  pub few : length s.paths ≤ 1024
  pub limits : are_limits s.upper s.lower ≡ true
  pub paths : All OldRightPath s.paths
  pub fits : length (old_bytes s) ≤ 32768
