-- The sheet by its parts, its bytes and its number list, and which sheets are right.
use Rattle.std.specs.Prelude.{◌≡◌, true, List, [], ◌∷◌, ◌++◌, ℕ, ◌+◌, ◌*◌, ◌/◌, ◌≤◌, ℤ, pos, length}
use Rattle.numbers.specs.Tables.{All}
use Rattle.rules.specs.declared.Degree.{Degree}
use Rattle.rules.specs.Rules.{sheet_finest, reach, is_level, are_limits, is_size, are_points, are_chained, mark}
use Rattle.sheet.specs.Bytes.{value_size, le16, le32, value_bytes}

-- one path of a sheet; points: x0, y0, width0, x1, y1, width1, ..
pub record Target : Type 0 where
  pub degree : Degree
  pub segments : ℕ
  pub level : ℕ
  pub points : List ℤ

pub record Sheet : Type 0 where
  pub upper : ℕ
  pub lower : ℕ
  pub paths : List Target

-- ---- its bytes: header, offsets, records

-- count, upper and lower
abbrev pub least_bytes : ℕ
least_bytes = 12

abbrev pub offset_size : ℕ
offset_size = 4

-- and N offsets
abbrev pub head_size : ℕ → ℕ
head_size N = least_bytes + offset_size * N

-- segments, mark, and x, y and width of each point
unfoldable pub record_bytes : Target → List ℕ
record_bytes p = le16 p.segments ++ (le16 (mark p.degree p.level) ++ value_bytes p.points)

unfoldable pub records : List Target → List ℕ
records [] = []
records (p ∷ ps) = record_bytes p ++ records ps

-- the first record stands at `place`, each next where the one before ends
unfoldable pub offsets : ℕ → List Target → List ℕ
offsets place [] = []
offsets place (p ∷ ps) = le32 place ++ offsets (place + length (record_bytes p)) ps

unfoldable pub sheet_bytes : Sheet → List ℕ
sheet_bytes s =
    let N = length s.paths in
    le32 N ++ (le32 s.upper ++ (le32 s.lower ++ (offsets (head_size N) s.paths ++ records s.paths)))

-- ---- its number list

-- count, upper and lower before the paths; segments and mark before a path's points, in a list and in a record
abbrev pub list_head : ℕ
list_head = 3

abbrev pub path_head : ℕ
path_head = 2

abbrev pub record_head : ℕ
record_head = value_size * path_head

unfoldable pub path_numbers : List Target → List ℤ
path_numbers [] = []
path_numbers (p ∷ ps) = pos p.segments ∷ pos (mark p.degree p.level) ∷ (p.points ++ path_numbers ps)

unfoldable pub sheet_numbers : Sheet → List ℤ
sheet_numbers s = pos (length s.paths) ∷ pos s.upper ∷ pos s.lower ∷ path_numbers s.paths

-- ---- right sheets

-- how far apart the neighbours of a path may be, at the finest level of a sheet's paths
abbrev pub sheet_reach : Degree → ℕ
sheet_reach D = reach D sheet_finest

-- every rule of a path but for the limits, which are the sheet's
pub record RightPath (p : Target) : Type 0 where
  pub size : is_size p.degree p.segments (length p.points) ≡ true
  pub level : is_level sheet_finest p.level ≡ true
  pub points : are_points p.points ≡ true
  pub chained : are_chained (sheet_reach p.degree) p.points ≡ true

pub record Right (s : Sheet) : Type 0 where
  pub few : length s.paths ≤ 1024
  pub limits : are_limits s.upper s.lower ≡ true
  pub paths : All RightPath s.paths
  pub fits : length (sheet_bytes s) ≤ 32768

-- the same bounds as the tests know them, and numbers enough for every sheet's list
abbrev pub most_paths : ℕ
most_paths = 1024

abbrev pub most_bytes : ℕ
most_bytes = 32768

abbrev pub most_numbers : ℕ
most_numbers = most_bytes / value_size
