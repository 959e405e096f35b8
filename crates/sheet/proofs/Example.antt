-- Three sheets in bytes: document 01's path A with widths 0, a lane that narrows, and a letter, a quadratic path before a cubic one; the marks at
-- which a path's degree and level change; and the sixteen bits of a number below 0. They fix what no round trip does: the order of a number's
-- bytes, of upper and lower, of segments and mark, of x, y and width, the mark and the sign.
use mathlib.Core.Path.{◌≡◌, refl}
use mathlib.Core.List.{List, [], ◌∷◌, ◌++◌, map}
use Prim.Native.Nat.{ℕ, suc, ◌+◌, ◌/◌, ◌%◌, ◌<◌}
use native.Mathlib.Omega.{arith}
use lib.IntN.{ℤ, pos, negsuc}
use lib.ListN.{replicate}
use Rattle.rules.specs.declared.Degree.{Degree}
use Rattle.rules.specs.declared.Degree.TheVariants.{Quadratic, Cubic}
use Rattle.rules.specs.Rules.{
  reach,
  is_coordinate,
  are_neighbours,
  is_level,
  are_limits,
  is_segments,
  head_refusal,
  are_points,
  are_beside,
  are_chained,
  points_refusal,
  mark,
  marked,
}
use Rattle.sheet.specs.Bytes.{bits16, value_bytes, values_at}
use Rattle.sheet.specs.Sheet.{Target, Sheet, record_bytes, records, offsets, sheet_bytes, path_numbers, sheet_numbers}
use Rattle.sheet.specs.Records.{record_at, records_at, sheet_at}
use Rattle.sheet.specs.NumberList.{path_at, paths_at, sheet_of}
use Rattle.sheet.specs.PathRules.{path_rules}
use Rattle.sheet.specs.Reading.{is_offset, body_refusal, record_refusal, records_refusal, sheet_refusal}
use Rattle.sheet.specs.Writing.{path_refusal, paths_refusal, list_refusal}

-- a path of one segment: its degree, its start level and its points
abbrev one_segment : Degree → ℕ → List ℤ → Target
one_segment D level points = record { degree = D; segments = 1; level = level; points = points }

-- ---- path A

-- In hex: 01000000 00000100 00800000, the count and the limits; 10000000, the offset; 01000000, segments and mark;
-- 0000 0000 0000, 0100 0000 0000, 0200 0000 0000, 0300 0000 0000, the points.
abbrev pub document_bytes : List ℕ
document_bytes =
    1 ∷ 0 ∷ 0 ∷ 0 ∷ 0 ∷ 0 ∷ 1 ∷ 0 ∷ 0 ∷ 128 ∷ 0 ∷ 0
    ∷ 16 ∷ 0 ∷ 0 ∷ 0
    ∷ 1 ∷ 0 ∷ 0 ∷ 0
    ∷ 0 ∷ 0 ∷ 0 ∷ 0 ∷ 0 ∷ 0 ∷ 1 ∷ 0 ∷ 0 ∷ 0 ∷ 0 ∷ 0 ∷ 2 ∷ 0 ∷ 0 ∷ 0 ∷ 0 ∷ 0 ∷ 3 ∷ 0 ∷ 0 ∷ 0 ∷ 0 ∷ 0
    ∷ []

-- x 0, 1, 2, 3, y and width 0 throughout
abbrev straight : List ℤ
straight = pos 0 ∷ pos 0 ∷ pos 0 ∷ pos 1 ∷ pos 0 ∷ pos 0 ∷ pos 2 ∷ pos 0 ∷ pos 0 ∷ pos 3 ∷ pos 0 ∷ pos 0 ∷ []

-- from level 0, under the limits 65,536 and 32,768
abbrev pub path_a : Sheet
path_a = record { upper = 65536; lower = 32768; paths = one_segment Cubic 0 straight ∷ [] }

abbrev pub document_numbers : List ℤ
document_numbers =
    pos 1 ∷ pos 65536 ∷ pos 32768 ∷ pos 1 ∷ pos 0
    ∷ pos 0 ∷ pos 0 ∷ pos 0 ∷ pos 1 ∷ pos 0 ∷ pos 0 ∷ pos 2 ∷ pos 0 ∷ pos 0 ∷ pos 3 ∷ pos 0 ∷ pos 0
    ∷ []

-- ---- a lane that narrows

-- In hex: 01000000 00010000 10000000; 10000000; 01000300; 0000 0a00 2c01, 0100 0900 c800, 0200 0800 6400, 0300 0700 ffff.
abbrev pub lane_bytes : List ℕ
lane_bytes =
    1 ∷ 0 ∷ 0 ∷ 0 ∷ 0 ∷ 1 ∷ 0 ∷ 0 ∷ 16 ∷ 0 ∷ 0 ∷ 0
    ∷ 16 ∷ 0 ∷ 0 ∷ 0
    ∷ 1 ∷ 0 ∷ 3 ∷ 0
    ∷ 0 ∷ 0 ∷ 10 ∷ 0 ∷ 44 ∷ 1 ∷ 1 ∷ 0 ∷ 9 ∷ 0 ∷ 200 ∷ 0 ∷ 2 ∷ 0 ∷ 8 ∷ 0 ∷ 100 ∷ 0 ∷ 3 ∷ 0 ∷ 7 ∷ 0 ∷ 255 ∷ 255
    ∷ []

-- from level 3, under the limits 256 and 16; x 0, 1, 2, 3, y 10, 9, 8, 7 and width 300, 200, 100, −1
abbrev pub lane : Sheet
lane =
    let points = pos 0 ∷ pos 10 ∷ pos 300 ∷ pos 1 ∷ pos 9 ∷ pos 200 ∷ pos 2 ∷ pos 8 ∷ pos 100 ∷ pos 3 ∷ pos 7 ∷ negsuc 0 ∷ [] in
    record { upper = 256; lower = 16; paths = one_segment Cubic 3 points ∷ [] }

abbrev pub lane_numbers : List ℤ
lane_numbers =
    pos 1 ∷ pos 256 ∷ pos 16 ∷ pos 1 ∷ pos 3
    ∷ pos 0 ∷ pos 10 ∷ pos 300 ∷ pos 1 ∷ pos 9 ∷ pos 200 ∷ pos 2 ∷ pos 8 ∷ pos 100 ∷ pos 3 ∷ pos 7 ∷ negsuc 0
    ∷ []

-- ---- a letter

-- In hex: 02000000 00010000 10000000; 14000000 2a000000; 01000b01, one segment and 256 + 11; 0000 0000 0500, ff03 ffff 0600, 0000 feff 0700;
-- 01000b00, one segment and 11; the points of path A.
abbrev pub letter_bytes : List ℕ
letter_bytes =
    2 ∷ 0 ∷ 0 ∷ 0 ∷ 0 ∷ 1 ∷ 0 ∷ 0 ∷ 16 ∷ 0 ∷ 0 ∷ 0
    ∷ 20 ∷ 0 ∷ 0 ∷ 0 ∷ 42 ∷ 0 ∷ 0 ∷ 0
    ∷ 1 ∷ 0 ∷ 11 ∷ 1
    ∷ 0 ∷ 0 ∷ 0 ∷ 0 ∷ 5 ∷ 0 ∷ 255 ∷ 3 ∷ 255 ∷ 255 ∷ 6 ∷ 0 ∷ 0 ∷ 0 ∷ 254 ∷ 255 ∷ 7 ∷ 0
    ∷ 1 ∷ 0 ∷ 11 ∷ 0
    ∷ 0 ∷ 0 ∷ 0 ∷ 0 ∷ 0 ∷ 0 ∷ 1 ∷ 0 ∷ 0 ∷ 0 ∷ 0 ∷ 0 ∷ 2 ∷ 0 ∷ 0 ∷ 0 ∷ 0 ∷ 0 ∷ 3 ∷ 0 ∷ 0 ∷ 0 ∷ 0 ∷ 0
    ∷ []

-- both from level 11, under the limits 256 and 16; the quadratic has x 0, 1,023, 0, y 0, −1, −2 and width 5, 6, 7
abbrev pub letter : Sheet
letter =
    let points = pos 0 ∷ pos 0 ∷ pos 5 ∷ pos 1023 ∷ negsuc 0 ∷ pos 6 ∷ pos 0 ∷ negsuc 1 ∷ pos 7 ∷ [] in
    record { upper = 256; lower = 16; paths = one_segment Quadratic 11 points ∷ one_segment Cubic 11 straight ∷ [] }

abbrev pub letter_numbers : List ℤ
letter_numbers =
    pos 2 ∷ pos 256 ∷ pos 16
    ∷ pos 1 ∷ pos 267 ∷ pos 0 ∷ pos 0 ∷ pos 5 ∷ pos 1023 ∷ negsuc 0 ∷ pos 6 ∷ pos 0 ∷ negsuc 1 ∷ pos 7
    ∷ pos 1 ∷ pos 11 ∷ pos 0 ∷ pos 0 ∷ pos 0 ∷ pos 1 ∷ pos 0 ∷ pos 0 ∷ pos 2 ∷ pos 0 ∷ pos 0 ∷ pos 3 ∷ pos 0 ∷ pos 0
    ∷ []

-- ---- what they are

-- the bytes are those of the sheet, and are read as these numbers, which are written as the bytes
abbrev pub Stored : Sheet → List ℕ → List ℤ → Type 0
Stored s b l =
    (sheet_bytes s ≡ b) × (sheet_refusal b ≡ 0) × (sheet_numbers (sheet_at b) ≡ l) × (list_refusal l ≡ 0) × (sheet_bytes (sheet_of l) ≡ b)

sheets : Stored path_a document_bytes document_numbers × Stored lane lane_bytes lane_numbers × Stored letter letter_bytes letter_numbers
unfolding sheet_bytes offsets records record_bytes value_bytes sheet_at records_at record_at values_at sheet_numbers path_numbers sheet_refusal
    records_refusal record_refusal body_refusal is_offset sheet_of paths_at path_at list_refusal paths_refusal path_refusal path_rules head_refusal
    points_refusal are_limits is_segments is_level reach are_points is_coordinate are_chained are_beside are_neighbours mark marked
sheets = ((refl, refl, refl, refl, refl), (refl, refl, refl, refl, refl), (refl, refl, refl, refl, refl))

pub document_sheet : Stored path_a document_bytes document_numbers
document_sheet = sheets.0

pub lane_sheet : Stored lane lane_bytes lane_numbers
lane_sheet = sheets.1

pub letter_sheet : Stored letter letter_bytes letter_numbers
letter_sheet = sheets.2

-- ---- the marks

-- one segment under the mark m, with the nine numbers of a quadratic
abbrev bytes_under : ℕ → List ℕ
bytes_under m = 1 ∷ 0 ∷ 0 ∷ 0 ∷ 0 ∷ 1 ∷ 0 ∷ 0 ∷ 16 ∷ 0 ∷ 0 ∷ 0 ∷ 16 ∷ 0 ∷ 0 ∷ 0 ∷ 1 ∷ 0 ∷ m % 256 ∷ m / 256 ∷ replicate 18 0

abbrev numbers_under : ℤ → List ℤ
numbers_under m = pos 1 ∷ pos 256 ∷ pos 16 ∷ pos 1 ∷ m ∷ replicate 9 (pos 0)

abbrev marks : List ℕ
marks = 0 ∷ 11 ∷ 12 ∷ 255 ∷ 256 ∷ 267 ∷ 268 ∷ 511 ∷ 512 ∷ 65535 ∷ []

-- a cubic ends early, a quadratic is whole, and 3 comes before both; below 0 no mark is right
pub marks_refused :
    (map (λ m. sheet_refusal (bytes_under m)) marks ≡ 15 ∷ 15 ∷ 3 ∷ 3 ∷ 0 ∷ 0 ∷ 3 ∷ 3 ∷ 3 ∷ 3 ∷ [])
    × (map (λ m. list_refusal (numbers_under m)) (map pos marks ++ negsuc 0 ∷ []) ≡ 17 ∷ 17 ∷ 3 ∷ 3 ∷ 0 ∷ 0 ∷ 3 ∷ 3 ∷ 3 ∷ 3 ∷ 3 ∷ [])
unfolding sheet_refusal records_refusal record_refusal body_refusal is_offset record_at values_at list_refusal paths_refusal path_refusal sheet_of paths_at
    path_at sheet_bytes offsets records record_bytes value_bytes path_rules head_refusal points_refusal are_limits is_segments is_level reach are_points
    is_coordinate are_chained are_beside are_neighbours mark marked
marks_refused = (refl, refl)

-- n is stored as it is, and −(n + 1) with 65,536 added
pub twos_complement : (n : ℕ) → n < 32768 → (bits16 (pos n) ≡ n) × (bits16 (negsuc n) + suc n ≡ 65536)
twos_complement n h = (refl, omega arith)
