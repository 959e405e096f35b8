-- The text that a sheet is listed by: "paths N"; for each path its line, and a line for each entry. A refused sheet has one line.
use Rattle.std.specs.Prelude.{List, [], ◌∷◌, ◌++◌, ℕ, ◌+◌, length}
use Rattle.rules.specs.declared.Limits.{Limits}
use Rattle.rules.specs.Refusals.{refusal_or}
use Rattle.rules.specs.Rules.{sheet_finest}
use Rattle.path.specs.declared.Shape.{Shape}
use Rattle.path.specs.Path.{Path, path}
use Rattle.path.specs.Entries.{entries}
use Rattle.path.specs.Answer.{measured}
use Rattle.sheet.specs.Sheet.{Target, Sheet}
use Rattle.sheet.specs.Records.{sheet_at}
use Rattle.sheet.specs.Reading.{sheet_refusal}
use Rattle.listing_text.specs.Lines.{paths_line, path_line, entry_lines, refused_line}

-- a path of a sheet: its shape, with the finest level of every sheet's paths, and the sheet's limits
abbrev pub shape_of : Target → Shape
shape_of t = record { degree = t.degree; segments = t.segments; finest = sheet_finest; level = t.level }

abbrev pub limits_of : Sheet → Limits
limits_of s = record { upper = s.upper; lower = s.lower }

abbrev pub path_of : Sheet → Target → Path
path_of s t = path t.points (shape_of t) (limits_of s)

unfoldable pub path_text : ℕ → Path → List ℕ
path_text i p = path_line i (measured p) ++ entry_lines (entries p)

-- paths of s, the first of them path i
unfoldable pub paths_text : Sheet → ℕ → List Target → List ℕ
paths_text s i [] = []
paths_text s i (t ∷ ts) = path_text i (path_of s t) ++ paths_text s (i + 1) ts

unfoldable pub sheet_text : Sheet → List ℕ
sheet_text s = paths_line (length s.paths) ++ paths_text s 0 s.paths

-- the listing of the bytes of standard input
unfoldable pub listing : List ℕ → List ℕ
listing b = refusal_or (sheet_refusal b) refused_line (sheet_text (sheet_at b))
