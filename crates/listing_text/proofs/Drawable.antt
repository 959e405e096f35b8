-- Every path of an accepted sheet is one that draw and measure accept at finest level 11 and under the sheet's limits: 14, 24, 1, 2, 3 and 4 cannot
-- occur there.
use mathlib.Core.Path.{◌≡◌}
use mathlib.Core.Bool.{true}
use mathlib.Core.List.{List, [], ◌∷◌}
use Prim.Native.Nat.{ℕ}
use lib.IntN.{ℤ}
use Rattle.numbers.specs.Tables.{All}
use Rattle.rules.specs.Rules.{is_finest, are_limits, points_refusal}
use Rattle.path.specs.Path.{path, path_refusal}
use Rattle.sheet.specs.Bytes.{Bytes}
use Rattle.sheet.specs.Sheet.{Target, Sheet, RightPath, Right}
use Rattle.sheet.specs.Records.{sheet_at}
use Rattle.sheet.specs.NumberList.{sheet_of}
use Rattle.sheet.specs.Answer.{read_answer, write_answer}
use Rattle.sheet.proofs.RoundTrips.{read_accepted, write_accepted}

-- measured without a refusal; drawing then refuses only by 9, for the room (`refuses_9` of path)
abbrev pub Drawable : Sheet → Target → Type 0
Drawable s t =
    path_refusal (path t.points (record { degree = t.degree; segments = t.segments; finest = 11; level = t.level }) (record { upper = s.upper; lower = s.lower })) ≡ 0

pub path_drawable : (s : Sheet) (t : Target) → are_limits s.upper s.lower ≡ true → RightPath t → Drawable s t
unfolding path_refusal points_refusal is_finest
path_drawable s t limits p = rw (p.size, p.points, p.chained, p.level, limits)

paths_drawable : (s : Sheet) (ts : List Target) → are_limits s.upper s.lower ≡ true → All RightPath ts → All (Drawable s) ts
paths_drawable s [] limits r = tt
paths_drawable s (t ∷ ts) limits r = (path_drawable s t limits r.0, paths_drawable s ts limits r.1)

pub sheet_paths_drawable : (s : Sheet) → Right s → All (Drawable s) s.paths
sheet_paths_drawable s r = paths_drawable s s.paths r.limits r.paths

pub read_paths_drawable : (b : List ℕ) (room : ℕ) → Bytes b → (read_answer b room).refusal ≡ 0 → All (Drawable (sheet_at b)) (sheet_at b).paths
read_paths_drawable b room bs e = sheet_paths_drawable (sheet_at b) (read_accepted b room bs e).0

pub written_paths_drawable : (l : List ℤ) (room : ℕ) → (write_answer l room).refusal ≡ 0 → All (Drawable (sheet_of l)) (sheet_of l).paths
written_paths_drawable l room e = sheet_paths_drawable (sheet_of l) (write_accepted l room e).0
