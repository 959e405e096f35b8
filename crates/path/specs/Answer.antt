-- What drawing and measuring a path answer, and what drawing leaves in the lent list.
use Rattle.std.specs.Prelude.{List, [], ◌∷◌, ℕ, ◌*◌, leb, ℤ, length, Result, Ok, Err}
use Rattle.rules.specs.declared.refused.Refusal.{Refusal}
use Rattle.rules.specs.Numbered.{number}
use Rattle.rules.specs.Refusals.{unless, first_of, refusal_or, filled}
use Rattle.entries.specs.declared.Entry.{Entry}
use Rattle.entries.specs.Entries.{entry_size, flat}
use Rattle.entries.specs.Length.{length_of}
use Rattle.path.specs.declared.Totals.{Totals}
use Rattle.path.specs.Path.{Path, path_refusal}
use Rattle.path.specs.Entries.{entries}

-- measuring is refused as the path is; drawing into a list of `room` numbers also by 9, where it is shorter than the whole answer
unfoldable pub draw_refusal : Path → ℕ → ℕ
draw_refusal p room = first_of (path_refusal p) (unless (leb (entry_size * length (entries p)) room) 9 0)

-- the numbers by which a path may be refused, 0 for none; under the standard limits without 4
abbrev pub measure_table : List ℕ
measure_table = 0 ∷ 1 ∷ 2 ∷ 3 ∷ 4 ∷ 14 ∷ 24 ∷ []

abbrev pub draw_table : List ℕ
draw_table = 0 ∷ 1 ∷ 2 ∷ 3 ∷ 4 ∷ 9 ∷ 14 ∷ 24 ∷ []

abbrev pub standard_measure_table : List ℕ
standard_measure_table = 0 ∷ 1 ∷ 2 ∷ 3 ∷ 14 ∷ 24 ∷ []

abbrev pub standard_draw_table : List ℕ
standard_draw_table = 0 ∷ 1 ∷ 2 ∷ 3 ∷ 9 ∷ 14 ∷ 24 ∷ []

-- the number of points and the length; a refusal answers its number, with 0 for both
pub record Drawn : Type 0 where
  pub refusal : ℕ
  pub points : ℕ
  pub length : ℕ

abbrev pub refused_by : ℕ → Drawn
refused_by k = record { refusal = k; points = 0; length = 0 }

abbrev pub answer : List Entry → Drawn
answer es = record { refusal = 0; points = length es; length = length_of es }

-- an answer as these numbers
abbrev pub totals : Totals → Drawn
totals t = record { refusal = 0; points = t.points; length = t.length }

abbrev pub answered : Result Totals Refusal → Drawn
answered (Ok t) = totals t
answered (Err r) = refused_by (number r)

unfoldable pub measured : Path → Drawn
measured p = refusal_or (path_refusal p) refused_by (answer (entries p))

unfoldable pub drawn : Path → ℕ → Drawn
drawn p room = refusal_or (draw_refusal p room) refused_by (answer (entries p))

-- the list afterwards
unfoldable pub written : Path → List ℤ → List ℤ
written p list = filled (draw_refusal p (length list)) (flat (entries p)) list
