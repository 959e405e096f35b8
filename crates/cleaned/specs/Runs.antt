-- A list as its runs of one pixel, and what is kept of each.
use Rattle.std.specs.Prelude.{◌≡◌, List, [], ◌∷◌, ◌++◌}
use Rattle.numbers.specs.Tables.{All}
use Rattle.entries.specs.declared.Entry.{Entry}
use Rattle.entries.specs.Entries.{last_of}
use Rattle.cleaned.specs.Moves.{SamePixel}

pub record Run : Type 0 where
  pub first : Entry
  pub later : List Entry
  pub one_pixel : All (SamePixel first) later

-- neighbouring runs show different pixels
abbrev pub Apart : List Run → Type 0
Apart [] = Unit
Apart (r ∷ []) = Unit
Apart (r ∷ s ∷ rs) = (SamePixel r.first s.first → ⊥) × Apart (s ∷ rs)

-- one run after another
abbrev pub in_row : List Run → List Entry
in_row [] = []
in_row (r ∷ rs) = r.first ∷ r.later ++ in_row rs

-- of each run its first entry, of the last run its last
abbrev pub kept_of : List Run → List Entry
kept_of [] = []
kept_of (r ∷ []) = last_of r.first r.later ∷ []
kept_of (r ∷ s ∷ rs) = r.first ∷ kept_of (s ∷ rs)

pub record InRuns (es : List Entry) : Type 0 where
  pub runs : List Run
  pub apart : Apart runs
  pub whole : es ≡ in_row runs
