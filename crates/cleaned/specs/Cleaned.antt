-- Order 1: a list without repeats and elbows. Neighbouring repeats of a pixel go first, then, from the front, the middle of each elbow. An entry that
-- stays keeps its position and its width.
use Rattle.std.specs.Prelude.{cond, List, [], ◌∷◌}
use Rattle.entries.specs.declared.Entry.{Entry}
use Rattle.cleaned.specs.Moves.{same_pixel, is_elbow}

-- ---- neighbouring repeats: a run of one pixel keeps its first entry, which has the earliest position, and the last run its last

-- of the run's first entry, its latest, and what follows
unfoldable pub runs_from : Entry → Entry → List Entry → List Entry
runs_from first latest [] = latest ∷ []
runs_from first latest (e ∷ es) = cond (same_pixel first e) (runs_from first e es) (first ∷ runs_from e e es)

unfoldable pub runs : List Entry → List Entry
runs [] = []
runs (e ∷ es) = runs_from e e es

-- ---- elbows

-- what is kept after a kept entry: where it, the next and the one after are an elbow, the middle goes and the one after is kept next; else the next is
unfoldable pub straight_after : Entry → List Entry → List Entry
straight_after a [] = []
straight_after a (b ∷ []) = b ∷ []
straight_after a (b ∷ c ∷ es) = cond (is_elbow a b c) (c ∷ straight_after c es) (b ∷ straight_after b (c ∷ es))

unfoldable pub straight : List Entry → List Entry
straight [] = []
straight (a ∷ es) = a ∷ straight_after a es

unfoldable pub cleaned : List Entry → List Entry
cleaned es = straight (runs es)
