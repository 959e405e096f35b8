-- What the drawer carries along a path: how many points there are so far, their length, and the last of them.
use Rattle.std.specs.Prelude.{List, [], ◌∷◌, ℕ, ◌+◌, ◌*◌, ◌^◌, ◌≤◌, ◌<◌}
use Rattle.rules.specs.Rules.{most_finest, most_segments}
use Rattle.engine.specs.declared.Drawing.{Drawing}
use Rattle.entries.specs.declared.Entry.{Entry}
use Rattle.entries.specs.Length.{move_length}
use Rattle.path.specs.Path.{Path, first}
use Rattle.path.specs.Entries.{entry, following}
use Rattle.drawer.specs.declared.Tally.{Tally}

-- a drawing of segment k whose position on the path fits 32 bits
pub record Placed (d : Drawing) (k : ℕ) : Type 0 where
  pub few : k < most_segments
  pub finest : d.finest ≤ most_finest
  pub within : d.q ≤ 2 ^ d.finest

-- the drawing that segment k of a path starts from, and the path's first entry
abbrev pub first_at : Path → ℕ → Drawing
first_at p k = first p.degree p.finest p.points p.level k

abbrev pub start : Path → Entry
start p = entry p.finest 0 (first_at p 0)

-- a tally of the start alone, and one with one more point
unfoldable pub begun : Entry → Tally
begun e = record { totals = record { points = 1; length = 0 }; last = e }

unfoldable pub added : Tally → Entry → Tally
added t e =
    record {
      totals = record { points = t.totals.points + 1; length = t.totals.length + move_length t.last e };
      last = e;
    }

-- small enough that one point more fits
pub record Small (t : Tally) : Type 0 where
  pub few : t.totals.points ≤ 1000000
  pub short : t.totals.length ≤ 1414 * t.totals.points

unfoldable pub added_all : Tally → List Entry → Tally
added_all t [] = t
added_all t (e ∷ es) = added_all (added t e) es

unfoldable pub tally : Path → Tally
tally p = added_all (begun (start p)) (following p 0 p.segments)
