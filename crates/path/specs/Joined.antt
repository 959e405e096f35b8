-- A path's list from the lists of its segments, each drawn as a path of its own: shifted, and joined without the starts that stand already.
use mathlib.Core.List.{List, [], ◌++◌, map, tail}
use Rattle.std.specs.Prelude.{ℕ, zero, suc, ◌+◌, ◌*◌, ◌^◌, pos, ◌+ℤ◌, take, drop}
use Rattle.rules.specs.Rules.{degree, coordinates}
use Rattle.entries.specs.declared.Entry.{Entry}
use Rattle.path.specs.Path.{Path}
use Rattle.path.specs.Entries.{entries}

-- segment k as a path: points Dk to Dk + D, the same levels and limits
unfoldable pub alone : Path → ℕ → Path
alone p k =
    let D = degree p.degree in
    record {
      degree = p.degree;
      points = take (coordinates * (D + 1)) (drop (coordinates * (D * k)) p.points);
      segments = 1;
      finest = p.finest;
      level = p.level;
      upper = p.upper;
      lower = p.lower;
    }

-- an entry n positions further on
unfoldable pub shifted : ℕ → Entry → Entry
shifted n e = record { position = e.position +ℤ pos n; x = e.x; y = e.y; width = e.width }

-- the list of segment k by itself, at its place on the path
unfoldable pub placed : Path → ℕ → List Entry
placed p k = map (shifted (2 ^ p.finest * k)) (entries (alone p k))

-- m such lists from the k-th on, each without its first entry
unfoldable pub joins : Path → ℕ → ℕ → List Entry
joins p k zero = []
joins p k (suc m) = tail (placed p k) ++ joins p (k + 1) m
