-- Parts of a list that are cut where the list ends: what is drawn of a number list that may be too short.
use mathlib.Core.Path.{◌≡◌}
use mathlib.Core.List.{List}
use Prim.Native.Nat.{ℕ, ◌+◌, ◌*◌, ◌-◌, min}
use native.Mathlib.Omega.{arith}
use lib.ListN.{length, take, drop}
use lib.IntN.{ℤ}
use Rattle.rules.specs.declared.Limits.{Limits}
use Rattle.rules.specs.Rules.{degree, coordinates}
use Rattle.path.specs.declared.Shape.{Shape}
use Rattle.path.specs.Path.{path}
use Rattle.path.specs.Joined.{alone}
use Rattle.sheet.specs.NumberList.{path_at, sheet_of}
use Rattle.sheet.proofs.Reach.{part_reached}
use Rattle.listing_text.specs.Listing.{shape_of, limits_of}
use Rattle.listing_text.specs.Pieces.{path_in}

-- segment k of a path
pub segment_part : (points : List ℤ) (shape : Shape) (limits : Limits) (k from to : ℕ)
    → let D = degree shape.degree in
    from ≡ min (coordinates * (D * k)) (length points) → to ≡ min (from + coordinates * (D + 1)) (length points)
    → path (take (to - from) (drop from points)) (record { degree = shape.degree; segments = 1; finest = shape.finest; level = shape.level }) limits
    ≡ alone (path points shape limits) k
unfolding alone
segment_part points shape limits k from to f t =
    let start = coordinates * (degree shape.degree * k) in
    let size = coordinates * (degree shape.degree + 1) in
    let end : min (min start (length points) + size) (length points) ≡ min (start + size) (length points) = omega arith in
    rw (t, f, end, part_reached points start size)

-- the path whose numbers start at `at`, by its points, its shape and the limits as they are read
pub path_read : (l : List ℤ) (at : ℕ) {points : List ℤ} {shape : Shape} {limits : Limits} → points ≡ (path_at l at).points
    → shape ≡ shape_of (path_at l at) → limits ≡ limits_of (sheet_of l) → path points shape limits ≡ path_in l at
path_read l at p s o = rw (p, s, o)
