-- Parts of a list that are cut where the list ends: what is read of a number list that may be too short.
use mathlib.Core.Path.{◌≡◌, ap, ◌∙◌}
use mathlib.Core.List.{List}
use Prim.Native.Nat.{ℕ, ◌+◌, ◌-◌, min}
use native.Mathlib.Omega.{arith}
use lib.ListN.{length, take, drop}
use lib.IntN.{ℤ}
use Rattle.std.proofs.lemmas.List.{length-take, take_min, drop_min, drop-take}
use Rattle.std.proofs.lemmas.Slice.{between_is}
use Rattle.sheet.specs.Sheet.{path_head}
use Rattle.sheet.specs.NumberList.{path_point_numbers, path_at, path_end}

-- n values from place a on, as far as l reaches
pub part_reached : {A : Type 0} (l : List A) (a n : ℕ)
    → take (min (a + n) (length l) - min a (length l)) (drop (min a (length l)) l) ≡ take n (drop a l)
part_reached l a n =
    let m = length l in
    let before : min a m ≡ min a (length (take (a + n) l)) = rw length-take (omega arith) in
    between_is l (min a m) (min (a + n) m)
    ∙ ap (drop (min a m)) (take_min (a + n) l)
    ∙ ap (λ (i : ℕ). drop i (take (a + n) l)) before
    ∙ drop_min a (take (a + n) l)
    ∙ drop-take a n l

-- the points of the path whose numbers start at `at`
pub points_read : (l : List ℤ) (at : ℕ) {from to : ℕ} → from ≡ min (at + path_head) (length l) → to ≡ min (path_end l at) (length l)
    → take (to - from) (drop from l) ≡ (path_at l at).points
unfolding path_at
points_read l at f t = rw (t, f, part_reached l (at + path_head) (path_point_numbers l at))
