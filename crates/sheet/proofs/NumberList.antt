-- The numbers of a number list: as the machine reads them, and as many paths as are asked for.
use mathlib.Core.Path.{◌≡◌, refl, ap}
use mathlib.Core.List.{List, ◌∷◌}
use Prim.Native.Nat.{ℕ, zero, suc, ◌+◌, ◌^◌, ◌≤◌, ◌<◌}
use native.Mathlib.Numerals.{towards_suc}
use native.Mathlib.Omega.{arith}
use lib.IntN.{ℤ, pos}
use lib.ListN.{length, get_or, drop}
use lib.Signed.{mag}
use lib.Seq.{drop-cons}
use mir.Syntax.{w32}
use mir.Val.{to_z, of_z}
use mir.Facts.{to_z-of_z}
use Rattle.rules.specs.Rules.{natural}
use Rattle.sheet.specs.NumberList.{number_at, path_end, paths_at}

pub number_read : (l : List ℤ) (i : ℕ) → mag (get_or l i (pos 0)) < 2 ^ 31 → natural (to_z w32 (of_z w32 (get_or l i (pos 0)))) ≡ number_at l i
number_read l i f = ap natural (to_z-of_z {w = w32} {z = get_or l i (pos 0)} (record { sfits = f }))

pub two_numbers : (l : List ℤ) (i : ℕ) → i + 2 ≤ length l → drop i l ≡ get_or l i (pos 0) ∷ get_or l (i + 1) (pos 0) ∷ drop (i + 2) l
two_numbers l i h = simp towards_suc (rw (drop-cons l i (pos 0) (omega arith), drop-cons l (suc i) (pos 0) (omega arith)))

pub count_paths : (l : List ℤ) (n i : ℕ) → length (paths_at l n i) ≡ n
unfolding paths_at
count_paths l zero i = refl
count_paths l (suc n) i = ap suc (count_paths l n (path_end l i))
