-- The values at which the documents draw their limits, inside and outside, as one statement over a table of them.
use mathlib.Core.Path.{◌≡◌, refl}
use mathlib.Core.Bool.{Bool, true, false, not}
use mathlib.Core.List.{List, [], ◌∷◌}
use Prim.Native.Nat.{ℕ}
use lib.Dec.{T}
use lib.IntN.{ℤ, pos, negsuc}
use Rattle.numbers.specs.Tables.{All}
use Rattle.numbers.proofs.Tables.{tested}
use Rattle.rules.specs.declared.Degree.{Degree}
use Rattle.rules.specs.declared.Degree.TheVariants.{Quadratic, Cubic}
use Rattle.rules.specs.Rules.{is_finest, reach, is_coordinate, are_neighbours, is_level, are_limits, is_segments, is_size, are_points, are_beside, are_chained}

-- neighbours and levels at a finest level, neighbours and sizes of a degree
pub data Rule : Type 0 where
  finest : ℕ → Rule
  coordinate : ℤ → Rule
  neighbours : Degree → ℕ → ℤ → ℤ → Rule
  level : ℕ → ℕ → Rule
  limits : ℕ → ℕ → Rule
  size : Degree → ℕ → ℕ → Rule
  points : List ℤ → Rule
  chained : List ℤ → Rule

abbrev pub keeps : Rule → Bool
keeps (finest F) = is_finest F
keeps (coordinate p) = is_coordinate p
keeps (neighbours D F p p') = are_neighbours (reach D F) p p'
keeps (level F n) = is_level F n
keeps (limits upper lower) = are_limits upper lower
keeps (size D S numbers) = is_size D S numbers
keeps (points numbers) = are_points numbers
keeps (chained numbers) = are_chained (reach Cubic 11) numbers

pub record Row : Type 0 where
  pub rule : Rule
  pub kept : Bool

abbrev pub Holds : Row → Type 0
Holds w = keeps w.rule ≡ w.kept

abbrev yes : Rule → Row
yes r = record { rule = r; kept = true }

abbrev no : Rule → Row
no r = record { rule = r; kept = false }

unfoldable pub table : List Row
table =
    -- finest levels 6 to 12
    yes (finest 6)
    ∷ no (finest 5)
    ∷ yes (finest 12)
    ∷ no (finest 13)
    -- each coordinate from −16,384 to 16,383
    ∷ yes (coordinate (negsuc 16383))
    ∷ no (coordinate (negsuc 16384))
    ∷ yes (coordinate (pos 16383))
    ∷ no (coordinate (pos 16384))
    -- neighbours differ by at most 682, and at a coarser finest level by less
    ∷ yes (neighbours Cubic 11 (pos 0) (pos 682))
    ∷ no (neighbours Cubic 11 (pos 0) (pos 683))
    ∷ yes (neighbours Cubic 11 (pos 682) (pos 0))
    ∷ no (neighbours Cubic 11 (pos 683) (pos 0))
    ∷ yes (neighbours Cubic 6 (pos 0) (pos 20))
    ∷ no (neighbours Cubic 6 (pos 0) (pos 21))
    ∷ yes (neighbours Cubic 12 (pos 682) (pos 0))
    ∷ no (neighbours Cubic 12 (pos 683) (pos 0))
    -- those of a quadratic by at most 1,023
    ∷ yes (neighbours Quadratic 11 (pos 0) (pos 1023))
    ∷ no (neighbours Quadratic 11 (pos 0) (pos 1024))
    ∷ yes (neighbours Quadratic 11 (pos 1023) (pos 0))
    ∷ no (neighbours Quadratic 11 (pos 1024) (pos 0))
    ∷ yes (neighbours Quadratic 6 (pos 0) (pos 31))
    ∷ no (neighbours Quadratic 6 (pos 0) (pos 32))
    ∷ yes (neighbours Quadratic 12 (pos 1023) (pos 0))
    ∷ no (neighbours Quadratic 12 (pos 1024) (pos 0))
    -- levels 0 to the finest
    ∷ yes (level 11 0)
    ∷ yes (level 11 11)
    ∷ no (level 11 12)
    ∷ yes (level 6 6)
    ∷ no (level 6 7)
    ∷ yes (level 12 12)
    ∷ no (level 12 13)
    -- 1 ≤ upper ≤ 65,536 and 0 ≤ lower ≤ upper
    ∷ yes (limits 65536 32768)
    ∷ yes (limits 65536 65536)
    ∷ no (limits 65537 65536)
    ∷ yes (limits 1 0)
    ∷ no (limits 0 0)
    ∷ no (limits 1 2)
    -- 1 to 64 segments, 3(3S+1) numbers: those of two coordinates are too few
    ∷ yes (size Cubic 1 12)
    ∷ no (size Cubic 1 11)
    ∷ no (size Cubic 1 8)
    ∷ no (size Cubic 0 3)
    ∷ yes (size Cubic 64 579)
    ∷ no (size Cubic 65 588)
    -- 3(2S+1) numbers of a quadratic path: those of a cubic are too many
    ∷ yes (size Quadratic 1 9)
    ∷ no (size Quadratic 1 12)
    ∷ no (size Cubic 1 9)
    ∷ no (size Quadratic 1 6)
    ∷ no (size Quadratic 0 3)
    ∷ yes (size Quadratic 64 387)
    ∷ no (size Quadratic 65 393)
    -- each number of a path's points is a coordinate, the first and the last too
    ∷ yes (points (negsuc 16383 ∷ pos 16383 ∷ pos 16383 ∷ pos 16383 ∷ negsuc 16383 ∷ negsuc 16383 ∷ []))
    ∷ no (points (negsuc 16384 ∷ pos 0 ∷ pos 0 ∷ pos 0 ∷ pos 0 ∷ pos 0 ∷ []))
    ∷ no (points (pos 0 ∷ pos 16384 ∷ pos 0 ∷ pos 0 ∷ pos 0 ∷ pos 0 ∷ []))
    ∷ no (points (pos 0 ∷ pos 0 ∷ pos 16384 ∷ pos 0 ∷ pos 0 ∷ pos 0 ∷ []))
    ∷ no (points (pos 0 ∷ pos 0 ∷ pos 0 ∷ pos 0 ∷ pos 0 ∷ pos 16384 ∷ []))
    -- x and x, y and y, width and width of neighbouring points differ by at most 682: not two numbers of one point, nor points further on
    ∷ yes (chained (pos 0 ∷ pos 16383 ∷ negsuc 16383 ∷ pos 682 ∷ pos 15701 ∷ negsuc 15701 ∷ pos 1364 ∷ pos 15019 ∷ negsuc 15019 ∷ []))
    ∷ no (chained (pos 0 ∷ pos 0 ∷ pos 0 ∷ pos 683 ∷ pos 0 ∷ pos 0 ∷ pos 683 ∷ pos 0 ∷ pos 0 ∷ []))
    ∷ no (chained (pos 0 ∷ pos 0 ∷ pos 0 ∷ pos 0 ∷ pos 683 ∷ pos 0 ∷ pos 0 ∷ pos 683 ∷ pos 0 ∷ []))
    ∷ no (chained (pos 0 ∷ pos 0 ∷ pos 0 ∷ pos 0 ∷ pos 0 ∷ pos 683 ∷ pos 0 ∷ pos 0 ∷ pos 683 ∷ []))
    ∷ no (chained (pos 0 ∷ pos 0 ∷ pos 0 ∷ pos 0 ∷ pos 0 ∷ pos 0 ∷ pos 683 ∷ pos 0 ∷ pos 0 ∷ []))
    ∷ no (chained (pos 0 ∷ pos 0 ∷ pos 0 ∷ pos 0 ∷ pos 0 ∷ pos 0 ∷ pos 0 ∷ pos 0 ∷ pos 683 ∷ []))
    ∷ []

-- ---- one test for all

abbrev agree : Bool → Bool → Bool
agree true b = b
agree false b = not b

agreed : (a b : Bool) → T (agree a b) → a ≡ b
agreed true true t = refl
agreed true false t = absurd t
agreed false true t = absurd t
agreed false false t = refl

abbrev right : Row → Bool
right w = agree (keeps w.rule) w.kept

pub cases : All Holds table
unfolding table is_finest reach is_coordinate are_neighbours is_level are_limits is_segments is_size are_points are_beside are_chained
cases = tested Holds right (λ w t. agreed (keeps w.rule) w.kept t) table tt
