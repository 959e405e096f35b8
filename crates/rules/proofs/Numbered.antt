-- The numbers of the refusals: what they are, that no refusal is 0, and that an answer's number says which refusal it is.
use mathlib.Core.Path.{◌≡◌, refl, sym, ap, ◌∙◌}
use mathlib.Core.List.{List, [], ◌∷◌, map}
use Prim.Native.Nat.{ℕ, ◌-◌}
use native.Mathlib.Omega.{arith}
use lib.ListN.{get_or}
use Rattle.std.specs.Prelude.{Result, Ok, Err}
use Rattle.rules.specs.declared.refused.Refusal.{Refusal}
use Rattle.rules.specs.declared.refused.Refusal.TheVariants as refusal
use Rattle.rules.specs.Numbered.{number, refusal_of}

abbrev pub every : List Refusal
every =
    refusal.Coordinate
    ∷ refusal.Neighbours
    ∷ refusal.StartLevel
    ∷ refusal.Limits
    ∷ refusal.Ended
    ∷ refusal.AtFinestLevel
    ∷ refusal.AtLevelZero
    ∷ refusal.OutOfLine
    ∷ refusal.Room
    ∷ refusal.NoDrawing
    ∷ refusal.SheetSize
    ∷ refusal.PathCount
    ∷ refusal.Offset
    ∷ refusal.Segments
    ∷ refusal.CutRecord
    ∷ refusal.BytesLeft
    ∷ refusal.NumberList
    ∷ refusal.FinestLevel
    ∷ []

-- in the documents' order
pub numbers_are : map number every ≡ 1 ∷ 2 ∷ 3 ∷ 4 ∷ 5 ∷ 6 ∷ 7 ∷ 8 ∷ 9 ∷ 10 ∷ 11 ∷ 12 ∷ 13 ∷ 14 ∷ 15 ∷ 16 ∷ 17 ∷ 24 ∷ []
numbers_are = refl

pub number_positive : (r : Refusal) → number r ≡ 0 → ⊥
number_positive refusal.Coordinate e = omega arith
number_positive refusal.Neighbours e = omega arith
number_positive refusal.StartLevel e = omega arith
number_positive refusal.Limits e = omega arith
number_positive refusal.Ended e = omega arith
number_positive refusal.AtFinestLevel e = omega arith
number_positive refusal.AtLevelZero e = omega arith
number_positive refusal.OutOfLine e = omega arith
number_positive refusal.Room e = omega arith
number_positive refusal.NoDrawing e = omega arith
number_positive refusal.SheetSize e = omega arith
number_positive refusal.PathCount e = omega arith
number_positive refusal.Offset e = omega arith
number_positive refusal.Segments e = omega arith
number_positive refusal.CutRecord e = omega arith
number_positive refusal.BytesLeft e = omega arith
number_positive refusal.NumberList e = omega arith
number_positive refusal.FinestLevel e = omega arith

-- ---- a number says its refusal

-- the one that stands there in the documents' order; past the seventeenth there is one more
refusal_by : ℕ → Refusal
refusal_by k = get_or every (k - 1) refusal.FinestLevel

read_back : (r : Refusal) → refusal_by (number r) ≡ r
unfolding refusal_by
read_back refusal.Coordinate = refl
read_back refusal.Neighbours = refl
read_back refusal.StartLevel = refl
read_back refusal.Limits = refl
read_back refusal.Ended = refl
read_back refusal.AtFinestLevel = refl
read_back refusal.AtLevelZero = refl
read_back refusal.OutOfLine = refl
read_back refusal.Room = refl
read_back refusal.NoDrawing = refl
read_back refusal.SheetSize = refl
read_back refusal.PathCount = refl
read_back refusal.Offset = refl
read_back refusal.Segments = refl
read_back refusal.CutRecord = refl
read_back refusal.BytesLeft = refl
read_back refusal.NumberList = refl
read_back refusal.FinestLevel = refl

pub number_determines : (r s : Refusal) → number r ≡ number s → r ≡ s
number_determines r s e = sym (read_back r) ∙ ap refusal_by e ∙ read_back s

-- an answer without a value is determined by what it refuses by
pub refusal_determines : (a b : Result (Unit {0}) Refusal) → refusal_of a ≡ refusal_of b → a ≡ b
refusal_determines (Ok _) (Ok _) e = refl
refusal_determines (Ok _) (Err s) e = absurd (number_positive s (sym e))
refusal_determines (Err r) (Ok _) e = absurd (number_positive r e)
refusal_determines (Err r) (Err s) e = ap Err (number_determines r s e)
