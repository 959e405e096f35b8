-- A refusal by its number in the documents, and the number that an answer refuses by.
use Rattle.std.specs.Prelude.{ℕ, Result, Ok, Err}
use Rattle.rules.specs.declared.refused.Refusal.{Refusal}
use Rattle.rules.specs.declared.refused.Refusal.TheVariants as refusal

abbrev pub number : Refusal → ℕ
number refusal.Coordinate = 1
number refusal.Neighbours = 2
number refusal.StartLevel = 3
number refusal.Limits = 4
number refusal.Ended = 5
number refusal.AtFinestLevel = 6
number refusal.AtLevelZero = 7
number refusal.OutOfLine = 8
number refusal.Room = 9
number refusal.NoDrawing = 10
number refusal.SheetSize = 11
number refusal.PathCount = 12
number refusal.Offset = 13
number refusal.Segments = 14
number refusal.CutRecord = 15
number refusal.BytesLeft = 16
number refusal.NumberList = 17
number refusal.FinestLevel = 24

-- 0 where nothing is refused
abbrev pub refusal_of : {A : Type 0} → Result A Refusal → ℕ
refusal_of (Ok answer) = 0
refusal_of (Err r) = number r
