-- What reading and writing answer, and what they leave in the lent buffer.
use Rattle.std.specs.Prelude.{List, [], ◌∷◌, ℕ, ℤ, length, Result, Ok, Err}
use Rattle.rules.specs.declared.refused.Refusal.{Refusal}
use Rattle.rules.specs.Numbered.{number}
use Rattle.rules.specs.Refusals.{refusal_or, filled}
use Rattle.sheet.specs.Sheet.{sheet_bytes, sheet_numbers}
use Rattle.sheet.specs.Records.{sheet_at}
use Rattle.sheet.specs.NumberList.{sheet_of}
use Rattle.sheet.specs.Reading.{read_refusal}
use Rattle.sheet.specs.Writing.{write_refusal}

-- the numbers by which a sheet and a number list may be refused, 0 for none
abbrev pub read_table : List ℕ
read_table = 0 ∷ 1 ∷ 2 ∷ 3 ∷ 4 ∷ 9 ∷ 11 ∷ 12 ∷ 13 ∷ 14 ∷ 15 ∷ 16 ∷ []

abbrev pub write_table : List ℕ
write_table = 0 ∷ 1 ∷ 2 ∷ 3 ∷ 4 ∷ 9 ∷ 11 ∷ 12 ∷ 14 ∷ 17 ∷ []

-- an answer in two numbers: the refusal, 0 for none, and how many numbers or bytes were written
pub record Written : Type 0 where
  pub refusal : ℕ
  pub count : ℕ

-- a refusal answers its number, with count 0
abbrev pub refused_by : ℕ → Written
refused_by k = record { refusal = k; count = 0 }

-- and else how many numbers or bytes were written
abbrev pub wrote : ℕ → Written
wrote count = record { refusal = 0; count = count }

-- what `read` and `write` return, in two numbers
abbrev pub answered : Result ℕ Refusal → Written
answered (Ok count) = wrote count
answered (Err r) = refused_by (number r)

-- reading b into a list of `room` numbers, and the list afterwards
unfoldable pub read_answer : List ℕ → ℕ → Written
read_answer b room = refusal_or (read_refusal b room) refused_by (wrote (length (sheet_numbers (sheet_at b))))

unfoldable pub numbers_read : List ℕ → List ℤ → List ℤ
numbers_read b numbers = filled (read_refusal b (length numbers)) (sheet_numbers (sheet_at b)) numbers

-- writing l into a sheet of `room` bytes, and the sheet afterwards
unfoldable pub write_answer : List ℤ → ℕ → Written
write_answer l room = refusal_or (write_refusal l room) refused_by (wrote (length (sheet_bytes (sheet_of l))))

unfoldable pub bytes_written : List ℤ → List ℕ → List ℕ
bytes_written l sheet = filled (write_refusal l (length sheet)) (sheet_bytes (sheet_of l)) sheet
