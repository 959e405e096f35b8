-- Demand 2 for sheets: what is read and written again is the same bytes, and what is written and read again is the same numbers. The lent
-- buffers are of any length and content.
use Rattle.std.specs.Prelude.{◌≡◌, List, ◌++◌, ℤ, length, take, drop, ℕ}
use Rattle.sheet.specs.Answer.{read_answer, numbers_read, write_answer, bytes_written}

-- the numbers that reading b answers for, in front of the list that was lent
abbrev pub answered_numbers : List ℕ → List ℤ → List ℤ
answered_numbers b numbers = take (read_answer b (length numbers)).count (numbers_read b numbers)

-- the bytes that writing l answers for, in front of the sheet that was lent
abbrev pub answered_bytes : List ℤ → List ℕ → List ℕ
answered_bytes l sheet = take (write_answer l (length sheet)).count (bytes_written l sheet)

-- the sheet b, read into `numbers` and from there written into `sheet`
pub record SameBytes (b : List ℕ) (numbers : List ℤ) (sheet : List ℕ) : Type 0 where
  pub answer : write_answer (answered_numbers b numbers) (length sheet) ≡ record { refusal = 0; count = length b }
  pub bytes : bytes_written (answered_numbers b numbers) sheet ≡ b ++ drop (length b) sheet

-- the number list l, written into `sheet` and from there read into `numbers`
pub record SameNumbers (l : List ℤ) (sheet : List ℕ) (numbers : List ℤ) : Type 0 where
  pub answer : read_answer (answered_bytes l sheet) (length numbers) ≡ record { refusal = 0; count = length l }
  pub list : numbers_read (answered_bytes l sheet) numbers ≡ l ++ drop (length l) numbers
