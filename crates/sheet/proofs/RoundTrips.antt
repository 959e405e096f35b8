-- Demand 2 for sheets, over the answers and the lent buffers: what is accepted is a right sheet, a right sheet is read and written whole,
-- and so both round trips.
use mathlib.Core.Path.{◌≡◌, refl, ap}
use mathlib.Core.List.{List, ◌++◌}
use Prim.Native.Nat.{ℕ, ◌≤◌}
use native.Mathlib.Omega.{arith}
use lib.IntN.{ℤ}
use lib.ListN.{length, take, drop}
use lib.Seq.{take-append_seam, drop-append_seam}
use Rattle.sheet.specs.Bytes.{Bytes}
use Rattle.sheet.specs.Sheet.{Sheet, most_numbers, sheet_bytes, sheet_numbers, Right}
use Rattle.sheet.specs.Records.{sheet_at}
use Rattle.sheet.specs.NumberList.{sheet_of}
use Rattle.sheet.specs.Reading.{sheet_refusal, read_refusal}
use Rattle.sheet.specs.Writing.{list_refusal, write_refusal}
use Rattle.sheet.specs.Answer.{wrote, read_answer, numbers_read, write_answer, bytes_written}
use Rattle.sheet.specs.Demand2.{SameBytes, SameNumbers, answered_numbers, answered_bytes}
use Rattle.sheet.proofs.Sheets.{largest}
use Rattle.sheet.proofs.Room.{room_accepted, room_enough, front_answered}
use Rattle.sheet.proofs.ReadsBack.{reads_back}
use Rattle.sheet.proofs.ReadsOnly.{reads_only}
use Rattle.sheet.proofs.WritesBack.{writes_back}
use Rattle.sheet.proofs.WritesOnly.{writes_only}

-- ---- reading

pub read_accepted : (b : List ℕ) (room : ℕ) → Bytes b → (read_answer b room).refusal ≡ 0
    → Right (sheet_at b) × (sheet_bytes (sheet_at b) ≡ b) × (length (sheet_numbers (sheet_at b)) ≤ room)
unfolding read_answer read_refusal
read_accepted b room bs e =
    let accepted = room_accepted (sheet_refusal b) (length (sheet_numbers (sheet_at b))) room e in
    let only = reads_only b bs accepted.0 in
    (only.0, only.1, accepted.1)

pub right_read : (s : Sheet) (numbers : List ℤ) → Right s → length (sheet_numbers s) ≤ length numbers
    → (read_answer (sheet_bytes s) (length numbers) ≡ wrote (length (sheet_numbers s)))
    × (numbers_read (sheet_bytes s) numbers ≡ sheet_numbers s ++ drop (length (sheet_numbers s)) numbers)
unfolding read_answer read_refusal numbers_read
right_read s numbers r h = let back = reads_back s r in room_enough numbers back.1 (ap sheet_numbers back.0) h

-- into 16,384 numbers every sheet that keeps its rules is read
pub most-numbers : most_numbers ≡ 16384
most-numbers = refl

pub room_for_every_sheet : (b : List ℕ) (numbers : List ℤ) → Bytes b → sheet_refusal b ≡ 0 → 16384 ≤ length numbers
    → read_answer b (length numbers) ≡ wrote (length (sheet_numbers (sheet_at b)))
room_for_every_sheet b numbers bs e h =
    let only = reads_only b bs e in
    rw only.1 at (right_read (sheet_at b) numbers only.0 (omega (arith, largest (sheet_at b) only.0))).0

-- ---- writing

pub write_accepted : (l : List ℤ) (room : ℕ) → (write_answer l room).refusal ≡ 0
    → Right (sheet_of l) × (sheet_numbers (sheet_of l) ≡ l) × (length (sheet_bytes (sheet_of l)) ≤ room)
unfolding write_answer write_refusal
write_accepted l room e =
    let accepted = room_accepted (list_refusal l) (length (sheet_bytes (sheet_of l))) room e in
    let only = writes_only l accepted.0 in
    (only.0, only.1, accepted.1)

pub right_written : (s : Sheet) (sheet : List ℕ) → Right s → length (sheet_bytes s) ≤ length sheet
    → (write_answer (sheet_numbers s) (length sheet) ≡ wrote (length (sheet_bytes s)))
    × (bytes_written (sheet_numbers s) sheet ≡ sheet_bytes s ++ drop (length (sheet_bytes s)) sheet)
unfolding write_answer write_refusal bytes_written
right_written s sheet r h = let back = writes_back s r in room_enough sheet back.1 (ap sheet_bytes back.0) h

-- ---- both round trips

pub same_bytes : (b : List ℕ) (numbers : List ℤ) (sheet : List ℕ) → Bytes b → (read_answer b (length numbers)).refusal ≡ 0
    → length b ≤ length sheet → SameBytes b numbers sheet
same_bytes b numbers sheet bs e h =
    let a = read_accepted b (length numbers) bs e in
    let read = rw a.1 at (right_read (sheet_at b) numbers a.0 a.2) in
    let front : answered_numbers b numbers ≡ sheet_numbers (sheet_at b) = front_answered _ numbers read in
    let written = rw a.1 at (right_written (sheet_at b) sheet a.0 (rw a.1 h)) in
    record { answer = rw front written.0; bytes = rw front written.1 }

pub same_numbers : (l : List ℤ) (sheet : List ℕ) (numbers : List ℤ) → (write_answer l (length sheet)).refusal ≡ 0
    → length l ≤ length numbers → SameNumbers l sheet numbers
same_numbers l sheet numbers e h =
    let a = write_accepted l (length sheet) e in
    let written = rw a.1 at (right_written (sheet_of l) sheet a.0 a.2) in
    let front : answered_bytes l sheet ≡ sheet_bytes (sheet_of l) = front_answered _ sheet written in
    let read = rw a.1 at (right_read (sheet_of l) numbers a.0 (rw a.1 h)) in
    record { answer = rw front read.0; list = rw front read.1 }

-- ---- the same, with what stands in front of the lent buffer and what after it

pub read_then_written : (b : List ℕ) (numbers : List ℤ) (sheet : List ℕ) → SameBytes b numbers sheet
    → let list = take (read_answer b (length numbers)).count (numbers_read b numbers) in
    (write_answer list (length sheet) ≡ record { refusal = 0; count = length b })
    × (take (length b) (bytes_written list sheet) ≡ b)
    × (drop (length b) (bytes_written list sheet) ≡ drop (length b) sheet)
read_then_written b numbers sheet s =
    (s.answer, rw s.bytes (take-append_seam b (drop (length b) sheet)), rw s.bytes (drop-append_seam b (drop (length b) sheet)))

pub written_then_read : (l : List ℤ) (sheet : List ℕ) (numbers : List ℤ) → SameNumbers l sheet numbers
    → let bytes = take (write_answer l (length sheet)).count (bytes_written l sheet) in
    (read_answer bytes (length numbers) ≡ record { refusal = 0; count = length l })
    × (take (length l) (numbers_read bytes numbers) ≡ l)
    × (drop (length l) (numbers_read bytes numbers) ≡ drop (length l) numbers)
written_then_read l sheet numbers s =
    (s.answer, rw s.list (take-append_seam l (drop (length l) numbers)), rw s.list (drop-append_seam l (drop (length l) numbers)))
