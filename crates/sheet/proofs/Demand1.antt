-- Demand 1 for sheets: a refusal is one of the tabled numbers, answers 0 for the count and leaves the lent buffer as found.
use mathlib.Core.Path.{◌≡◌}
use mathlib.Core.Bool.{Bool}
use mathlib.Core.List.{List, [], ◌∷◌}
use Prim.Native.Nat.{ℕ, zero, suc, ◌+◌, ◌≤◌}
use borrow.Author.Tests.{le-leb}
use lib.Dec.{leb, eqb}
use lib.IntN.{ℤ}
use lib.ListN.{length}
use Rattle.numbers.specs.Tables.{All}
use Rattle.rules.specs.Refusals.{Among}
use Rattle.rules.specs.Rules.{is_level, are_limits, is_segments, head_refusal, are_points, are_chained, points_refusal}
use Rattle.rules.proofs.Refusals.{first_among, line_among, among, among_wider, untabled, filled_refused}
use Rattle.sheet.specs.Bytes.{u32_at}
use Rattle.sheet.specs.Sheet.{Target, least_bytes, most_bytes, most_paths, list_head, head_size, sheet_bytes, sheet_numbers}
use Rattle.sheet.specs.Records.{record_end, sheet_at}
use Rattle.sheet.specs.NumberList.{number_at, path_end, sheet_of}
use Rattle.sheet.specs.PathRules.{path_rules}
use Rattle.sheet.specs.Reading.{is_offset, body_refusal, record_refusal, records_refusal, sheet_refusal, read_refusal}
use Rattle.sheet.specs.Writing.{path_refusal, paths_refusal, list_refusal, write_refusal}
use Rattle.sheet.specs.Answer.{read_table, write_table, read_answer, numbers_read, write_answer, bytes_written}
use Rattle.sheet.proofs.Room.{refused_or_wrote, answered_refusal, refused_answer, room_refusal}

-- ---- the tables

-- 14, 3, 1 and 2 are in both
path_among : {short : ℕ} (begins ends : Bool) (p : Target) {table : List ℕ} → Among short table → Among 14 table → Among 3 table → Among 1 table
    → Among 2 table → Among 0 table → Among (path_rules short begins ends p) table
unfolding path_rules head_refusal points_refusal
path_among begins ends p short segments level points chained none =
    line_among begins short
    (first_among (head_refusal _ p.segments p.level) _
    (line_among (is_segments p.segments) segments (line_among (is_level _ p.level) level none))
    (line_among ends short (line_among (are_points p.points) points (line_among (are_chained _ p.points) chained none))))

room_among : (k count room : ℕ) {table : List ℕ} → Among k table → Among 9 table → Among 0 table
    → Among (refused_or_wrote (room_refusal k count room) count).refusal table
room_among k count room refusal nine none = rw answered_refusal (first_among k _ refusal (line_among (leb count room) nine none))

-- of all records, and of all paths
abbrev record_table : List ℕ
record_table = 0 ∷ 1 ∷ 2 ∷ 3 ∷ 13 ∷ 14 ∷ 15 ∷ 16 ∷ []

abbrev path_table : List ℕ
path_table = 0 ∷ 1 ∷ 2 ∷ 3 ∷ 14 ∷ 17 ∷ []

records_among : (b : List ℕ) (n k p : ℕ) → Among (records_refusal b n k p) record_table
unfolding records_refusal record_refusal body_refusal
records_among b zero k p = line_among (eqb p (length b)) (among tt) (among tt)
records_among b (suc n) k p =
    let path = path_among _ _ _ (among tt) (among tt) (among tt) (among tt) (among tt) (among tt) in
    first_among (record_refusal b k p) _ (line_among (is_offset b k p) (among tt) path) (records_among b n (k + 1) (record_end b p))

paths_among : (l : List ℤ) (n i : ℕ) → Among (paths_refusal l n i) path_table
unfolding paths_refusal path_refusal
paths_among l zero i = line_among (eqb i (length l)) (among tt) (among tt)
paths_among l (suc n) i =
    let path = path_among _ _ _ (among tt) (among tt) (among tt) (among tt) (among tt) (among tt) in
    first_among (path_refusal l i) _ path (paths_among l n (path_end l i))

pub read_refuses_as_tabled : (b : List ℕ) (room : ℕ) → Among (read_answer b room).refusal read_table
unfolding read_answer read_refusal sheet_refusal
read_refuses_as_tabled b room =
    let N = u32_at b 0 in
    room_among (sheet_refusal b) _ room
    (line_among (leb least_bytes (length b)) (among tt)
    (line_among (leb (length b) most_bytes) (among tt)
    (line_among (leb N most_paths) (among tt)
    (line_among (leb (head_size N) (length b)) (among tt)
    (line_among (are_limits (u32_at b 4) (u32_at b 8)) (among tt) (among_wider record_table read_table (records_among b N 0 (head_size N)) tt))))))
    (among tt) (among tt)

pub write_refuses_as_tabled : (l : List ℤ) (room : ℕ) → Among (write_answer l room).refusal write_table
unfolding write_answer write_refusal list_refusal
write_refuses_as_tabled l room =
    let fits = leb (length (sheet_bytes (sheet_of l))) most_bytes in
    room_among (list_refusal l) _ room
    (line_among (leb list_head (length l)) (among tt)
    (line_among (leb (number_at l 0) most_paths) (among tt)
    (line_among (are_limits (number_at l 1) (number_at l 2)) (among tt)
    (first_among (paths_refusal l (number_at l 0) list_head) _
    (among_wider path_table write_table (paths_among l (number_at l 0) list_head) tt)
    (line_among fits (among tt) (among tt))))))
    (among tt) (among tt)

-- no other number is ever answered
pub read_refuses_nothing_else : (b : List ℕ) (room : ℕ) → All (λ k. (read_answer b room).refusal ≡ k → ⊥) (5 ∷ 6 ∷ 7 ∷ 8 ∷ 10 ∷ 17 ∷ [])
read_refuses_nothing_else b room = untabled read_table (5 ∷ 6 ∷ 7 ∷ 8 ∷ 10 ∷ 17 ∷ []) (read_refuses_as_tabled b room) tt

pub write_refuses_nothing_else : (l : List ℤ) (room : ℕ)
    → All (λ k. (write_answer l room).refusal ≡ k → ⊥) (5 ∷ 6 ∷ 7 ∷ 8 ∷ 10 ∷ 13 ∷ 15 ∷ 16 ∷ [])
write_refuses_nothing_else l room = untabled write_table (5 ∷ 6 ∷ 7 ∷ 8 ∷ 10 ∷ 13 ∷ 15 ∷ 16 ∷ []) (write_refuses_as_tabled l room) tt

-- ---- 11 for its size alone: no sheet from 12 to 32,768 bytes, and no number list whose sheet has at most 32,768

pub sheet_refuses_11_only : (b : List ℕ) → 12 ≤ length b → length b ≤ 32768 → sheet_refusal b ≡ 11 → ⊥
unfolding sheet_refusal
sheet_refuses_11_only b least most =
    let N = u32_at b 0 in
    let table : List ℕ = 4 ∷ 12 ∷ record_table in
    let others = among_wider record_table table (records_among b N 0 (head_size N)) tt in
    let inside : Among (sheet_refusal b) table =
    rw (le-leb _ _ least, le-leb _ _ most)
    (line_among (leb N most_paths) (among tt)
    (line_among (leb (head_size N) (length b)) (among tt) (line_among (are_limits (u32_at b 4) (u32_at b 8)) (among tt) others))) in
    (untabled table (11 ∷ []) inside tt).0

pub list_refuses_11_only : (l : List ℤ) → length (sheet_bytes (sheet_of l)) ≤ 32768 → list_refusal l ≡ 11 → ⊥
unfolding list_refusal
list_refuses_11_only l fits =
    let table : List ℕ = 4 ∷ 12 ∷ path_table in
    let paths = among_wider path_table table (paths_among l (number_at l 0) list_head) tt in
    let inside : Among (list_refusal l) table =
    rw (le-leb _ _ fits)
    (line_among (leb list_head (length l)) (among tt)
    (line_among (leb (number_at l 0) most_paths) (among tt)
    (line_among (are_limits (number_at l 1) (number_at l 2)) (among tt) (first_among (paths_refusal l (number_at l 0) list_head) 0 paths (among tt))))) in
    (untabled table (11 ∷ []) inside tt).0

-- ---- a refusal

pub refused_read_answers_zero : (b : List ℕ) (room : ℕ) → ((read_answer b room).refusal ≡ 0 → ⊥)
    → read_answer b room ≡ record { refusal = (read_answer b room).refusal; count = 0 }
unfolding read_answer
refused_read_answers_zero b room h = rw answered_refusal (refused_answer _ _ (rw answered_refusal at h))

pub refused_write_answers_zero : (l : List ℤ) (room : ℕ) → ((write_answer l room).refusal ≡ 0 → ⊥)
    → write_answer l room ≡ record { refusal = (write_answer l room).refusal; count = 0 }
unfolding write_answer
refused_write_answers_zero l room h = rw answered_refusal (refused_answer _ _ (rw answered_refusal at h))

pub refused_read_changes_nothing : (b : List ℕ) (numbers : List ℤ) → ((read_answer b (length numbers)).refusal ≡ 0 → ⊥)
    → numbers_read b numbers ≡ numbers
unfolding read_answer numbers_read
refused_read_changes_nothing b numbers h = filled_refused (sheet_numbers (sheet_at b)) numbers _ (rw answered_refusal at h)

pub refused_write_changes_nothing : (l : List ℤ) (sheet : List ℕ) → ((write_answer l (length sheet)).refusal ≡ 0 → ⊥)
    → bytes_written l sheet ≡ sheet
unfolding write_answer bytes_written
refused_write_changes_nothing l sheet h = filled_refused (sheet_bytes (sheet_of l)) sheet _ (rw answered_refusal at h)
