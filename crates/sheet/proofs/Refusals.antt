-- The order of the refusals: each number where all tests before it are kept, whatever comes after. Within one path that is in PathRules; that
-- one record or path comes before the next, and all before 16 or 17, is `records_stop`, `records_left` of Reading and `paths_stop`,
-- `paths_left` of Writing.
use mathlib.Core.Path.{◌≡◌}
use mathlib.Core.Bool.{true, false}
use mathlib.Core.List.{List}
use Prim.Native.Nat.{ℕ, ◌+◌, ◌*◌, ◌≤◌, ◌<◌}
use native.Mathlib.Omega.{arith}
use borrow.Author.Tests.{le-leb, lt-leb, eq-eqb, ne_eqb}
use lib.IntN.{ℤ}
use lib.ListN.{length}
use Rattle.rules.specs.Rules.{are_limits}
use Rattle.rules.proofs.Refusals.{first_stop}
use Rattle.sheet.specs.Bytes.{u16_at, u32_at}
use Rattle.sheet.specs.Sheet.{sheet_bytes, sheet_numbers}
use Rattle.sheet.specs.Records.{record_mark, record_at, record_end, sheet_at}
use Rattle.sheet.specs.NumberList.{number_at, path_mark, path_at, path_end, sheet_of}
use Rattle.sheet.specs.Reading.{is_offset, body_refusal, record_refusal, records_refusal, sheet_refusal, read_refusal}
use Rattle.sheet.specs.Writing.{path_refusal, paths_refusal, list_refusal, write_refusal}
use Rattle.sheet.specs.Answer.{refused_by, read_answer, write_answer}
use Rattle.sheet.proofs.InNumbers.{path_points, points_in_numbers}
use Rattle.sheet.proofs.PathRules.{PathOrder, rules_in_order}
use Rattle.sheet.proofs.Room.{room_short, room_refused}

-- ---- reading: 11, 12, 4, the records

module _ (b : List ℕ) where
  pub sheet_refuses_11_under : length b < 12 → sheet_refusal b ≡ 11
  unfolding sheet_refusal
  sheet_refuses_11_under h = rw (lt-leb 12 (length b) h)

  pub sheet_refuses_11_over : 32768 < length b → sheet_refusal b ≡ 11
  unfolding sheet_refusal
  sheet_refuses_11_over h = rw (le-leb 12 (length b) (omega arith), lt-leb (length b) 32768 h)

  module _ (least : 12 ≤ length b) (most : length b ≤ 32768) where
    pub sheet_refuses_12_count : 1024 < u32_at b 0 → sheet_refusal b ≡ 12
    unfolding sheet_refusal
    sheet_refuses_12_count h = rw (le-leb _ _ least, le-leb _ _ most, lt-leb (u32_at b 0) 1024 h)

    module _ (few : u32_at b 0 ≤ 1024) where
      pub sheet_refuses_12_offsets : length b < 12 + 4 * u32_at b 0 → sheet_refusal b ≡ 12
      unfolding sheet_refusal
      sheet_refuses_12_offsets h = rw (le-leb _ _ least, le-leb _ _ most, le-leb _ _ few, lt-leb (12 + 4 * u32_at b 0) (length b) h)

      module _ (offsets : 12 + 4 * u32_at b 0 ≤ length b) where
        pub sheet_refuses_4 : are_limits (u32_at b 4) (u32_at b 8) ≡ false → sheet_refusal b ≡ 4
        unfolding sheet_refusal
        sheet_refuses_4 e = rw (le-leb _ _ least, le-leb _ _ most, le-leb _ _ few, le-leb _ _ offsets, e)

        pub sheet_refuses_by_records : are_limits (u32_at b 4) (u32_at b 8) ≡ true
            → sheet_refusal b ≡ records_refusal b (u32_at b 0) 0 (12 + 4 * u32_at b 0)
        unfolding sheet_refusal
        sheet_refuses_by_records e = rw (le-leb _ _ least, le-leb _ _ most, le-leb _ _ few, le-leb _ _ offsets, e)

-- record k, at p: 13 whatever it holds, then the rules of a path
module _ (b : List ℕ) (k p : ℕ) where
  pub record_refuses_13 : (u32_at b (12 + 4 * k) ≡ p → ⊥) → record_refusal b k p ≡ 13
  unfolding record_refusal is_offset
  record_refuses_13 h = rw (ne_eqb _ p h)

  pub record_refuses_by_body : u32_at b (12 + 4 * k) ≡ p → record_refusal b k p ≡ body_refusal b p
  unfolding record_refusal is_offset
  record_refuses_by_body e = rw (eq-eqb _ p e)

-- ---- one path, in a sheet and in a number list

-- a record at p: 15 for its first four bytes, 14, 3, 15 for the points of its degree, of two bytes in x, in y and in width, then 1 and 2
pub record_order : (b : List ℕ) (p : ℕ)
    → PathOrder (body_refusal b p) 15 (p + 4) (p + 4 + 2 * (3 * path_points (record_mark b p).degree (u16_at b p))) (length b) (record_at b p)
unfolding body_refusal
record_order b p = rw (← points_in_numbers) (rules_in_order 15 (p + 4) (record_end b p) (length b) (record_at b p))

-- a path at i: 17 for its first two numbers, 14, 3, 17 for the points of its degree, of three numbers, then 1 and 2
pub path_order : (l : List ℤ) (i : ℕ)
    → PathOrder (path_refusal l i) 17 (i + 2) (i + 2 + 3 * path_points (path_mark l i).degree (number_at l i)) (length l) (path_at l i)
unfolding path_refusal
path_order l i = rw (← points_in_numbers) (rules_in_order 17 (i + 2) (path_end l i) (length l) (path_at l i))

-- ---- 9 after all of a sheet's refusals

module _ (b : List ℕ) (room : ℕ) where
  pub read_refuses_by_sheet : (sheet_refusal b ≡ 0 → ⊥) → read_answer b room ≡ refused_by (sheet_refusal b)
  unfolding read_answer read_refusal
  read_refuses_by_sheet h = room_refused (sheet_refusal b) (length (sheet_numbers (sheet_at b))) room h

  pub read_refuses_9 : sheet_refusal b ≡ 0 → room < length (sheet_numbers (sheet_at b)) → read_answer b room ≡ refused_by 9
  unfolding read_answer read_refusal
  read_refuses_9 e h = room_short (sheet_refusal b) (length (sheet_numbers (sheet_at b))) room e h

-- ---- writing: 17, 12, 4, the paths, 11, 9

module _ (l : List ℤ) where
  pub list_refuses_17 : length l < 3 → list_refusal l ≡ 17
  unfolding list_refusal
  list_refuses_17 h = rw (lt-leb 3 (length l) h)

  module _ (least : 3 ≤ length l) where
    pub list_refuses_12 : 1024 < number_at l 0 → list_refusal l ≡ 12
    unfolding list_refusal
    list_refuses_12 h = rw (le-leb _ _ least, lt-leb (number_at l 0) 1024 h)

    module _ (few : number_at l 0 ≤ 1024) where
      pub list_refuses_4 : are_limits (number_at l 1) (number_at l 2) ≡ false → list_refusal l ≡ 4
      unfolding list_refusal
      list_refuses_4 e = rw (le-leb _ _ least, le-leb _ _ few, e)

      module _ (limits : are_limits (number_at l 1) (number_at l 2) ≡ true) where
        -- numbers left over too: they are refused after the last path
        pub list_refuses_by_paths : (paths_refusal l (number_at l 0) 3 ≡ 0 → ⊥) → list_refusal l ≡ paths_refusal l (number_at l 0) 3
        unfolding list_refusal
        list_refuses_by_paths h = rw (le-leb _ _ least, le-leb _ _ few, limits) (first_stop (paths_refusal l (number_at l 0) 3) _ h)

        pub list_refuses_11 : paths_refusal l (number_at l 0) 3 ≡ 0 → 32768 < length (sheet_bytes (sheet_of l)) → list_refusal l ≡ 11
        unfolding list_refusal
        list_refuses_11 e h = rw (le-leb _ _ least, le-leb _ _ few, limits, e, lt-leb (length (sheet_bytes (sheet_of l))) 32768 h)

module _ (l : List ℤ) (room : ℕ) where
  pub write_refuses_by_list : (list_refusal l ≡ 0 → ⊥) → write_answer l room ≡ refused_by (list_refusal l)
  unfolding write_answer write_refusal
  write_refuses_by_list h = room_refused (list_refusal l) (length (sheet_bytes (sheet_of l))) room h

  pub write_refuses_9 : list_refusal l ≡ 0 → room < length (sheet_bytes (sheet_of l)) → write_answer l room ≡ refused_by 9
  unfolding write_answer write_refusal
  write_refuses_9 e h = room_short (list_refusal l) (length (sheet_bytes (sheet_of l))) room e h
