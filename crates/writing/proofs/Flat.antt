-- The bytes of an accepted number list: after the header they are its numbers in sixteen bits each, in the same order.
use mathlib.Core.Path.{◌≡◌, ap}
use mathlib.Core.List.{List, ◌++◌}
use Prim.Native.Nat.{ℕ, ◌+◌, ◌-◌, ◌*◌, ◌≤◌}
use native.Mathlib.Omega.{arith}
use lib.IntN.{ℤ}
use lib.ListN.{length, drop, length-drop}
use Rattle.sheet.specs.Bytes.{value_size, le32, value_bytes}
use Rattle.sheet.specs.Sheet.{most_bytes, list_head, head_size, offsets, sheet_bytes}
use Rattle.sheet.specs.NumberList.{number_at, paths_at, sheet_of}
use Rattle.sheet.specs.Writing.{Parted, list_refusal}
use Rattle.sheet.proofs.Sheets.{records_flat, length_bytes}
use Rattle.sheet.proofs.NumberList.{count_paths}
use Rattle.sheet.proofs.Writing.{listed, sheet_paths}

module _ (l : List ℤ) (parted : Parted l) where
  pub bytes_flat : sheet_bytes (sheet_of l)
      ≡ le32 (number_at l 0) ++ (le32 (number_at l 1) ++ (le32 (number_at l 2)
      ++ (offsets (head_size (number_at l 0)) (paths_at l (number_at l 0) list_head) ++ value_bytes (drop list_head l))))
  unfolding sheet_bytes sheet_of
  bytes_flat = rw (count_paths l (number_at l 0) list_head, records_flat, ← (sheet_paths l parted).1)

  pub bytes_count : length (sheet_bytes (sheet_of l)) ≡ head_size (number_at l 0) + value_size * (length l - list_head)
  unfolding sheet_of
  bytes_count =
      omega
      (arith, length_bytes (sheet_of l), count_paths l (number_at l 0) list_head, length-drop list_head l, ap length (sheet_paths l parted).1)

-- an accepted list, and a sheet that has room for it
pub room : (l : List ℤ) (sheet : List ℕ) → list_refusal l ≡ 0 → length (sheet_bytes (sheet_of l)) ≤ length sheet
    → let size = head_size (number_at l 0) + value_size * (length l - list_head) in
    (list_head ≤ length l) × (size ≤ length sheet) × (size ≤ most_bytes)
room l sheet e h =
    let a = listed l e in
    let count = bytes_count l a.parted in
    (a.parted.0, omega (arith, h, count), omega (arith, a.fits, count))
