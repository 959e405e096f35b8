-- Writing: the table of its refusals, by a number list.
use Rattle.std.specs.Prelude.{◌≡◌, List, ℕ, zero, suc, ◌+◌, ◌≤◌, leb, eqb, ℤ, length}
use Rattle.rules.specs.Refusals.{unless, first_of}
use Rattle.rules.specs.Rules.{are_limits}
use Rattle.sheet.specs.Sheet.{most_bytes, most_paths, list_head, path_head, sheet_bytes}
use Rattle.sheet.specs.NumberList.{number_at, path_at, path_end, sheet_of}
use Rattle.sheet.specs.PathRules.{path_rules}

-- a path at i: 17, 14, 3, 17, 1, 2
unfoldable pub path_refusal : List ℤ → ℕ → ℕ
path_refusal l i = path_rules 17 (leb (i + path_head) (length l)) (leb (path_end l i) (length l)) (path_at l i)

-- n paths, the first at i; after the last 17 for numbers left over
unfoldable pub paths_refusal : List ℤ → ℕ → ℕ → ℕ
paths_refusal l zero i = unless (eqb i (length l)) 17 0
paths_refusal l (suc n) i = first_of (path_refusal l i) (paths_refusal l n (path_end l i))

-- the paths of l keep their rules, and no number is left over
abbrev pub Parted : List ℤ → Type 0
Parted l = (list_head ≤ length l) × (number_at l 0 ≤ most_paths) × (paths_refusal l (number_at l 0) list_head ≡ 0)

-- all but 9: 17, 12, 4, then the paths, then 11
unfoldable pub list_refusal : List ℤ → ℕ
list_refusal l =
    unless (leb list_head (length l)) 17
    (unless (leb (number_at l 0) most_paths) 12
    (unless (are_limits (number_at l 1) (number_at l 2)) 4
    (first_of (paths_refusal l (number_at l 0) list_head) (unless (leb (length (sheet_bytes (sheet_of l))) most_bytes) 11 0))))

-- into a sheet of `room` bytes
unfoldable pub write_refusal : List ℤ → ℕ → ℕ
write_refusal l room = first_of (list_refusal l) (unless (leb (length (sheet_bytes (sheet_of l))) room) 9 0)
