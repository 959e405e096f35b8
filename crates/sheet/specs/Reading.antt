-- Reading: the table of its refusals, by the bytes of a sheet.
use Rattle.std.specs.Prelude.{Bool, List, ℕ, zero, suc, ◌+◌, leb, eqb, length}
use Rattle.rules.specs.Refusals.{unless, first_of}
use Rattle.rules.specs.Rules.{are_limits}
use Rattle.sheet.specs.Bytes.{u32_at}
use Rattle.sheet.specs.Sheet.{least_bytes, most_bytes, most_paths, head_size, record_head, sheet_numbers}
use Rattle.sheet.specs.Records.{record_at, record_end, sheet_at}
use Rattle.sheet.specs.PathRules.{path_rules}

-- 13: offset k is where record k stands
unfoldable pub is_offset : List ℕ → ℕ → ℕ → Bool
is_offset b k p = eqb (u32_at b (head_size k)) p

-- a record at p without its offset: 15, 14, 3, 15, 1, 2
unfoldable pub body_refusal : List ℕ → ℕ → ℕ
body_refusal b p = path_rules 15 (leb (p + record_head) (length b)) (leb (record_end b p) (length b)) (record_at b p)

unfoldable pub record_refusal : List ℕ → ℕ → ℕ → ℕ
record_refusal b k p = unless (is_offset b k p) 13 (body_refusal b p)

-- n records, the first of them record k, at p; after the last 16
unfoldable pub records_refusal : List ℕ → ℕ → ℕ → ℕ → ℕ
records_refusal b zero k p = unless (eqb p (length b)) 16 0
records_refusal b (suc n) k p = first_of (record_refusal b k p) (records_refusal b n (k + 1) (record_end b p))

-- all but 9: 11, 12, 4, then the records
unfoldable pub sheet_refusal : List ℕ → ℕ
sheet_refusal b =
    let N = u32_at b 0 in
    unless (leb least_bytes (length b)) 11
    (unless (leb (length b) most_bytes) 11
    (unless (leb N most_paths) 12
    (unless (leb (head_size N) (length b)) 12
    (unless (are_limits (u32_at b 4) (u32_at b 8)) 4 (records_refusal b N 0 (head_size N))))))

-- into a list of `room` numbers
unfoldable pub read_refusal : List ℕ → ℕ → ℕ
read_refusal b room = first_of (sheet_refusal b) (unless (leb (length (sheet_numbers (sheet_at b))) room) 9 0)
