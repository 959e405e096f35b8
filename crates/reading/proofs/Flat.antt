-- The number list of an accepted sheet: after the header its bytes are all numbers of sixteen bits, and the list has them in the same order.
use mathlib.Core.Path.{◌≡◌, ap, ap₂, ◌∙◌}
use mathlib.Core.List.{List, ◌∷◌, ◌++◌}
use Prim.Native.Nat.{ℕ, zero, suc, ◌+◌, ◌-◌, ◌*◌, ◌/◌}
use native.Mathlib.Nat.{zero-add, add-zero}
use native.Mathlib.Numerals.{add-one}
use native.Mathlib.Omega.{arith}
use lib.IntN.{ℤ, pos}
use lib.ListN.{length, set}
use Rattle.numbers.proofs.Buffers.{Ahead}
use Rattle.rules.proofs.Marks.{marked_back}
use Rattle.rules.proofs.Refusals.{first_kept}
use Rattle.sheet.specs.Bytes.{value_size, u16_at, u32_at, i16_at, values_at}
use Rattle.sheet.specs.Sheet.{Target, list_head, path_head, head_size, path_numbers, sheet_numbers}
use Rattle.sheet.specs.Records.{record_mark, record_point_numbers, record_at, record_end, records_at, sheet_at}
use Rattle.sheet.specs.Reading.{record_refusal, records_refusal, sheet_refusal}
use Rattle.sheet.proofs.Bytes.{signed_back, values_length}
use Rattle.sheet.proofs.Sheets.{segments_short, mark_short}
use Rattle.sheet.proofs.Reading.{records_done, record_held, record_fits, headed, records_count}

-- m numbers and then n
pub values_add : (b : List ℕ) (p m n : ℕ) → values_at b p (m + n) ≡ values_at b p m ++ values_at b (p + value_size * m) n
unfolding values_at
values_add b p zero n = rw (zero-add n, add-zero p)
values_add b p (suc m) n =
    let e : suc m + n ≡ suc (m + n) = omega arith in
    let f : p + 2 * suc m ≡ p + 2 + 2 * m = omega arith in
    rw (e, f, values_add b (p + 2) m n)

-- segments and mark are small, so sixteen bits read as a signed number are the same number
record_numbers : (b : List ℕ) (k p n : ℕ) (ps : List Target) → record_refusal b k p ≡ 0 → path_numbers ps ≡ values_at b (record_end b p) n
    → path_numbers (record_at b p ∷ ps) ≡ values_at b p (path_head + record_point_numbers b p + n)
unfolding path_numbers record_at values_at
record_numbers b k p n ps e h =
    let kept = (record_held b k p e).kept in
    let segments : i16_at b p ≡ pos (u16_at b p) = signed_back (segments_short (u16_at b p) kept.segments) in
    let short = rw marked_back at (mark_short (record_mark b p).degree _ kept.level) in
    let mark : i16_at b (p + 2) ≡ pos (u16_at b (p + 2)) = signed_back short in
    let points = values_add b (p + 4) (record_point_numbers b p) n in
    let c : 2 + record_point_numbers b p + n ≡ suc (suc (record_point_numbers b p + n)) = omega arith in
    let f : p + 2 + 2 ≡ p + 4 = omega arith in
    rw (marked_back, c, segments, mark, f, points, h)

records_numbers : (b : List ℕ) (n k p : ℕ) → records_refusal b n k p ≡ 0 → path_numbers (records_at b n p) ≡ values_at b p ((length b - p) / value_size)
unfolding records_refusal records_at path_numbers values_at
records_numbers b zero k p e = let z : (length b - p) / 2 ≡ 0 = omega (arith, records_done b k p e) in rw z
records_numbers b (suc n) k p e =
    let t = first_kept (record_refusal b k p) _ e in
    let c : (length b - p) / 2 ≡ 2 + record_point_numbers b p + (length b - record_end b p) / 2 = omega (arith, record_fits b k p t.0) in
    rw c (record_numbers b k p _ (records_at b n (record_end b p)) t.0 (records_numbers b n (k + 1) (record_end b p) t.1))

pub numbers_flat : (b : List ℕ) → sheet_refusal b ≡ 0
    → sheet_numbers (sheet_at b)
    ≡ pos (u32_at b 0) ∷ pos (u32_at b 4) ∷ pos (u32_at b 8) ∷ values_at b (head_size (u32_at b 0)) ((length b - head_size (u32_at b 0)) / value_size)
unfolding sheet_numbers sheet_at
numbers_flat b e =
    ap₂ (λ (n : ℕ) (zs : List ℤ). pos n ∷ pos (u32_at b 4) ∷ pos (u32_at b 8) ∷ zs)
    (records_count b (u32_at b 0) (head_size (u32_at b 0)))
    (records_numbers b (u32_at b 0) 0 (head_size (u32_at b 0)) (headed b e).records)

pub numbers_count : (b : List ℕ) → sheet_refusal b ≡ 0 → length (sheet_numbers (sheet_at b)) ≡ list_head + (length b - head_size (u32_at b 0)) / value_size
numbers_count b e = ap length (numbers_flat b e) ∙ omega (arith, values_length b (head_size (u32_at b 0)) ((length b - head_size (u32_at b 0)) / value_size))

-- ---- a list that a loop fills, one value at a turn: what is to come stays what was to come

pub stored_one : {A : Type 0} {l k : List A} {n m : ℕ} {x : A} {rest all : List A} → Ahead l n (x ∷ rest) k m all → Ahead (set l n x) (n + 1) rest k m all
stored_one {n = n} a = record { count = omega (arith, a.count); list = rw (add-one n) a.list }
