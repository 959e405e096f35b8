-- Reading accepts nothing but the bytes of right sheets: the sheet that was read without a refusal is right, and its bytes are those read.
use mathlib.Core.Path.{◌≡◌, sym, ap, ◌∙◌}
use mathlib.Core.List.{List, ◌++◌}
use Prim.Native.Nat.{ℕ, zero, suc, ◌+◌, ◌≤◌}
use native.Mathlib.Nat.{zero-add, add-zero}
use native.Mathlib.Omega.{arith}
use lib.ListN.{length, drop, drop_of_length-le}
use Rattle.numbers.specs.Tables.{All}
use Rattle.rules.proofs.Refusals.{first_kept}
use Rattle.rules.proofs.Marks.{marked_back}
use Rattle.sheet.specs.Bytes.{Bytes, le16, le32, u16_at, u32_at}
use Rattle.sheet.specs.Sheet.{head_size, record_bytes, records, offsets, sheet_bytes, RightPath, Right}
use Rattle.sheet.specs.Records.{record_point_numbers, record_at, record_end, records_at, sheet_at}
use Rattle.sheet.specs.Reading.{record_refusal, records_refusal, sheet_refusal}
use Rattle.sheet.proofs.Bytes.{values_length, u16_only, u32_only, values_only}
use Rattle.sheet.proofs.Sheets.{length_record}
use Rattle.sheet.proofs.PathRules.{kept_right}
use Rattle.sheet.proofs.Reading.{records_done, record_held, record_fits, Headed, headed, records_count}

-- ---- what was read is right

records_right : (b : List ℕ) (n k p : ℕ) → records_refusal b n k p ≡ 0 → All RightPath (records_at b n p)
unfolding records_refusal records_at record_at
records_right b zero k p e = tt
records_right b (suc n) k p e =
    let t = first_kept (record_refusal b k p) _ e in (
      kept_right (values_length b (p + 4) (record_point_numbers b p)) (record_held b k p t.0).kept,
      records_right b n (k + 1) (record_end b p) t.1,
    )

-- ---- its bytes are those read

-- a record ends where the bytes of its path do
end_only : (b : List ℕ) (p : ℕ) → p + length (record_bytes (record_at b p)) ≡ record_end b p
unfolding record_at
end_only b p = omega (arith, length_record (record_at b p), values_length b (p + 4) (record_point_numbers b p))

module _ (b : List ℕ) (bs : Bytes b) where
  record_only : (p : ℕ) → record_end b p ≤ length b → drop p b ≡ record_bytes (record_at b p) ++ drop (record_end b p) b
  unfolding record_bytes record_at
  record_only p h =
      let e : p + 2 + 2 ≡ p + 4 = omega arith in
      u16_only b bs p (omega arith)
      ∙ ap (λ (y : List ℕ). le16 (u16_at b p) ++ y)
      (u16_only b bs (p + 2) (omega arith) ∙ rw (e, marked_back, values_only b bs (p + 4) (record_point_numbers b p) h))

  records_only : (n k p : ℕ) → records_refusal b n k p ≡ 0 → drop p b ≡ records (records_at b n p)
  unfolding records_refusal records_at records
  records_only zero k p e = drop_of_length-le b {i = p} (omega (arith, records_done b k p e))
  records_only (suc n) k p e =
      let t = first_kept (record_refusal b k p) _ e in
      record_only p (record_fits b k p t.0)
      ∙ ap (λ (y : List ℕ). record_bytes (record_at b p) ++ y) (records_only n (k + 1) (record_end b p) t.1)

  offsets_only : (n k p : ℕ) → head_size (k + n) ≤ length b → records_refusal b n k p ≡ 0
      → drop (head_size k) b ≡ offsets p (records_at b n p) ++ drop (head_size (k + n)) b
  unfolding records_refusal records_at offsets
  offsets_only zero k p h e = rw (add-zero k)
  offsets_only (suc n) k p h e =
      let t = first_kept (record_refusal b k p) _ e in
      let next : head_size k + 4 ≡ head_size (k + 1) = omega arith in
      let last : k + suc n ≡ k + 1 + n = omega arith in
      u32_only b bs (head_size k) (omega arith)
      ∙ rw ((record_held b k p t.0).offset, next, end_only b p, last)
      (ap (λ (y : List ℕ). le32 p ++ y) (offsets_only n (k + 1) (record_end b p) (rw last at h) t.1))

  header_only : 12 ≤ length b → b ≡ le32 (u32_at b 0) ++ (le32 (u32_at b 4) ++ (le32 (u32_at b 8) ++ drop 12 b))
  header_only h = u32_only b bs 0 (omega arith) ∙ rw (u32_only b bs 4 (omega arith), u32_only b bs 8 (omega arith))

  sheet_only : Headed b → sheet_bytes (sheet_at b) ≡ b
  unfolding sheet_at sheet_bytes
  sheet_only h =
      let N = u32_at b 0 in
      let table = offsets_only N 0 (head_size N) (omega (arith, h.table)) h.records in
      rw (records_count b N (head_size N), ← (records_only N 0 (head_size N) h.records))
      (sym (header_only h.least ∙ rw (table, zero-add N)))

pub reads_only : (b : List ℕ) → Bytes b → sheet_refusal b ≡ 0 → Right (sheet_at b) × (sheet_bytes (sheet_at b) ≡ b)
unfolding sheet_at
reads_only b bs e =
    let h = headed b e in
    let N = u32_at b 0 in
    let bytes = sheet_only b bs h in (
      record {
        few = rw (records_count b N (head_size N)) h.few;
        limits = h.limits;
        paths = records_right b N 0 (head_size N) h.records;
        fits = rw bytes h.most;
      },
      bytes,
    )
