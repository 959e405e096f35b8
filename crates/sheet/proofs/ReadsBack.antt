-- Reading the bytes of a right sheet gives the sheet back, without a refusal.
use mathlib.Core.Path.{◌≡◌, refl, sym, ap, ap₂, ◌∙◌}
use mathlib.Core.Bool.{true}
use mathlib.Core.List.{List, [], ◌∷◌, ◌++◌, append_assoc}
use Prim.Native.Nat.{ℕ, ◌+◌, ◌≤◌, ◌<◌}
use native.Mathlib.Omega.{arith}
use borrow.Author.Tests.{le-leb, eq-eqb}
use lib.ListN.{length, length-append}
use Rattle.numbers.specs.Tables.{All}
use Rattle.rules.specs.Rules.{sheet_finest, is_level, are_limits, is_segments, mark, marked}
use Rattle.rules.proofs.Refusals.{first_on}
use Rattle.rules.proofs.Laws.{limits_hold, Sized, size_holds}
use Rattle.sheet.specs.Bytes.{le16, le32, value_bytes, u16_at, u32_at, values_at}
use Rattle.sheet.specs.Sheet.{Target, Sheet, head_size, record_bytes, records, offsets, sheet_bytes, most_bytes, RightPath, Right}
use Rattle.sheet.specs.Records.{record_mark, record_at, record_end, records_at, sheet_at}
use Rattle.sheet.specs.Reading.{is_offset, body_refusal, record_refusal, records_refusal, sheet_refusal}
use Rattle.sheet.proofs.Bytes.{u16-at, u32-at, u16_back, u32_back, bits_small, values_back}
use Rattle.sheet.proofs.Sheets.{length_record, length_offsets, length_bytes, segments_short, mark_short, mark_says, points_short}
use Rattle.sheet.proofs.PathRules.{kept_rules, right_kept}
use Rattle.sheet.proofs.Reading.{records_end, Headed, headed_accepted}

-- in b stand the offsets of the paths ps, from offset k on, and their records, from p on to the end
pub record Stands (b : List ℕ) (ps : List Target) (k p : ℕ) : Type 0 where
  pub before : List ℕ
  pub after : List ℕ
  pub table : b ≡ before ++ (offsets p ps ++ after)
  pub place : head_size k ≡ length before
  pub front : List ℕ
  pub body : b ≡ front ++ records ps
  pub start : p ≡ length front

pub stands_end : (b : List ℕ) (k p : ℕ) → Stands b [] k p → p ≡ length b
unfolding records
stands_end b k p s = omega (arith, ap length s.body, length-append s.front [])

-- ---- one path

module _ (b : List ℕ) (q : Target) (ps : List Target) (k p : ℕ) (s : Stands b (q ∷ ps) k p) where
  pub next_stands : Stands b ps (k + 1) (p + length (record_bytes q))
  unfolding offsets records
  next_stands =
      record {
        before = s.before ++ le32 p;
        after = s.after;
        table = s.table ∙ sym (append_assoc s.before (le32 p) (offsets (p + length (record_bytes q)) ps ++ s.after));
        place = omega (arith, s.place, length-append s.before (le32 p));
        front = s.front ++ record_bytes q;
        body = s.body ∙ sym (append_assoc s.front (record_bytes q) (records ps));
        start = omega (arith, s.start, length-append s.front (record_bytes q));
      }

  stands_fits : p + length (record_bytes q) ≤ length b
  stands_fits = omega (arith, next_stands.start, ap length next_stands.body, length-append next_stands.front (records ps))

  pub offset_back : length b ≤ most_bytes → u32_at b (head_size k) ≡ p
  unfolding offsets
  offset_back h =
      u32-at b s.before (offsets p (q ∷ ps) ++ s.after) _ s.table s.place
      ∙ u32_back p (offsets (p + length (record_bytes q)) ps ++ s.after) (omega (arith, stands_fits))

  pub segments_back : is_segments q.segments ≡ true → u16_at b p ≡ q.segments
  unfolding records record_bytes
  segments_back h =
      let rest = le16 (mark q.degree q.level) ++ (value_bytes q.points ++ records ps) in
      u16-at b s.front (le16 q.segments ++ rest) p s.body s.start
      ∙ u16_back q.segments rest (bits_small (segments_short q.segments h))

  pub mark_back : is_level sheet_finest q.level ≡ true → record_mark b p ≡ record { degree = q.degree; level = q.level }
  unfolding records record_bytes
  mark_back h =
      let m = mark q.degree q.level in
      let front = le16 q.segments in
      let rest = value_bytes q.points ++ records ps in
      let body = s.body ∙ sym (append_assoc s.front front (le16 m ++ rest)) in
      let found = u16-at b (s.front ++ front) (le16 m ++ rest) (p + 2) body (omega (arith, s.start, length-append s.front front)) in
      ap marked (found ∙ u16_back m rest (bits_small (mark_short q.degree q.level h))) ∙ mark_says q.degree q.level h

  module _ (r : RightPath q) where
    sized : Sized q.degree q.segments (length q.points)
    sized = size_holds q.degree q.segments (length q.points) r.size

    segments : is_segments q.segments ≡ true
    segments = (right_kept refl refl r).segments

    points_back : values_at b (p + 4) (length q.points) ≡ q.points
    unfolding records record_bytes
    points_back =
        let front = le16 q.segments ++ le16 (mark q.degree q.level) in
        let body = s.body ∙ sym (append_assoc s.front front (value_bytes q.points ++ records ps)) in
        let start : p + 4 ≡ length (s.front ++ front) = omega (arith, s.start, length-append s.front front) in
        values_back b (s.front ++ front) q.points (records ps) (p + 4) body start (points_short q.points r.points)

    record_back : record_at b p ≡ q
    unfolding record_at
    record_back = rw (segments_back segments, mark_back r.level, ← sized.size, points_back)

    end_back : record_end b p ≡ p + length (record_bytes q)
    end_back = rw (segments_back segments, mark_back r.level, ← sized.size) (omega (arith, length_record q))

    record_accepted : length b ≤ most_bytes → record_refusal b k p ≡ 0
    unfolding record_refusal body_refusal is_offset
    record_accepted h =
        let begins : p + 4 ≤ length b = omega (arith, stands_fits, length_record q) in
        let ends : record_end b p ≤ length b = omega (arith, stands_fits, end_back) in
        rw (eq-eqb _ _ (offset_back h), record_back) (kept_rules 14 (right_kept (le-leb _ _ begins) (le-leb _ _ ends) r))

-- ---- all of them

records_back : (b : List ℕ) (ps : List Target) (k p : ℕ) → length b ≤ most_bytes → Stands b ps k p → All RightPath ps
    → (records_at b (length ps) p ≡ ps) × (records_refusal b (length ps) k p ≡ 0)
unfolding records_at records_refusal
records_back b [] k p h s r = (refl, records_end b 0 k p refl (stands_end b k p s))
records_back b (q ∷ ps) k p h s r =
    let end = end_back b q ps k p s r.0 in
    let rest = records_back b ps (k + 1) (p + length (record_bytes q)) h (next_stands b q ps k p s) r.1 in (
      ap₂ ◌∷◌ (record_back b q ps k p s r.0) (rw end rest.0),
      first_on _ _ (record_accepted b q ps k p s r.0 h) ∙ rw end rest.1,
    )

-- ---- the whole sheet

pub sheet_stands : (s : Sheet) → Stands (sheet_bytes s) s.paths 0 (head_size (length s.paths))
unfolding sheet_bytes
sheet_stands s =
    let N = length s.paths in
    record {
      before = le32 N ++ (le32 s.upper ++ le32 s.lower);
      after = records s.paths;
      table = refl;
      place = refl;
      front = le32 N ++ (le32 s.upper ++ (le32 s.lower ++ offsets (head_size N) s.paths));
      body = refl;
      start = omega (arith, length_offsets (head_size N) s.paths);
    }

pub count_back : (s : Sheet) → length s.paths < 4294967296 → u32_at (sheet_bytes s) 0 ≡ length s.paths
unfolding sheet_bytes
count_back s h =
    let N = length s.paths in
    u32_back N (le32 s.upper ++ (le32 s.lower ++ (offsets (head_size N) s.paths ++ records s.paths))) h

pub limits_back : (s : Sheet) → are_limits s.upper s.lower ≡ true → (u32_at (sheet_bytes s) 4 ≡ s.upper) × (u32_at (sheet_bytes s) 8 ≡ s.lower)
unfolding sheet_bytes
limits_back s h =
    let N = length s.paths in
    let rest = offsets (head_size N) s.paths ++ records s.paths in
    let lower = le32 s.lower ++ rest in
    let limits = limits_hold s.upper s.lower h in (
      u32-at _ (le32 N) (le32 s.upper ++ lower) 4 refl refl ∙ u32_back s.upper lower (omega arith),
      u32-at _ (le32 N ++ le32 s.upper) lower 8 refl refl ∙ u32_back s.lower rest (omega arith),
    )

pub reads_back : (s : Sheet) → Right s → (sheet_at (sheet_bytes s) ≡ s) × (sheet_refusal (sheet_bytes s) ≡ 0)
unfolding sheet_at
reads_back s r =
    let count = count_back s (omega (arith, r.few)) in
    let limits = limits_back s r.limits in
    let records = records_back (sheet_bytes s) s.paths 0 (head_size (length s.paths)) r.fits (sheet_stands s) r.paths in
    let accepted : Headed (sheet_bytes s) =
    record {
      least = omega (arith, length_bytes s);
      most = r.fits;
      few = rw count r.few;
      table = rw count (omega (arith, length_bytes s));
      limits = rw (limits.0, limits.1) r.limits;
      records = rw count records.1;
    } in
    (rw (count, limits.0, limits.1, records.0), headed_accepted (sheet_bytes s) accepted)
