-- A sheet of the old form with any path in it is refused. Its header and its first record's place and segments read the same in both forms, but
-- with a width for each point the record ends further on, whichever degree its mark says: not where the next offset says, and after a single path
-- not where the sheet ends.
use mathlib.Core.Path.{◌≡◌, refl, sym, ap, ap₂, ◌∙◌}
use mathlib.Core.Bool.{Bool, true, ◌&&◌}
use mathlib.Core.List.{List, [], ◌∷◌, map}
use Prim.Native.Nat.{ℕ, ◌+◌, ◌*◌, ◌≤◌, ◌<◌}
use native.Mathlib.Omega.{arith}
use lib.IntN.{pos}
use lib.ListN.{length, drop}
use borrow.Author.Tests.{eqb-true, eq-eqb}
use Rattle.numbers.specs.Tables.{All}
use Rattle.numbers.proofs.Tables.{all_weaker}
use Rattle.numbers.proofs.Tests.{and_true}
use Rattle.rules.specs.declared.Degree.{Degree}
use Rattle.rules.specs.declared.Degree.TheVariants.{Quadratic, Cubic}
use Rattle.rules.specs.Rules.{
  sheet_finest,
  reach,
  is_coordinate,
  are_neighbours,
  is_level,
  are_limits,
  is_segments,
  is_size,
  point_numbers,
  head_refusal,
  are_points,
  are_beside,
  are_chained,
  points_refusal,
  mark,
  marked,
}
use Rattle.rules.proofs.Laws.{level_holds}
use Rattle.rules.proofs.Refusals.{first_kept}
use Rattle.sheet.specs.Bytes.{value_bytes, values_at}
use Rattle.sheet.specs.Sheet.{Target, Sheet, most_bytes, record_bytes, records, offsets, sheet_bytes, sheet_reach, RightPath, Right}
use Rattle.sheet.specs.Records.{record_mark, record_at, record_end}
use Rattle.sheet.specs.PathRules.{path_rules}
use Rattle.sheet.specs.Reading.{is_offset, body_refusal, record_refusal, records_refusal, sheet_refusal, read_refusal}
use Rattle.sheet.specs.Answer.{read_answer}
use Rattle.sheet.specs.OldForm.{Place, OldPath, OldSheet, place_numbers, old_target, old_parts, old_bytes, with_widths, new_target, OldSize, OldRightPath, OldRight}
use Rattle.sheet.proofs.InNumbers.{points_in_numbers}
use Rattle.sheet.proofs.Sheets.{length_record, length_bytes}
use Rattle.sheet.proofs.Room.{room_accepted}
use Rattle.sheet.proofs.Reading.{records_stop, records_done, record_held, headed}
use Rattle.sheet.proofs.ReadsBack.{Stands, stands_end, next_stands, offset_back, segments_back, mark_back, sheet_stands, count_back, limits_back, reads_back}
use Rattle.sheet.proofs.Refusals.{sheet_refuses_by_records, record_refuses_by_body, record_order}

-- x and y of 3S + 1 points are too few for either degree
old_size_short : (D : Degree) (S : ℕ) → 2 * (3 * S + 1) < point_numbers D S
old_size_short Quadratic S = omega arith
old_size_short Cubic S = omega arith

-- records that are read without a refusal from a place on stand there: the next offset says so, or the sheet's end
place_found : (b : List ℕ) (ps : List Target) (k p place : ℕ) → length b ≤ most_bytes → Stands b ps k p → records_refusal b (length ps) k place ≡ 0
    → place ≡ p
unfolding records_refusal
place_found b [] k p place h s e = records_done b k place e ∙ sym (stands_end b k p s)
place_found b (q ∷ ps) k p place h s e =
    sym (record_held b k place (first_kept (record_refusal b k place) _ e).0).offset ∙ offset_back b q ps k p s h

-- so the first of them has as many numbers as its segments and its mark say
size_found : (b : List ℕ) (q : Target) (ps : List Target) (k p : ℕ) → length b ≤ most_bytes → Stands b (q ∷ ps) k p → is_segments q.segments ≡ true
    → records_refusal b (length (q ∷ ps)) k p ≡ 0 → length q.points ≡ point_numbers (record_mark b p).degree q.segments
unfolding records_refusal
size_found b q ps k p h s segments e =
    let next = next_stands b q ps k p s in
    let end = place_found b ps (k + 1) (p + length (record_bytes q)) (record_end b p) h next (first_kept (record_refusal b k p) _ e).1 in
    let same = rw (segments_back b q ps k p s segments) at end in
    omega (arith, same, length_record q)

-- which in the old form it has not, whatever its mark is
records_refused : (b : List ℕ) (ps : List OldPath) (k p : ℕ) → length b ≤ most_bytes → Stands b (map old_target ps) k p → All OldSize ps
    → 0 < length ps → records_refusal b (length (map old_target ps)) k p ≡ 0 → ⊥
unfolding old_target
records_refused b [] k p h s r some e = omega arith
records_refused b (q ∷ ps) k p h s r some e =
    let size = size_found b (old_target q) (map old_target ps) k p h s r.0.segments e in
    omega (arith, size, r.0.numbers, old_size_short (record_mark b p).degree q.segments)

-- whatever its limits, its levels and its points are
pub old_size_refused : (s : OldSheet) → All OldSize s.paths → 0 < length s.paths → sheet_refusal (old_bytes s) ≡ 0 → ⊥
unfolding old_parts
old_size_refused s r some e =
    let h = headed (old_bytes s) e in
    let count = count_back (old_parts s) (omega (arith, length_bytes (old_parts s), h.most)) in
    records_refused (old_bytes s) s.paths 0 _ h.most (sheet_stands (old_parts s)) r some (rw count at h.records)

pub old_form_refused : (s : OldSheet) → OldRight s → 0 < length s.paths → sheet_refusal (old_bytes s) ≡ 0 → ⊥
old_form_refused s r = old_size_refused s (all_weaker (λ p r. r.size) s.paths r.paths)

-- into a list of any room
pub old_form_not_read : (s : OldSheet) (room : ℕ) → OldRight s → 0 < length s.paths → (read_answer (old_bytes s) room).refusal ≡ 0 → ⊥
unfolding read_answer read_refusal
old_form_not_read s room r some e = old_form_refused s r some (room_accepted (sheet_refusal (old_bytes s)) _ room e).0

-- ---- one path: 15

-- the last record, where it has fewer numbers than its segments and its mark say
record_cut : (b : List ℕ) (q : Target) (k p : ℕ) → length b ≤ most_bytes → Stands b (q ∷ []) k p → is_segments q.segments ≡ true
    → is_level sheet_finest q.level ≡ true → length q.points < point_numbers q.degree q.segments → record_refusal b k p ≡ 15
unfolding record_at
record_cut b q k p h s segments level short =
    let S = segments_back b q [] k p s segments in
    let m = mark_back b q [] k p s level in
    let end = stands_end b (k + 1) (p + length (record_bytes q)) (next_stands b q [] k p s) in
    let more = rw points_in_numbers at short in
    let cut = rw (S, m) at (record_order b p).cut in
    record_refuses_by_body b k p (offset_back b q [] k p s h)
    ∙ cut (omega (arith, end, length_record q)) segments (level_holds _ q.level level) (omega (arith, end, length_record q, more))

pub one_path_refused_15 : (upper lower : ℕ) (p : OldPath) → let s : OldSheet = record { upper = upper; lower = lower; paths = p ∷ [] } in
    OldRight s → sheet_refusal (old_bytes s) ≡ 15
unfolding old_parts old_target
one_path_refused_15 upper lower p r =
    let s = old_parts (record { upper = upper; lower = lower; paths = p ∷ [] }) in
    let b = sheet_bytes s in
    let count = count_back s (omega arith) in
    let limits = limits_back s r.limits in
    let q = r.paths.0 in
    let cut = record_cut b (old_target p) 0 16 (omega (arith, r.fits)) (sheet_stands s) q.size.segments q.level (omega (arith, q.size.numbers)) in
    let size : 16 ≤ length b = omega (arith, length_bytes s) in
    sheet_refuses_by_records b (omega arith) r.fits (rw count r.few) (rw count size) (rw (limits.0, limits.1) r.limits)
    ∙ rw count (records_stop b 1 0 16 (omega arith) (λ e. omega (arith, cut, e)) ∙ cut)

-- ---- the rules of the old form are the new form's: a path is right exactly where it is right with widths 0

places_length : (ps : List Place) → length (place_numbers ps) ≡ 2 * length ps
unfolding place_numbers
places_length [] = refl
places_length (p ∷ ps) = omega (arith, places_length ps)

widths_length : (ps : List Place) → length (with_widths ps) ≡ 3 * length ps
unfolding with_widths
widths_length [] = refl
widths_length (p ∷ ps) = omega (arith, widths_length ps)

sizes_agree : (S : ℕ) (ps : List Place)
    → (length (place_numbers ps) ≡ 2 * (3 * S + 1) → length (with_widths ps) ≡ point_numbers Cubic S)
    × (length (with_widths ps) ≡ point_numbers Cubic S → length (place_numbers ps) ≡ 2 * (3 * S + 1))
sizes_agree S ps =
    let old = places_length ps in
    let new = widths_length ps in
    (λ e. omega (arith, old, new, e), λ e. omega (arith, old, new, e))

same_points : (ps : List Place) → are_points (with_widths ps) ≡ are_points (place_numbers ps)
unfolding with_widths place_numbers are_points is_coordinate
same_points [] = refl
same_points (p ∷ ps) = ap (λ (b : Bool). is_coordinate p.x && (is_coordinate p.y && b)) (same_points ps)

same_chained : (ps : List Place)
    → are_chained (sheet_reach Cubic) (with_widths ps) ≡ are_beside (sheet_reach Cubic) (place_numbers ps) (drop 2 (place_numbers ps))
unfolding with_widths place_numbers reach are_chained are_beside are_neighbours
same_chained [] = refl
same_chained (p ∷ []) = refl
same_chained (p ∷ q ∷ ps) =
    let W = sheet_reach Cubic in
    ap (λ (b : Bool). are_neighbours W p.x q.x && (are_neighbours W p.y q.y && b)) (same_chained (q ∷ ps))

pub old_right_with_widths : (p : OldPath) → (OldRightPath p → RightPath (new_target p)) × (RightPath (new_target p) → OldRightPath p)
unfolding new_target is_size
old_right_with_widths p = (
  λ r. record {
    size = ap₂ ◌&&◌ r.size.segments (eq-eqb _ _ ((sizes_agree p.segments p.points).0 r.size.numbers));
    level = r.level;
    points = same_points p.points ∙ r.points;
    chained = same_chained p.points ∙ r.chained;
  },
  λ r.
      let t = and_true (is_segments p.segments) _ r.size in
      record {
        size = record { segments = t.0; numbers = (sizes_agree p.segments p.points).1 (eqb-true _ _ t.1) };
        level = r.level;
        points = sym (same_points p.points) ∙ r.points;
        chained = sym (same_chained p.points) ∙ r.chained;
      },
)

-- ---- no path: both forms are the same 12 bytes, and accepted

pub no_path_accepted : (upper lower : ℕ) → are_limits upper lower ≡ true
    → let old : OldSheet = record { upper = upper; lower = lower; paths = [] } in
    let new : Sheet = record { upper = upper; lower = lower; paths = [] } in
    OldRight old × Right new × (old_bytes old ≡ sheet_bytes new) × (length (sheet_bytes new) ≡ 12) × (sheet_refusal (sheet_bytes new) ≡ 0)
unfolding old_parts sheet_bytes offsets records
no_path_accepted upper lower limits =
    let new : Sheet = record { upper = upper; lower = lower; paths = [] } in
    let right : Right new = record { few = omega arith; limits = limits; paths = tt; fits = omega arith } in
    let old : OldRight (record { upper = upper; lower = lower; paths = [] }) =
    record { few = omega arith; limits = limits; paths = tt; fits = omega arith } in
    (old, right, refl, refl, (reads_back new right).1)

-- ---- document 01's own sheet, path A in 36 bytes

-- In hex: 01000000 00000100 00800000 10000000 01000000 00000000 01000000 02000000 03000000.
abbrev pub old_document_bytes : List ℕ
old_document_bytes =
    1 ∷ 0 ∷ 0 ∷ 0 ∷ 0 ∷ 0 ∷ 1 ∷ 0 ∷ 0 ∷ 128 ∷ 0 ∷ 0
    ∷ 16 ∷ 0 ∷ 0 ∷ 0
    ∷ 1 ∷ 0 ∷ 0 ∷ 0
    ∷ 0 ∷ 0 ∷ 0 ∷ 0 ∷ 1 ∷ 0 ∷ 0 ∷ 0 ∷ 2 ∷ 0 ∷ 0 ∷ 0 ∷ 3 ∷ 0 ∷ 0 ∷ 0
    ∷ []

-- one path of one segment from level 0, under the limits 65,536 and 32,768; x 0, 1, 2, 3 and y 0 throughout
abbrev path_a : OldPath
path_a =
    let at : ℕ → Place = λ x. record { x = pos x; y = pos 0 } in
    record { segments = 1; level = 0; points = at 0 ∷ at 1 ∷ at 2 ∷ at 3 ∷ [] }

abbrev pub old_path_a : OldSheet
old_path_a = record { upper = 65536; lower = 32768; paths = path_a ∷ [] }

pub old_document_sheet : OldRight old_path_a × (old_bytes old_path_a ≡ old_document_bytes) × (sheet_refusal old_document_bytes ≡ 15)
unfolding old_parts old_target place_numbers sheet_bytes offsets records record_bytes value_bytes sheet_refusal records_refusal record_refusal body_refusal
    is_offset path_rules head_refusal points_refusal are_limits is_segments is_level reach are_points is_coordinate are_chained are_beside are_neighbours
    record_at values_at mark marked
old_document_sheet =
    let size : OldSize path_a = record { segments = refl; numbers = refl } in
    let path : OldRightPath path_a = record { size = size; level = refl; points = refl; chained = refl } in
    (record { few = omega arith; limits = refl; paths = (path, tt); fits = omega arith }, refl, refl)
