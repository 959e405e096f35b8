-- A sheet's bytes and numbers: how long they are, and that the records are the paths' numbers in sixteen bits each.
use mathlib.Core.Path.{◌≡◌, refl, sym, ap, ◌∙◌}
use mathlib.Core.Bool.{true}
use mathlib.Core.List.{List, [], ◌∷◌, ◌++◌}
use Prim.Native.Nat.{ℕ, ◌+◌, ◌*◌, ◌≤◌}
use native.Mathlib.Omega.{arith}
use borrow.Author.Tests.{leb-true}
use lib.Dec.{leb}
use lib.IntN.{ℤ, pos, negsuc}
use lib.ListN.{length, length-append}
use Rattle.numbers.proofs.Tests.{and_true}
use Rattle.numbers.specs.Tables.{All}
use Rattle.numbers.proofs.Tables.{all_append}
use Rattle.rules.specs.declared.Degree.{Degree}
use Rattle.rules.specs.declared.Degree.TheVariants.{Quadratic, Cubic}
use Rattle.rules.specs.Rules.{sheet_finest, is_coordinate, is_level, are_points, most_segments, is_segments, mark, marked}
use Rattle.rules.proofs.Laws.{coordinate_size, level_holds, size_holds}
use Rattle.rules.proofs.Marks.{mark_back}
use Rattle.sheet.specs.Bytes.{Short, up, down, le16, bits16, value_bytes}
use Rattle.sheet.specs.Sheet.{Target, Sheet, head_size, record_bytes, records, offsets, sheet_bytes, path_numbers, sheet_numbers, RightPath, Right}
use Rattle.sheet.proofs.Bytes.{length_values}

-- ---- the records

pub values_append : (xs ys : List ℤ) → value_bytes (xs ++ ys) ≡ value_bytes xs ++ value_bytes ys
unfolding value_bytes
values_append [] ys = refl
values_append (x ∷ xs) ys = ap (λ (b : List ℕ). le16 (bits16 x) ++ b) (values_append xs ys)

pub records_flat : (ps : List Target) → records ps ≡ value_bytes (path_numbers ps)
unfolding records record_bytes path_numbers value_bytes
records_flat [] = refl
records_flat (p ∷ ps) =
    ap (λ (b : List ℕ). le16 p.segments ++ (le16 (mark p.degree p.level) ++ b))
    (ap (λ (b : List ℕ). value_bytes p.points ++ b) (records_flat ps) ∙ sym (values_append p.points (path_numbers ps)))

-- ---- lengths

pub length_record : (p : Target) → length (record_bytes p) ≡ 4 + 2 * length p.points
unfolding record_bytes
length_record p = omega (arith, length_values p.points)

pub length_offsets : (place : ℕ) (ps : List Target) → length (offsets place ps) ≡ 4 * length ps
unfolding offsets
length_offsets place [] = refl
length_offsets place (p ∷ ps) = omega (arith, length_offsets (place + length (record_bytes p)) ps)

pub length_records : (ps : List Target) → length (records ps) ≡ 2 * length (path_numbers ps)
length_records ps = ap length (records_flat ps) ∙ length_values (path_numbers ps)

-- each number of the paths takes two bytes
pub length_bytes : (s : Sheet) → length (sheet_bytes s) ≡ head_size (length s.paths) + 2 * length (path_numbers s.paths)
unfolding sheet_bytes
length_bytes s =
    let N = length s.paths in
    omega
    (arith, length-append (offsets (head_size N) s.paths) (records s.paths), length_offsets (head_size N) s.paths, length_records s.paths)

pub length_numbers : (s : Sheet) → length (sheet_numbers s) ≡ 3 + length (path_numbers s.paths)
unfolding sheet_numbers
length_numbers s = omega arith

-- ---- every number of a right path is of sixteen bits

coordinate_short : (z : ℤ) → is_coordinate z ≡ true → Short z
coordinate_short (pos n) e = up {n = n} (omega (arith, (coordinate_size (pos n) e).le))
coordinate_short (negsuc n) e = down {n = n} (omega (arith, (coordinate_size (negsuc n) e).le))

pub points_short : (zs : List ℤ) → are_points zs ≡ true → All Short zs
unfolding are_points
points_short [] e = tt
points_short (z ∷ zs) e =
    let t = and_true (is_coordinate z) (are_points zs) e in
    (coordinate_short z t.0, points_short zs t.1)

pub segments_short : (n : ℕ) → is_segments n ≡ true → Short (pos n)
unfolding is_segments
segments_short n e = up {n = n} (omega (arith, leb-true n most_segments (and_true (leb 1 n) (leb n most_segments) e).1))

pub mark_short : (D : Degree) (n : ℕ) → is_level sheet_finest n ≡ true → Short (pos (mark D n))
unfolding mark
mark_short Quadratic n e = up {n = n + 256} (omega (arith, level_holds _ n e))
mark_short Cubic n e = up {n = n} (omega (arith, level_holds _ n e))

pub right_short : (ps : List Target) → All RightPath ps → All Short (path_numbers ps)
unfolding path_numbers
right_short [] r = tt
right_short (p ∷ ps) r =
    let size = size_holds _ p.segments _ r.0.size in
    let segments : Short (pos p.segments) = up {n = p.segments} (omega (arith, size.most)) in
    let points = all_append Short p.points (path_numbers ps) (points_short p.points r.0.points) (right_short ps r.1) in
    (segments, (mark_short p.degree p.level r.0.level, points))

-- and its mark says its degree and its level
pub mark_says : (D : Degree) (n : ℕ) → is_level sheet_finest n ≡ true → marked (mark D n) ≡ record { degree = D; level = n }
mark_says D n e = mark_back D n (omega (arith, level_holds _ n e))

-- a right sheet's number list has at most 16,381 numbers
pub largest : (s : Sheet) → Right s → length (sheet_numbers s) ≤ 16381
largest s r = omega (arith, length_numbers s, length_bytes s, r.fits)
