-- Writing gives back the sheet that a number list came from: a right sheet's list is accepted, and makes that sheet.
use mathlib.Core.Path.{◌≡◌, refl, sym, ap, ◌∙◌}
use mathlib.Core.List.{List, [], ◌∷◌, ◌++◌}
use Prim.Native.Nat.{ℕ, ◌+◌, ◌≤◌}
use native.Mathlib.Nat.{add-zero}
use native.Mathlib.Omega.{arith}
use borrow.Author.Tests.{le-leb}
use lib.IntN.{ℤ, pos}
use lib.ListN.{length, drop, length-append, length-drop}
use lib.Seq.{take-append_seam, drop-append_seam, get_or-drop, drop-drop}
use Rattle.numbers.specs.Tables.{All}
use Rattle.rules.specs.Rules.{marked}
use Rattle.rules.proofs.Refusals.{first_on}
use Rattle.rules.proofs.Laws.{size_holds}
use Rattle.sheet.specs.Sheet.{Target, Sheet, path_numbers, sheet_numbers, RightPath, Right}
use Rattle.sheet.specs.NumberList.{number_at, path_mark, path_point_numbers, path_at, path_end, paths_at, sheet_of}
use Rattle.sheet.specs.Writing.{path_refusal, paths_refusal, list_refusal}
use Rattle.sheet.proofs.Sheets.{mark_says}
use Rattle.sheet.proofs.PathRules.{kept_rules, right_kept}
use Rattle.sheet.proofs.Writing.{paths_end, listed_accepted}

-- a right path and others, whose numbers are those from i on
module _ (l : List ℤ) (i : ℕ) (p : Target) (ps : List Target) (e : drop i l ≡ path_numbers (p ∷ ps)) (r : RightPath p) where
  number_back : (k : ℕ) → number_at l (i + k) ≡ number_at (path_numbers (p ∷ ps)) k
  number_back k = rw (← get_or-drop i l k (pos 0), e)

  segments_back : number_at l i ≡ p.segments
  unfolding path_numbers
  segments_back = rw add-zero at (number_back 0)

  mark_back : path_mark l i ≡ record { degree = p.degree; level = p.level }
  unfolding path_numbers
  mark_back = ap marked (number_back 1) ∙ mark_says p.degree p.level r.level

  points_there : drop (i + 2) l ≡ p.points ++ path_numbers ps
  unfolding path_numbers
  points_there = sym (drop-drop 2 i l) ∙ rw e

  points_count : path_point_numbers l i ≡ length p.points
  points_count = rw (segments_back, mark_back) (sym (size_holds _ _ _ r.size).size)

  path_back : path_at l i ≡ p
  unfolding path_numbers path_at
  path_back = rw (points_count, segments_back, mark_back, points_there, take-append_seam)

  others_there : drop (path_end l i) l ≡ path_numbers ps
  others_there = sym (drop-drop (path_point_numbers l i) (i + 2) l) ∙ rw (points_count, points_there, drop-append_seam)

  path_inside : path_end l i ≤ length l
  unfolding path_numbers
  path_inside = omega (arith, ap length e, length-append p.points (path_numbers ps), length-drop i l, points_count)

  path_accepted : path_refusal l i ≡ 0
  unfolding path_refusal
  path_accepted = rw path_back (kept_rules 16 (right_kept (le-leb (i + 2) (length l) (omega (arith, path_inside))) (le-leb _ _ path_inside) r))

-- right paths, whose numbers are all those from i on
paths_back : (l : List ℤ) (i : ℕ) (ps : List Target) → i ≤ length l → drop i l ≡ path_numbers ps → All RightPath ps
    → (paths_at l (length ps) i ≡ ps) × (paths_refusal l (length ps) i ≡ 0)
unfolding path_numbers paths_at paths_refusal
paths_back l i [] h e r = (refl, paths_end l 0 i refl (omega (arith, ap length e, length-drop i l)))
paths_back l i (p ∷ ps) h e r =
    let first = path_back l i p ps e r.0 in
    let others = paths_back l (path_end l i) ps (path_inside l i p ps e r.0) (others_there l i p ps e r.0) r.1 in
    (rw (first, others.0), first_on _ _ (path_accepted l i p ps e r.0) ∙ others.1)

pub writes_back : (s : Sheet) → Right s → (sheet_of (sheet_numbers s) ≡ s) × (list_refusal (sheet_numbers s) ≡ 0)
unfolding sheet_of sheet_numbers
writes_back s r =
    let l = sheet_numbers s in
    let back = paths_back l 3 s.paths (omega arith) refl r.paths in
    let same : sheet_of l ≡ s = rw back.0 in
    (same, listed_accepted l (record { parted = (omega arith, r.few, back.1); limits = r.limits; fits = rw same r.fits }))
