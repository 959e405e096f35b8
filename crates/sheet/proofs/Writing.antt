-- Writing, a path at a time, and what the rules say of a number list without a refusal.
use mathlib.Core.Path.{◌≡◌, sym, ap, ap₂, ◌∙◌}
use mathlib.Core.Bool.{true}
use mathlib.Core.List.{List, ◌∷◌, ◌++◌}
use Prim.Native.Nat.{ℕ, zero, suc, ◌+◌, ◌-◌, ◌≤◌, ◌<◌}
use native.Mathlib.Omega.{arith}
use borrow.Author.Tests.{leb-true, le-leb, eqb-true, eq-eqb, ne_eqb}
use lib.Dec.{leb}
use lib.IntN.{ℤ, pos}
use lib.ListN.{length, get_or, take, drop, length-drop, take-append-drop, drop_of_length-le}
use lib.Seq.{length-take-le, drop-drop}
use Rattle.numbers.specs.Tables.{All}
use Rattle.rules.specs.Refusals.{first_of}
use Rattle.rules.specs.Rules.{are_limits}
use Rattle.rules.proofs.Refusals.{rule_kept, first_kept, first_on, first_stop}
use Rattle.rules.proofs.Laws.{size_holds, accepted}
use Rattle.rules.proofs.Marks.{marked_back}
use Rattle.sheet.specs.Bytes.{Short}
use Rattle.sheet.specs.Sheet.{most_bytes, most_paths, list_head, path_head, sheet_bytes, path_numbers, RightPath}
use Rattle.sheet.specs.NumberList.{number_at, path_mark, path_point_numbers, path_at, path_end, paths_at, sheet_of}
use Rattle.sheet.specs.Writing.{path_refusal, paths_refusal, Parted, list_refusal}
use Rattle.sheet.proofs.PathRules.{Kept, rules_kept, kept_right}
use Rattle.sheet.proofs.Bytes.{bits_small}
use Rattle.sheet.proofs.Sheets.{mark_short, right_short}
use Rattle.sheet.proofs.NumberList.{two_numbers}

-- ---- the refusals of the paths

-- the first path decides, or else those after it
paths_next : (l : List ℤ) (n i : ℕ) → 0 < n → paths_refusal l n i ≡ first_of (path_refusal l i) (paths_refusal l (n - 1) (path_end l i))
unfolding paths_refusal
paths_next l zero i h = absurd (omega arith)
paths_next l (suc n) i h = let e : suc n - 1 ≡ n = omega arith in rw e

pub paths_more : (l : List ℤ) (n i : ℕ) → 0 < n → path_refusal l i ≡ 0 → paths_refusal l n i ≡ paths_refusal l (n - 1) (path_end l i)
paths_more l n i h e = paths_next l n i h ∙ first_on (path_refusal l i) _ e

pub paths_stop : (l : List ℤ) (n i : ℕ) → 0 < n → (path_refusal l i ≡ 0 → ⊥) → paths_refusal l n i ≡ path_refusal l i
paths_stop l n i h e = paths_next l n i h ∙ first_stop (path_refusal l i) _ e

pub paths_kept : (l : List ℤ) (n i : ℕ) → 0 < n → paths_refusal l n i ≡ 0 → (path_refusal l i ≡ 0) × (paths_refusal l (n - 1) (path_end l i) ≡ 0)
paths_kept l n i h e = first_kept (path_refusal l i) _ (sym (paths_next l n i h) ∙ e)

-- none is left: nor may a number be
pub paths_end : (l : List ℤ) (n i : ℕ) → n ≡ 0 → i ≡ length l → paths_refusal l n i ≡ 0
unfolding paths_refusal
paths_end l n i z e = rw (z, eq-eqb i (length l) e)

pub paths_left : (l : List ℤ) (n i : ℕ) → n ≡ 0 → (i ≡ length l → ⊥) → paths_refusal l n i ≡ 17
unfolding paths_refusal
paths_left l n i z e = rw (z, ne_eqb i (length l) e)

-- ---- one path

module _ (l : List ℤ) (i : ℕ) (e : path_refusal l i ≡ 0) where
  path_kept : Kept (leb (i + path_head) (length l)) (leb (path_end l i) (length l)) (path_at l i)
  unfolding path_refusal
  path_kept = rules_kept 16 _ _ _ e

  pub path_fits : path_end l i ≤ length l
  path_fits = leb-true (path_end l i) (length l) path_kept.ends

  pub path-points : length (path_at l i).points ≡ path_point_numbers l i
  unfolding path_at
  path-points = length-take-le _ (drop (i + 2) l) (omega (arith, path_fits, length-drop (i + 2) l))

  path_right : RightPath (path_at l i)
  unfolding path_at
  path_right = kept_right path-points path_kept

  path-numbers : drop i l ≡ pos (number_at l i) ∷ pos (number_at l (i + 1)) ∷ ((path_at l i).points ++ drop (path_end l i) l)
  unfolding path_at
  path-numbers =
      let segments = accepted (get_or l i (pos 0)) (omega (arith, (size_holds _ _ _ path_right.size).most)) in
      let small = rw marked_back at (bits_small (mark_short (path_mark l i).degree _ path_kept.level)) in
      let mark = accepted (get_or l (i + 1) (pos 0)) (omega arith) in
      let n = path_point_numbers l i in
      let points = sym (take-append-drop n (drop (i + 2) l)) ∙ ap (λ (m : List ℤ). take n (drop (i + 2) l) ++ m) (drop-drop n (i + 2) l) in
      two_numbers l i (omega (arith, path_fits)) ∙ ap₂ ◌∷◌ segments (ap₂ ◌∷◌ mark points)

-- ---- n paths

-- paths without a refusal are right, and their numbers are the list's from i on
pub paths_numbers : (l : List ℤ) (n i : ℕ) → i ≤ length l → paths_refusal l n i ≡ 0
    → All RightPath (paths_at l n i) × (drop i l ≡ path_numbers (paths_at l n i))
unfolding paths_refusal paths_at path_numbers path_at
paths_numbers l zero i h e = (tt, drop_of_length-le l {i = i} (omega (arith, eqb-true i (length l) (rule_kept _ 16 0 e).0)))
paths_numbers l (suc n) i h e =
    let k = first_kept (path_refusal l i) (paths_refusal l n (path_end l i)) e in
    let rest = paths_numbers l n (path_end l i) (path_fits l i k.0) k.1 in
    ((path_right l i k.0, rest.0), path-numbers l i k.0 ∙ rw (marked_back, rest.1))

pub paths_short : (l : List ℤ) (n i : ℕ) → i ≤ length l → paths_refusal l n i ≡ 0 → All Short (drop i l)
paths_short l n i h e = let p = paths_numbers l n i h e in rw p.1 (right_short (paths_at l n i) p.0)

-- those of the sheet that the list makes
pub sheet_paths : (l : List ℤ) → Parted l → All RightPath (sheet_of l).paths × (drop list_head l ≡ path_numbers (sheet_of l).paths)
unfolding sheet_of
sheet_paths l parted = paths_numbers l (number_at l 0) list_head parted.0 parted.2

-- ---- the rules of a whole list

pub record Listed (l : List ℤ) : Type 0 where
  pub parted : Parted l
  pub limits : are_limits (number_at l 1) (number_at l 2) ≡ true
  pub fits : length (sheet_bytes (sheet_of l)) ≤ most_bytes

pub listed : (l : List ℤ) → list_refusal l ≡ 0 → Listed l
unfolding list_refusal
listed l e =
    let least = rule_kept (leb list_head (length l)) 16 _ e in
    let few = rule_kept (leb (number_at l 0) most_paths) 11 _ least.1 in
    let limits = rule_kept (are_limits (number_at l 1) (number_at l 2)) 3 _ few.1 in
    let paths = first_kept (paths_refusal l (number_at l 0) list_head) _ limits.1 in
    let fits = rule_kept (leb (length (sheet_bytes (sheet_of l))) most_bytes) 10 0 paths.1 in
    record {
      parted = (leb-true _ _ least.0, leb-true _ _ few.0, paths.0);
      limits = limits.0;
      fits = leb-true _ _ fits.0;
    }

pub listed_accepted : (l : List ℤ) → Listed l → list_refusal l ≡ 0
unfolding list_refusal
listed_accepted l a =
    rw (le-leb _ _ a.parted.0, le-leb _ _ a.parted.1, a.limits, a.parted.2, le-leb _ _ a.fits)
