-- Writing accepts nothing but the number lists of right sheets.
use mathlib.Core.Path.{◌≡◌, sym, ap, ap₂, ◌∙◌}
use mathlib.Core.List.{List, ◌∷◌}
use native.Mathlib.Omega.{arith}
use lib.IntN.{ℤ, pos}
use lib.ListN.{get_or, drop}
use lib.Seq.{drop-cons}
use Rattle.rules.proofs.Laws.{limits_hold, accepted}
use Rattle.sheet.specs.Sheet.{sheet_numbers, Right}
use Rattle.sheet.specs.NumberList.{number_at, sheet_of}
use Rattle.sheet.specs.Writing.{list_refusal}
use Rattle.sheet.proofs.NumberList.{two_numbers, count_paths}
use Rattle.sheet.proofs.Writing.{sheet_paths, Listed, listed}

-- the three numbers before the paths are not below 0
header : (l : List ℤ) → Listed l → l ≡ pos (number_at l 0) ∷ pos (number_at l 1) ∷ pos (number_at l 2) ∷ drop 3 l
header l k =
    let limits = limits_hold (number_at l 1) (number_at l 2) k.limits in
    let count = accepted (get_or l 0 (pos 0)) (omega (arith, k.parted.1)) in
    let upper = accepted (get_or l 1 (pos 0)) (omega arith) in
    let lower = accepted (get_or l 2 (pos 0)) (omega arith) in
    two_numbers l 0 (omega (arith, k.parted.0))
    ∙ ap₂ ◌∷◌ count (ap₂ ◌∷◌ upper (drop-cons l 2 (pos 0) k.parted.0 ∙ ap (λ (z : ℤ). z ∷ drop 3 l) lower))

pub writes_only : (l : List ℤ) → list_refusal l ≡ 0 → Right (sheet_of l) × (sheet_numbers (sheet_of l) ≡ l)
unfolding sheet_of sheet_numbers
writes_only l e =
    let k = listed l e in
    let paths = sheet_paths l k.parted in
    let count = count_paths l (number_at l 0) 3 in
    let right : Right (sheet_of l) = record { few = omega (arith, k.parted.1); limits = k.limits; paths = paths.0; fits = k.fits } in
    (right, rw (count, ← paths.1) (sym (header l k)))
