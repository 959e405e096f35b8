-- Path i of an accepted sheet, which has i paths before it, is listed as number i, at finest level 11, from its own start level and under the
-- sheet's limits.
use mathlib.Core.Path.{◌≡◌, ap, ap₂, ◌∙◌}
use mathlib.Core.List.{List, [], ◌∷◌, ◌++◌, append_assoc}
use Prim.Native.Nat.{ℕ, suc, ◌+◌}
use native.Mathlib.Nat.{add-zero}
use native.Mathlib.Omega.{arith}
use lib.ListN.{length, length-append}
use Rattle.rules.proofs.Refusals.{answers}
use Rattle.sheet.specs.Sheet.{Target, Sheet}
use Rattle.sheet.specs.Records.{sheet_at}
use Rattle.sheet.specs.Reading.{sheet_refusal}
use Rattle.listing_text.specs.Lines.{paths_line, refused_line}
use Rattle.listing_text.specs.Listing.{path_text, paths_text, sheet_text, listing}

paths_append : (s : Sheet) (i : ℕ) (ts us : List Target) → paths_text s i (ts ++ us) ≡ paths_text s i ts ++ paths_text s (i + length ts) us
unfolding paths_text
paths_append s i [] us = rw add-zero
paths_append s i (t ∷ ts) us =
    let further : i + 1 + length ts ≡ i + suc (length ts) = omega arith in
    rw (paths_append s (i + 1) ts us, further, append_assoc)

pub path_listed : (b : List ℕ) → sheet_refusal b ≡ 0 → let s = sheet_at b in
    (before : List Target) (t : Target) (after : List Target) → s.paths ≡ before ++ t ∷ after
    → listing b ≡ paths_line (length before + 1 + length after) ++ (paths_text s 0 before
    ++ (path_text (length before) (record { degree = t.degree; points = t.points; segments = t.segments; finest = 11; level = t.level; upper = s.upper; lower = s.lower })
    ++ paths_text s (length before + 1) after))
unfolding listing sheet_text paths_text
path_listed b e before t after f =
    let s = sheet_at b in
    let many : length (before ++ t ∷ after) ≡ length before + 1 + length after = rw length-append (omega arith) in
    let from : 0 + length before ≡ length before = omega arith in
    let texts = ap (paths_text s 0) f ∙ paths_append s 0 before (t ∷ after) ∙ ap (λ i. paths_text s 0 before ++ paths_text s i (t ∷ after)) from in
    answers refused_line (sheet_text s) e ∙ ap₂ (λ N text. paths_line N ++ text) (ap length f ∙ many) texts
