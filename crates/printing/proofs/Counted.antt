-- The totals that the code goes on with where a path may be refused: those of the answer, and 0 for both under a refusal.
use mathlib.Core.Path.{◌≡◌, ap}
use Prim.Native.Nat.{ℕ}
use Rattle.std.specs.Prelude.{Result, Ok, Err}
use Rattle.std.specs.Result.{result_unwrap_or}
use Rattle.rules.specs.declared.refused.Refusal.{Refusal}
use Rattle.path.specs.declared.Totals.{Totals}
use Rattle.path.specs.Answer.{totals, answered}
use Rattle.listing_text.specs.Lines.{path_line}

abbrev nothing : Totals
nothing = record { points = 0; length = 0 }

pub points_counted : (r : Result Totals Refusal) {t : Totals} → t ≡ result_unwrap_or r nothing → t.points ≡ (answered r).points
points_counted (Ok a) e = ap (λ (t : Totals). t.points) e
points_counted (Err r) e = ap (λ (t : Totals). t.points) e

pub line_told : (r : Result Totals Refusal) {t : Totals} (i : ℕ) → t ≡ result_unwrap_or r nothing → path_line i (totals t) ≡ path_line i (answered r)
unfolding path_line
line_told (Ok a) i e = ap (λ t. path_line i (totals t)) e
line_told (Err r) i e = ap (λ t. path_line i (totals t)) e
