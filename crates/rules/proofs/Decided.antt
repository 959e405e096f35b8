-- A test of every number decides rules 1 and 2 over the points of a whole path.
use mathlib.Core.Path.{◌≡◌, refl, sym}
use mathlib.Core.Bool.{Bool, true, false}
use mathlib.Core.List.{List}
use Prim.Native.Nat.{ℕ, ◌+◌, ◌<◌}
use lib.IntN.{ℤ, pos}
use lib.ListN.{length, get_or}
use Rattle.std.specs.Prelude.{◌↔◌, IsTrue, EachIndex}
use Rattle.rules.specs.Rules.{is_coordinate, are_neighbours, coordinates, are_points, are_chained}
use Rattle.rules.proofs.Every.{points_hold, hold_points, chained_hold, hold_chained}

-- two tests that are true together are the same
same_truth : (a b : Bool) → IsTrue a ↔ IsTrue b → a ≡ b
same_truth true b h = sym (h.0 refl)
same_truth false true h = h.1 refl
same_truth false false h = refl

pub points_decided : (b : Bool) (l : List ℤ) → IsTrue b ↔ EachIndex l (λ i. IsTrue (is_coordinate (get_or l i (pos 0)))) → b ≡ are_points l
points_decided b l h = same_truth b (are_points l) ((λ e. hold_points l (h.0 e)), (λ e. h.1 (points_hold l e)))

pub chained_decided : (W : ℕ) (b : Bool) (l : List ℤ)
    → IsTrue b ↔ ((i : ℕ) → coordinates + i < length l → IsTrue (are_neighbours W (get_or l i (pos 0)) (get_or l (coordinates + i) (pos 0))))
    → b ≡ are_chained W l
chained_decided W b l h = same_truth b (are_chained W l) ((λ e. hold_chained W l (h.0 e)), (λ e. h.1 (chained_hold W l e)))
