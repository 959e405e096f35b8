-- Rules 1 and 2 over the points of a whole path: a number at a time, as the loops of the tests go, and what they say of every number.
use mathlib.Core.Path.{◌≡◌, refl, sym, ap, ap₂, ◌∙◌}
use mathlib.Core.Bool.{Bool, true, false, ◌&&◌}
use mathlib.Core.List.{List, [], ◌∷◌}
use Prim.Native.Nat.{ℕ, zero, suc, ◌+◌, ◌<◌, ◌≤◌}
use native.Mathlib.Nat.{le_of_suc-le-suc, not-suc-le-zero, zero-lt-suc}
use native.Mathlib.Numerals.{add-one}
use native.Mathlib.Omega.{arith}
use lib.IntN.{ℤ, pos}
use lib.ListN.{length, get_or, drop, length-drop, drop_of_length-le}
use lib.Seq.{drop-cons, get_or-drop}
use Rattle.numbers.proofs.Tests.{and_true}
use Rattle.rules.specs.Rules.{is_coordinate, are_neighbours, coordinates, are_points, are_beside, are_chained}

-- ---- a number at a time

-- the number at i decides, or else those after it
module _ (l : List ℤ) (i : ℕ) (h : i < length l) where
  points_head : are_points (drop i l) ≡ (is_coordinate (get_or l i (pos 0)) && are_points (drop (suc i) l))
  unfolding are_points
  points_head = ap are_points (drop-cons l i (pos 0) h)

  pub points_stop : is_coordinate (get_or l i (pos 0)) ≡ false → are_points (drop i l) ≡ false
  points_stop e = points_head ∙ ap (λ (b : Bool). b && are_points (drop (suc i) l)) e

  pub points_on : is_coordinate (get_or l i (pos 0)) ≡ true → are_points (drop (i + 1) l) ≡ are_points (drop i l)
  points_on e =
      ap (λ (k : ℕ). are_points (drop k l)) (add-one i)
      ∙ sym (points_head ∙ ap (λ (b : Bool). b && are_points (drop (suc i) l)) e)

pub points_end : (l : List ℤ) (i : ℕ) → length l ≤ i → are_points (drop i l) ≡ true
unfolding are_points
points_end l i h = ap are_points (drop_of_length-le l h)

-- so do the numbers at i and at j, which stand beside each other
module _ (W : ℕ) (l l' : List ℤ) (i j : ℕ) (h : i < length l) (k : j < length l') where
  beside_head : are_beside W (drop i l) (drop j l') ≡ (are_neighbours W (get_or l i (pos 0)) (get_or l' j (pos 0)) && are_beside W (drop (suc i) l) (drop (suc j) l'))
  unfolding are_beside
  beside_head = ap₂ (are_beside W) (drop-cons l i (pos 0) h) (drop-cons l' j (pos 0) k)

  pub beside_stop : are_neighbours W (get_or l i (pos 0)) (get_or l' j (pos 0)) ≡ false → are_beside W (drop i l) (drop j l') ≡ false
  beside_stop e = beside_head ∙ ap (λ (b : Bool). b && are_beside W (drop (suc i) l) (drop (suc j) l')) e

  pub beside_on : are_neighbours W (get_or l i (pos 0)) (get_or l' j (pos 0)) ≡ true → are_beside W (drop (i + 1) l) (drop (j + 1) l') ≡ are_beside W (drop i l) (drop j l')
  beside_on e =
      ap₂ (λ (m n : ℕ). are_beside W (drop m l) (drop n l')) (add-one i) (add-one j)
      ∙ sym (beside_head ∙ ap (λ (b : Bool). b && are_beside W (drop (suc i) l) (drop (suc j) l')) e)

pub beside_end : (W : ℕ) (l l' : List ℤ) (j : ℕ) → length l' ≤ j → are_beside W l (drop j l') ≡ true
unfolding are_beside
beside_end W l l' j h = ap (are_beside W l) (drop_of_length-le l' h) ∙ alone l
  where
    alone : (l : List ℤ) → are_beside W l [] ≡ true
    alone [] = refl
    alone (p ∷ l) = refl

-- ---- every number

pub points_hold : (l : List ℤ) → are_points l ≡ true → (i : ℕ) → i < length l → is_coordinate (get_or l i (pos 0)) ≡ true
unfolding are_points
points_hold [] e i h = absurd (not-suc-le-zero h)
points_hold (p ∷ l) e zero h = (and_true (is_coordinate p) (are_points l) e).0
points_hold (p ∷ l) e (suc i) h = points_hold l (and_true (is_coordinate p) (are_points l) e).1 i (le_of_suc-le-suc h)

pub hold_points : (l : List ℤ) → ((i : ℕ) → i < length l → is_coordinate (get_or l i (pos 0)) ≡ true) → are_points l ≡ true
unfolding are_points
hold_points [] h = refl
hold_points (p ∷ l) h = ap₂ ◌&&◌ (h 0 (zero-lt-suc (length l))) (hold_points l (λ i k. h (suc i) (omega (arith, k))))

beside_hold : (W : ℕ) (l l' : List ℤ) → are_beside W l l' ≡ true → (i : ℕ) → i < length l → i < length l'
    → are_neighbours W (get_or l i (pos 0)) (get_or l' i (pos 0)) ≡ true
unfolding are_beside
beside_hold W [] l' e i h k = absurd (not-suc-le-zero h)
beside_hold W (p ∷ l) [] e i h k = absurd (not-suc-le-zero k)
beside_hold W (p ∷ l) (p' ∷ l') e zero h k = (and_true (are_neighbours W p p') (are_beside W l l') e).0
beside_hold W (p ∷ l) (p' ∷ l') e (suc i) h k =
    beside_hold W l l' (and_true (are_neighbours W p p') (are_beside W l l') e).1 i (le_of_suc-le-suc h) (le_of_suc-le-suc k)

hold_beside : (W : ℕ) (l l' : List ℤ) → ((i : ℕ) → i < length l → i < length l' → are_neighbours W (get_or l i (pos 0)) (get_or l' i (pos 0)) ≡ true)
    → are_beside W l l' ≡ true
unfolding are_beside
hold_beside W [] l' h = refl
hold_beside W (p ∷ l) [] h = refl
hold_beside W (p ∷ l) (p' ∷ l') h =
    ap₂ ◌&&◌ (h 0 (zero-lt-suc (length l)) (zero-lt-suc (length l'))) (hold_beside W l l' (λ i j k. h (suc i) (omega (arith, j)) (omega (arith, k))))

pub chained_hold : (W : ℕ) (l : List ℤ) → are_chained W l ≡ true → (i : ℕ) → coordinates + i < length l
    → are_neighbours W (get_or l i (pos 0)) (get_or l (coordinates + i) (pos 0)) ≡ true
unfolding are_chained
chained_hold W l e i h =
    let k : i < length (drop coordinates l) = rw length-drop (omega arith) in
    rw get_or-drop at (beside_hold W l (drop coordinates l) e i (omega arith) k)

pub hold_chained : (W : ℕ) (l : List ℤ)
    → ((i : ℕ) → coordinates + i < length l → are_neighbours W (get_or l i (pos 0)) (get_or l (coordinates + i) (pos 0)) ≡ true) → are_chained W l ≡ true
unfolding are_chained
hold_chained W l h = hold_beside W l (drop coordinates l) each
  where
    each : (i : ℕ) → i < length l → i < length (drop coordinates l) → are_neighbours W (get_or l i (pos 0)) (get_or (drop coordinates l) i (pos 0)) ≡ true
    each i j k = rw get_or-drop (h i (omega (arith, length-drop coordinates l)))
