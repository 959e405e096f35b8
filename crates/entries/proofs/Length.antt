-- Lengths: what a move adds, that between pixels that touch it is their distance, and that each neighbouring pair adds its move.
use mathlib.Core.Path.{◌≡◌, refl, sym, ap, ◌∙◌}
use mathlib.Core.Bool.{Bool, true, false, cond}
use mathlib.Core.List.{List, [], ◌∷◌, ◌++◌}
use Prim.Native.Nat.{ℕ, zero, suc, ◌+◌, ◌*◌, ◌≤◌, ◌<◌}
use native.Mathlib.Nat.{le_of_eq}
use native.Mathlib.Omega.{arith}
use lib.Dec.{eqb, lit≤, eqb-suc-zero}
use lib.IntN.{ℤ, pos, nat_abs, ◌-ℤ◌}
use lib.ListN.{length}
use Rattle.numbers.specs.Tests.{eqbℤ}
use Rattle.numbers.proofs.Parts.{no_difference}
use Rattle.numbers.proofs.Ring.{#, ◌:-◌, ring}
use Rattle.numbers.proofs.Size.{size_zero}
use Rattle.numbers.proofs.Tests.{eq→eqbℤ, ne→eqbℤ}
use Rattle.entries.specs.declared.Entry.{Entry}
use Rattle.entries.specs.Length.{move_length, length_from, length_of}

-- ---- a move

-- 0 where the pixel is the same, 1,000 for a move in one coordinate, 1,414 for a move in both
module _ (e f : Entry) where
  pub move_nowhere : e.x ≡ f.x → e.y ≡ f.y → move_length e f ≡ 0
  unfolding move_length
  move_nowhere h k = rw (eq→eqbℤ e.x f.x h, eq→eqbℤ e.y f.y k)

  pub move_in_x : (e.x ≡ f.x → ⊥) → e.y ≡ f.y → move_length e f ≡ 1000
  unfolding move_length
  move_in_x h k = rw (ne→eqbℤ e.x f.x h, eq→eqbℤ e.y f.y k)

  pub move_in_y : e.x ≡ f.x → (e.y ≡ f.y → ⊥) → move_length e f ≡ 1000
  unfolding move_length
  move_in_y h k = rw (eq→eqbℤ e.x f.x h, ne→eqbℤ e.y f.y k)

  pub move_in_both : (e.x ≡ f.x → ⊥) → (e.y ≡ f.y → ⊥) → move_length e f ≡ 1414
  unfolding move_length
  move_in_both h k = rw (ne→eqbℤ e.x f.x h, ne→eqbℤ e.y f.y k)

-- the width takes no part: entries that share x and y move alike, whatever their widths
pub move_whatever_the_width : (e e' f f' : Entry) → e.x ≡ e'.x → e.y ≡ e'.y → f.x ≡ f'.x → f.y ≡ f'.y → move_length e f ≡ move_length e' f'
unfolding move_length
move_whatever_the_width e e' f f' h k h' k' = rw (h, k, h', k')

pub move_most : (e f : Entry) → move_length e f ≤ 1414
unfolding move_length
move_most e f = at_most (eqbℤ e.x f.x) (eqbℤ e.y f.y)
  where
    at_most : (x y : Bool) → cond x (cond y 0 1000) (cond y 1000 1414) ≤ 1414
    at_most true true = omega arith
    at_most true false = omega arith
    at_most false true = omega arith
    at_most false false = omega arith

-- between pixels that touch, a move is the distance in thousandths of a pixel, cut to a whole number
same_by_distance : (u v : ℤ) (n : ℕ) → nat_abs (v -ℤ u) ≡ n → eqbℤ u v ≡ eqb n 0
same_by_distance u v zero e = eq→eqbℤ u v (sym (no_difference v u (size_zero (record { le = le_of_eq e }))))
same_by_distance u v (suc n) e = ne→eqbℤ u v (λ f. not_zero (sym e ∙ ap (λ (z : ℤ). nat_abs (v -ℤ z)) f ∙ ap nat_abs itself)) ∙ sym (eqb-suc-zero n)
  where
    itself : v -ℤ v ≡ pos 0
    itself = ring 1 (λ z. (z :- z, # 0)) tt v

    not_zero : {n : ℕ} → suc n ≡ 0 → ⊥
    not_zero e = omega arith

pub record IsDistance (m dx dy : ℕ) : Type 0 where
  pub least : m * m ≤ 1000000 * (dx * dx + dy * dy)
  pub most : 1000000 * (dx * dx + dy * dy) < (m + 1) * (m + 1)

pub move_is_distance : (e f : Entry) → nat_abs (f.x -ℤ e.x) ≤ 1 → nat_abs (f.y -ℤ e.y) ≤ 1
    → IsDistance (move_length e f) (nat_abs (f.x -ℤ e.x)) (nat_abs (f.y -ℤ e.y))
unfolding move_length
move_is_distance e f h k =
    rw (same_by_distance e.x f.x _ refl, same_by_distance e.y f.y _ refl) (squares _ _ h k)
  where
    squares : (a b : ℕ) → a ≤ 1 → b ≤ 1 → IsDistance (cond (eqb a 0) (cond (eqb b 0) 0 1000) (cond (eqb b 0) 1000 1414)) a b
    squares zero zero h k = record { least = lit≤ tt; most = lit≤ tt }
    squares zero (suc zero) h k = record { least = lit≤ tt; most = lit≤ tt }
    squares (suc zero) zero h k = record { least = lit≤ tt; most = lit≤ tt }
    squares (suc zero) (suc zero) h k = record { least = lit≤ tt; most = lit≤ tt }
    squares zero (suc (suc b)) h k = let no : ⊥ = omega arith in absurd no
    squares (suc zero) (suc (suc b)) h k = let no : ⊥ = omega arith in absurd no
    squares (suc (suc a)) b h k = let no : ⊥ = omega arith in absurd no

-- ---- a list

pub length_of_one : (e : Entry) → length_of (e ∷ []) ≡ 0
unfolding length_of length_from
length_of_one e = refl

-- each neighbouring pair adds its move
length_from_pair : (g : Entry) (before : List Entry) (e f : Entry) (after : List Entry)
    → length_from g (before ++ e ∷ f ∷ after) ≡ length_from g (before ++ e ∷ []) + (move_length e f + length_from f after)
unfolding length_from
length_from_pair g [] e f after = omega arith
length_from_pair g (h ∷ before) e f after = omega (arith, length_from_pair h before e f after)

pub length_of_pair : (before : List Entry) (e f : Entry) (after : List Entry)
    → length_of (before ++ e ∷ f ∷ after) ≡ length_of (before ++ e ∷ []) + (move_length e f + length_of (f ∷ after))
unfolding length_of length_from
length_of_pair [] e f after = omega arith
length_of_pair (g ∷ before) e f after = length_from_pair g before e f after

pub length_most : (e : Entry) (es : List Entry) → length_from e es ≤ 1414 * length es
unfolding length_from
length_most e [] = omega arith
length_most e (f ∷ es) = omega (arith, move_most e f, length_most f es)
