-- The two short tables of a path: 14 by its segments before 3, and 1 over all its points before 2.
use mathlib.Core.Path.{◌≡◌}
use mathlib.Core.Bool.{true, false}
use mathlib.Core.List.{List}
use Prim.Native.Nat.{ℕ}
use lib.IntN.{ℤ}
use Rattle.rules.specs.Rules.{is_level, is_segments, head_refusal, are_points, are_chained, points_refusal}
use Rattle.rules.proofs.Refusals.{rule_kept}

module _ (F S n : ℕ) where
  pub head_refuses_14 : is_segments S ≡ false → head_refusal F S n ≡ 14
  unfolding head_refusal
  head_refuses_14 e = rw e

  pub head_refuses_3 : is_segments S ≡ true → is_level F n ≡ false → head_refusal F S n ≡ 3
  unfolding head_refusal
  head_refuses_3 segments e = rw (segments, e)

  pub head_accepted : is_segments S ≡ true → is_level F n ≡ true → head_refusal F S n ≡ 0
  unfolding head_refusal
  head_accepted segments level = rw (segments, level)

  pub head_kept : head_refusal F S n ≡ 0 → (is_segments S ≡ true) × (is_level F n ≡ true)
  unfolding head_refusal
  head_kept e =
      let segments = rule_kept (is_segments S) 13 _ e in
      (segments.0, (rule_kept (is_level F n) 2 0 segments.1).0)

module _ (W : ℕ) (ps : List ℤ) where
  pub points_refuse_1 : are_points ps ≡ false → points_refusal W ps ≡ 1
  unfolding points_refusal
  points_refuse_1 e = rw e

  pub points_refuse_2 : are_points ps ≡ true → are_chained W ps ≡ false → points_refusal W ps ≡ 2
  unfolding points_refusal
  points_refuse_2 points e = rw (points, e)

  pub points_accepted : are_points ps ≡ true → are_chained W ps ≡ true → points_refusal W ps ≡ 0
  unfolding points_refusal
  points_accepted points chained = rw (points, chained)

  pub points_kept : points_refusal W ps ≡ 0 → (are_points ps ≡ true) × (are_chained W ps ≡ true)
  unfolding points_refusal
  points_kept e =
      let points = rule_kept (are_points ps) 0 _ e in
      (points.0, (rule_kept (are_chained W ps) 1 0 points.1).0)
