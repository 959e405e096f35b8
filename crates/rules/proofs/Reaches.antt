-- How far apart neighbours may be at each finest level, of either degree.
use mathlib.Core.Path.{◌≡◌, refl}
use mathlib.Core.List.{[], ◌∷◌, map}
use Prim.Native.Nat.{ℕ, ◌+◌, ◌-◌, ◌*◌, ◌/◌, ◌^◌, ◌≤◌, ◌<◌}
use native.Mathlib.Nat.{min-le_left, min-le_right, min-eq_left, min-eq_right}
use native.Mathlib.Omega.{arith}
use lib.Pow.{pow_mono}
use Rattle.rules.specs.declared.Degree.{Degree}
use Rattle.rules.specs.declared.Degree.TheVariants.{Quadratic, Cubic}
use Rattle.rules.specs.Rules.{degree, most_reach, reach}
use Rattle.rules.proofs.Laws.{Fine}

-- at 6 to 12, as numbers
pub cubic_reaches : map (reach Cubic) (6 ∷ 7 ∷ 8 ∷ 9 ∷ 10 ∷ 11 ∷ 12 ∷ []) ≡ 20 ∷ 42 ∷ 84 ∷ 170 ∷ 340 ∷ 682 ∷ 682 ∷ []
unfolding reach
cubic_reaches = refl

pub quadratic_reaches : map (reach Quadratic) (6 ∷ 7 ∷ 8 ∷ 9 ∷ 10 ∷ 11 ∷ 12 ∷ []) ≡ 31 ∷ 63 ∷ 127 ∷ 255 ∷ 511 ∷ 1023 ∷ 1023 ∷ []
unfolding reach
quadratic_reaches = refl

pub reach_most : (D : Degree) (F : ℕ) → reach D F ≤ most_reach D
unfolding reach
reach_most D F = min-le_left (most_reach D) ((2 ^ F - 2) / degree D)

-- the differences of a segment's neighbours add up to 2 less than 2^F at most
pub reach_room : (D : Degree) (F : ℕ) → Fine F → degree D * reach D F + 2 ≤ 2 ^ F
unfolding reach
reach_room Quadratic F f =
    let two : 64 ≤ 2 ^ F = pow_mono {i = 6} f.least in
    omega (arith, min-le_right (most_reach Quadratic) ((2 ^ F - 2) / 2))
reach_room Cubic F f =
    let two : 64 ≤ 2 ^ F = pow_mono {i = 6} f.least in
    omega (arith, min-le_right (most_reach Cubic) ((2 ^ F - 2) / 3))

-- ---- as it is reckoned

pub reach_coarsest : (D : Degree) → reach D 0 ≡ 0
unfolding reach
reach_coarsest Quadratic = refl
reach_coarsest Cubic = refl

pub reach_fine : (D : Degree) (F : ℕ) → F ≤ 11 → reach D F ≡ (2 ^ F - 2) / degree D
unfolding reach
reach_fine Quadratic F h = let few : 2 ^ F ≤ 2048 = pow_mono {j = 11} h in min-eq_right (omega arith)
reach_fine Cubic F h = let few : 2 ^ F ≤ 2048 = pow_mono {j = 11} h in min-eq_right (omega arith)

pub reach_finer : (D : Degree) (F : ℕ) → 11 < F → reach D F ≡ most_reach D
unfolding reach
reach_finer Quadratic F h = let many : 4096 ≤ 2 ^ F = pow_mono {i = 12} h in min-eq_left (omega arith)
reach_finer Cubic F h = let many : 4096 ≤ 2 ^ F = pow_mono {i = 12} h in min-eq_left (omega arith)
