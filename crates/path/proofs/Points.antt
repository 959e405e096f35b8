-- A path's arguments, its largest position, and its points as numbers: x0, y0, width0, x1, y1, width1, .., of which segment k uses points Dk to Dk + D.
use mathlib.Core.Path.{◌≡◌, refl, ap}
use mathlib.Core.List.{List, ◌∷◌}
use Prim.Native.Nat.{ℕ, suc, ◌+◌, ◌*◌, ◌^◌, ◌≤◌, ◌<◌}
use native.Mathlib.Nat.{mul-le-mul}
use native.Mathlib.Omega.{arith}
use lib.IntN.{ℤ, pos}
use lib.ListN.{get_or}
use lib.Pow.{pow_mono}
use Rattle.rules.specs.declared.Degree.{Degree}
use Rattle.rules.specs.declared.Degree.TheVariants.{Quadratic, Cubic}
use Rattle.rules.specs.Rules.{degree, coordinates}
use Rattle.coordinate.specs.Course.{first, last}
use Rattle.operations.specs.Coordinates.{Coordinate, in_x, in_y, in_width, pick}
use Rattle.path.specs.Path.{path, point_at, control, controls}
use Rattle.path.specs.Listed.{segment_points, corner_of}

pub arguments_in_order : (points : List ℤ) (D : Degree) (segments finest level upper lower : ℕ)
    → path points (record { degree = D; segments = segments; finest = finest; level = level }) (record { upper = upper; lower = lower })
    ≡ record { degree = D; points = points; segments = segments; finest = finest; level = level; upper = upper; lower = lower }
arguments_in_order points D segments finest level upper lower = refl

-- a position of segment k, whatever the finest level is
pub position_most : (F k q : ℕ) → F ≤ 12 → k < 64 → q ≤ 2 ^ F → 2 ^ F * k + q ≤ 262144
position_most F k q f h w = let end : 2 ^ F ≤ 4096 = pow_mono {j = 12} f in omega (arith, mul-le-mul end h)

pub x_y_width : (x y width : ℤ) (points : List ℤ)
    → let l = x ∷ y ∷ width ∷ points in (point_at l 0 0 ≡ x) × (point_at l 1 0 ≡ y) × (point_at l 2 0 ≡ width)
unfolding point_at
x_y_width x y width points = (refl, refl, refl)

pub point_after_point : (x y width : ℤ) (points : List ℤ) (c i : ℕ) → point_at (x ∷ y ∷ width ∷ points) c (i + 1) ≡ point_at points c i
unfolding point_at
point_after_point x y width points c i =
    let next : coordinates * (i + 1) + c ≡ suc (suc (suc (coordinates * i + c))) = omega arith in
    ap (λ (n : ℕ). get_or (x ∷ y ∷ width ∷ points) n (pos 0)) next

-- ---- a segment's points

-- in the documents' numbers
uses : (D : Degree) (points : List ℤ) (k c : ℕ) → control D points c k ≡ segment_points D points c k
unfolding control
uses Quadratic points k c = refl
uses Cubic points k c = refl

pub segment_uses : (D : Degree) (points : List ℤ) (k : ℕ) (c : Coordinate) → controls D points k c ≡ segment_points D points (pick 0 1 2 c) k
segment_uses D points k in_x = uses D points k 0
segment_uses D points k in_y = uses D points k 1
segment_uses D points k in_width = uses D points k 2

pub corner-of : (D : Degree) (k : ℕ) → degree D * k ≡ corner_of D k
corner-of Quadratic k = refl
corner-of Cubic k = refl

-- it starts at point Dk, and ends where the next one starts
pub first_point : (D : Degree) (points : List ℤ) (c k : ℕ) → first D (control D points c k) ≡ point_at points c (degree D * k)
unfolding control
first_point Quadratic points c k = refl
first_point Cubic points c k = refl

pub last_point : (D : Degree) (points : List ℤ) (c k : ℕ) → last D (control D points c k) ≡ point_at points c (degree D * (k + 1))
unfolding control
last_point Quadratic points c k = let next : 2 * k + 2 ≡ 2 * (k + 1) = omega arith in ap (point_at points c) next
last_point Cubic points c k = let next : 3 * k + 3 ≡ 3 * (k + 1) = omega arith in ap (point_at points c) next
