-- What rules 1 and 2 say of one coordinate's control points: how far they are from 0, and neighbours from each other; and which points they accept.
use mathlib.Core.Path.{◌≡◌, refl}
use mathlib.Core.Bool.{true, ◌&&◌}
use Prim.Native.Nat.{ℕ, ◌≤◌}
use lib.IntN.{ℤ, pos, negsuc, ◌-ℤ◌}
use lib.Signed.{◌≤ℤ◌}
use Rattle.numbers.proofs.Size.{Size, size_by}
use Rattle.numbers.proofs.Tests.{and_true, and_three, and_four}
use Rattle.rules.specs.declared.Degree.{Degree}
use Rattle.rules.specs.declared.Degree.TheVariants.{Quadratic, Cubic}
use Rattle.rules.specs.Rules.{is_coordinate, are_neighbours}
use Rattle.rules.proofs.Laws.{coordinate_size, coordinate_range, range_coordinate, neighbours_size, size_neighbours}
use Rattle.coordinate.specs.Control.{Control}
use Rattle.coordinate.specs.Points.{are_coordinates, are_near}

-- of each point
abbrev pub Each : (D : Degree) → (ℤ → Type 0) → Control D → Type 0
Each Quadratic P p = P p.p0 × P p.p1 × P p.p2
Each Cubic P p = P p.p0 × P p.p1 × P p.p2 × P p.p3

each_coordinate : (D : Degree) (P : ℤ → Type 0) → ((z : ℤ) → is_coordinate z ≡ true → P z) → (p : Control D) → are_coordinates D p ≡ true → Each D P p
unfolding are_coordinates
each_coordinate Quadratic P h p e =
    let t = and_three (is_coordinate p.p0) (is_coordinate p.p1) (is_coordinate p.p2) e in
    (h p.p0 t.0, h p.p1 t.1, h p.p2 t.2)
each_coordinate Cubic P h p e =
    let t = and_four (is_coordinate p.p0) (is_coordinate p.p1) (is_coordinate p.p2) (is_coordinate p.p3) e in
    (h p.p0 t.0, h p.p1 t.1, h p.p2 t.2, h p.p3 t.3)

abbrev pub Extent : (D : Degree) → ℕ → Control D → Type 0
Extent D H p = Each D (λ z. Size z H) p

pub extent : (D : Degree) (p : Control D) → are_coordinates D p ≡ true → Extent D 16384 p
extent D p e = each_coordinate D (λ z. Size z 16384) coordinate_size p e

-- of each point and the next, from the first two on
abbrev pub Reach : (D : Degree) → ℕ → Control D → Type 0
Reach Quadratic W p = Size (p.p1 -ℤ p.p0) W × Size (p.p2 -ℤ p.p1) W
Reach Cubic W p = Size (p.p1 -ℤ p.p0) W × Size (p.p2 -ℤ p.p1) W × Size (p.p3 -ℤ p.p2) W

pub reaches : (D : Degree) (W : ℕ) (p : Control D) → are_near D W p ≡ true → Reach D W p
unfolding are_near
reaches Quadratic W p e =
    let t = and_true (are_neighbours W p.p0 p.p1) (are_neighbours W p.p1 p.p2) e in
    (neighbours_size W p.p0 p.p1 t.0, neighbours_size W p.p1 p.p2 t.1)
reaches Cubic W p e =
    let t = and_three (are_neighbours W p.p0 p.p1) (are_neighbours W p.p1 p.p2) (are_neighbours W p.p2 p.p3) e in
    (neighbours_size W p.p0 p.p1 t.0, neighbours_size W p.p1 p.p2 t.1, neighbours_size W p.p2 p.p3 t.2)

-- ---- exactly these points are accepted

-- from −16,384 to 16,383
abbrev pub Lies : ℤ → Type 0
Lies z = (negsuc 16383 ≤ℤ z) × (z ≤ℤ pos 16383)

pub coordinates_lie : (D : Degree) (p : Control D) → are_coordinates D p ≡ true → Each D Lies p
coordinates_lie D p e = each_coordinate D Lies coordinate_range p e

lies : (z : ℤ) → Lies z → is_coordinate z ≡ true
lies z h = range_coordinate {p = z} h.0 h.1

pub lying_coordinates : (D : Degree) (p : Control D) → Each D Lies p → are_coordinates D p ≡ true
unfolding are_coordinates
lying_coordinates Quadratic p l = λ i. lies p.p0 l.0 i && lies p.p1 l.1 i && lies p.p2 l.2 i
lying_coordinates Cubic p l = λ i. lies p.p0 l.0 i && lies p.p1 l.1 i && lies p.p2 l.2 i && lies p.p3 l.3 i

pub reaching_near : (D : Degree) (W : ℕ) (p : Control D) → Reach D W p → are_near D W p ≡ true
unfolding are_near
reaching_near Quadratic W p v = λ i. size_neighbours W p.p0 p.p1 v.0 i && size_neighbours W p.p1 p.p2 v.1 i
reaching_near Cubic W p v = λ i.
    size_neighbours W p.p0 p.p1 v.0 i && size_neighbours W p.p1 p.p2 v.1 i && size_neighbours W p.p2 p.p3 v.2 i

-- within a larger reach too
reach_further : (D : Degree) {W W' : ℕ} → W ≤ W' → (p : Control D) → Reach D W p → Reach D W' p
reach_further Quadratic h p v = (size_by refl h v.0, size_by refl h v.1)
reach_further Cubic h p v = (size_by refl h v.0, size_by refl h v.1, size_by refl h v.2)

pub near_further : (D : Degree) {W W' : ℕ} → W ≤ W' → (p : Control D) → are_near D W p ≡ true → are_near D W' p ≡ true
near_further D {W} {W'} h p e = reaching_near D W' p (reach_further D h p (reaches D W p e))
