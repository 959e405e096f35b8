-- What is tested of every coordinate holds of each, and the other way round; and what is given for each.
use mathlib.Core.Path.{◌≡◌, refl, ap₂}
use mathlib.Core.Bool.{Bool, true, ◌&&◌}
use Rattle.numbers.proofs.Tests.{and_three}
use Rattle.operations.specs.Coordinates.{Coordinate, in_x, in_y, in_width, pick, every}

pub every_true : (holds : Coordinate → Bool) → every holds ≡ true → (c : Coordinate) → holds c ≡ true
unfolding every
every_true holds e in_x = (and_three (holds in_x) (holds in_y) (holds in_width) e).0
every_true holds e in_y = (and_three (holds in_x) (holds in_y) (holds in_width) e).1
every_true holds e in_width = (and_three (holds in_x) (holds in_y) (holds in_width) e).2

pub true_every : (holds : Coordinate → Bool) → ((c : Coordinate) → holds c ≡ true) → every holds ≡ true
unfolding every
true_every holds h = ap₂ ◌&&◌ (ap₂ ◌&&◌ (h in_x) (h in_y)) (h in_width)

pub picked : {A : Type 0} (f : Coordinate → A) → pick (f in_x) (f in_y) (f in_width) ≡ f
picked {A} f = λ i c. same c i
  where
    same : (c : Coordinate) → pick (f in_x) (f in_y) (f in_width) c ≡ f c
    same in_x = refl
    same in_y = refl
    same in_width = refl
