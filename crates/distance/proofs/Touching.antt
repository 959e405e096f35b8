-- Where the upper limit does not ask to halve, a step moves the pixel shown by at most 1 in x and in y. The width may move further.
use Prim.Native.Nat.{ℕ, ◌^◌, ◌≤◌, ◌<◌}
use lib.IntN.{nat_abs, ◌-ℤ◌}
use Rattle.coordinate.specs.Course.{Course}
use Rattle.coordinate.specs.Registers.{step, turn}
use Rattle.coordinate.specs.Shown.{pixel}
use Rattle.coordinate.proofs.Sizes.{Tame}
use Rattle.coordinate.proofs.Touching as coordinate
use Rattle.operations.specs.Coordinates.{Coordinate, OfPixel}
use Rattle.operations.specs.ThreeRules.{Rule1}
use Rattle.operations.proofs.Choice.{limited}
use Rattle.engine.specs.declared.Drawing.{Drawing}
use Rattle.engine.specs.Drawing.{of}
use Rattle.distance.proofs.Kept.{Kept}

pub touches : (F upper : ℕ) (p : Coordinate → Course) (d : Drawing) → F ≤ 16 → 2 ≤ 2 ^ F → ((c : Coordinate) → Tame F (p c))
    → Kept F (λ c. (p c).curve) d → upper ≤ 65536 → (Rule1 F upper d.level (λ c. of c d) → ⊥) → d.q < 2 ^ F
    → (c : Coordinate) → OfPixel c → nat_abs (pixel (turn step d.level (of c d)) -ℤ pixel (of c d)) ≤ 1
touches F upper p d h two t k u e l c x-or-y =
    coordinate.touches F (p c) h two (t c) d.level d.q (of c d) l upper k.below u k.levels (λ b. limited F upper d.level (λ c. of c d) e b c x-or-y) (k.on c)
