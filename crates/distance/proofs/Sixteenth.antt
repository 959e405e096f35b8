-- Order 13: of every accepted cubic and start level at finest level 11, after every list of calls, refused ones included.
use mathlib.Core.Path.{◌≡◌, subst}
use mathlib.Core.List.{List}
use Prim.Native.Nat.{ℕ, ◌*◌, ◌^◌, ◌<◌}
use native.Mathlib.Omega.{arith}
use Rattle.rules.specs.declared.Degree.TheVariants.{Cubic}
use Rattle.coordinate.specs.Control.{Control}
use Rattle.coordinate.specs.Curve.{Curve, curve, off}
use Rattle.coordinate.specs.Course.{Course, course}
use Rattle.coordinate.specs.Registers.{Operation}
use Rattle.coordinate.proofs.Stands as coordinate
use Rattle.operations.specs.Coordinates.{Coordinate, in_x, in_y, in_width}
use Rattle.operations.specs.Refusals.{start_refusal}
use Rattle.engine.specs.declared.Drawing.{Drawing}
use Rattle.engine.specs.Drawing.{of}
use Rattle.engine.specs.Start.{started}
use Rattle.distance.specs.Calls.{after, travelled}
use Rattle.distance.specs.Demand3.{Demand3}
use Rattle.distance.specs.Sixteenth.{Sixteenth}
use Rattle.distance.proofs.Demand3.{demand_3}

-- wherever demand 3 holds at F = 11
pub sixteenth_of : (p : Coordinate → Course) (d : Drawing) (along : ℕ) → Demand3 11 p d along → Sixteenth (λ c. (p c).curve) d along
sixteenth_of p d along t =
    let near : (c : Coordinate) → off 11 (p c).curve along (of c d).d < 4096 * 2 ^ 33 =
    λ c. subst (λ (q : ℕ). off 11 (p c).curve q (of c d).d < 4096 * 2 ^ 33) t.parameter (coordinate.sixteenth (p c) d.q (of c d) (t.stands c)) in
    record { parameter = t.parameter; x = near in_x; y = near in_y; width = near in_width }

pub sixteenth : (p : Coordinate → Control Cubic) (n : ℕ) → start_refusal Cubic 11 p n ≡ 0 → (ops : List Operation)
    → let d = (started Cubic 11 p n).drawing in Sixteenth (λ c. curve Cubic (p c)) (after ops d) (travelled ops d)
sixteenth p n e ops = sixteenth_of (λ c. course Cubic (p c)) _ _ (demand_3 Cubic 11 p n e ops)

-- of each coordinate, sixteen times the distance is less than a unit
pub sixteen_times : (f : Coordinate → Curve) (d : Drawing) (along : ℕ) → Sixteenth f d along → (c : Coordinate)
    → 16 * off 11 (f c) along (of c d).d < 65536 * 2 ^ 33
sixteen_times f d along s in_x = omega arith
sixteen_times f d along s in_y = omega arith
sixteen_times f d along s in_width = omega arith
