-- Each coordinate by itself: its own registers are started, turned and shown. And no call changes the finest level.
use mathlib.Core.Path.{◌≡◌, refl}
use Prim.Native.Nat.{ℕ, zero, suc}
use Rattle.rules.specs.Refusals.{first_of}
use Rattle.coordinate.specs.Curve.{Curve}
use Rattle.coordinate.specs.Registers.{Operation, start_registers, turn}
use Rattle.coordinate.specs.Shown.{pixel}
use Rattle.operations.specs.Coordinates.{Coordinate, in_x, in_y, in_width, pick}
use Rattle.operations.specs.Refusals.{call_refusal, registers_refusal}
use Rattle.engine.specs.declared.Drawing.{Drawing}
use Rattle.engine.specs.Drawing.{of, turned, moved, called}
use Rattle.engine.specs.Start.{first_drawing}
use Rattle.engine.specs.Shown.{point}

pub first-of : (F : ℕ) (f : Coordinate → Curve) (n : ℕ) (c : Coordinate) → of c (first_drawing F f n) ≡ start_registers n (f c)
first-of F f n in_x = refl
first-of F f n in_y = refl
first-of F f n in_width = refl

pub turned_of : (op : Operation) (d : Drawing) (c : Coordinate) → of c (turned op d) ≡ turn op d.level (of c d)
unfolding turned
turned_of op d in_x = refl
turned_of op d in_y = refl
turned_of op d in_width = refl

-- whatever the call is, refused or not
pub finest_stays : (op : Operation) (d : Drawing) → (called op d).drawing.finest ≡ d.finest
unfolding called turned
finest_stays op d = by_number (first_of (call_refusal d.finest op d.level d.q) (registers_refusal (λ c. of c (turned op d))))
  where
    by_number : (k : ℕ) → (moved k d (turned op d)).drawing.finest ≡ d.finest
    by_number zero = refl
    by_number (suc k) = refl

pub shown_of : (d : Drawing) (c : Coordinate) → pick (point d).x (point d).y (point d).width c ≡ pixel (of c d)
unfolding point
shown_of d in_x = refl
shown_of d in_y = refl
shown_of d in_width = refl
