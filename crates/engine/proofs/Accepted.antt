-- A start that is accepted.
use mathlib.Core.Path.{◌≡◌, refl, ap, ◌∙◌}
use mathlib.Core.Bool.{Bool, true}
use Prim.Native.Nat.{ℕ, ◌≤◌}
use borrow.Author.Tests.{leb-true}
use Rattle.rules.specs.declared.Degree.{Degree}
use Rattle.rules.specs.declared.Degree.TheVariants.{Quadratic, Cubic}
use Rattle.rules.specs.Rules.{is_finest, reach, is_level}
use Rattle.rules.proofs.Laws.{Fine, finest_holds}
use Rattle.rules.proofs.Refusals.{rule_kept, answers}
use Rattle.coordinate.specs.Control.{Control}
use Rattle.coordinate.specs.Points.{are_coordinates, are_near}
use Rattle.coordinate.specs.Curve.{curve}
use Rattle.coordinate.specs.Course.{first}
use Rattle.coordinate.specs.Registers.{start_registers}
use Rattle.coordinate.specs.Shown.{pixel}
use Rattle.coordinate.proofs.Ends.{first_shown}
use Rattle.operations.specs.Coordinates.{Coordinate, in_x, in_y, in_width}
use Rattle.operations.specs.Refusals.{begin_refusal, start_refusal}
use Rattle.operations.proofs.Every.{every_true}
use Rattle.engine.specs.Moved.{Moved}
use Rattle.engine.specs.Drawing.{refused}
use Rattle.engine.specs.Start.{nothing_drawn, first_drawing, started}
use Rattle.engine.specs.Shown.{point}

pub record Accepted (D : Degree) (F : ℕ) (p : Coordinate → Control D) (n : ℕ) : Type 0 where
  pub fine : Fine F
  pub coordinates : (c : Coordinate) → are_coordinates D (p c) ≡ true
  pub near : (c : Coordinate) → are_near D (reach D F) (p c) ≡ true
  pub level : n ≤ F

-- what the table lets through
pub begin_kept : (F : ℕ) (inside near : Bool) (n : ℕ) → begin_refusal F inside near n ≡ 0 → Fine F × (inside ≡ true) × (near ≡ true) × (n ≤ F)
unfolding begin_refusal is_level
begin_kept F inside near n e =
    let finest = rule_kept (is_finest F) 23 _ e in
    let points = rule_kept inside 0 _ finest.1 in
    let neighbours = rule_kept near 1 _ points.1 in
    let level = rule_kept (is_level F n) 2 0 neighbours.1 in
    (finest_holds F finest.0, points.0, neighbours.0, leb-true n F level.0)

pub accepted : (D : Degree) (F : ℕ) (p : Coordinate → Control D) (n : ℕ) → start_refusal D F p n ≡ 0 → Accepted D F p n
unfolding start_refusal
accepted D F p n e =
    let t = begin_kept F _ _ n e in
    record {
      fine = t.0;
      coordinates = every_true (λ c. are_coordinates D (p c)) t.1;
      near = every_true (λ c. are_near D (reach D F) (p c)) t.2;
      level = t.3;
    }

pub start_begins : (D : Degree) (F : ℕ) (p : Coordinate → Control D) (n : ℕ) → start_refusal D F p n ≡ 0
    → started D F p n ≡ record { refusal = 0; drawing = first_drawing F (λ c. curve D (p c)) n }
unfolding started
start_begins D F p n e = answers (refused nothing_drawn) _ e

-- its finest level is the one that was asked for
pub start_keeps_finest : (D : Degree) (F : ℕ) (p : Coordinate → Control D) (n : ℕ) → start_refusal D F p n ≡ 0 → (started D F p n).drawing.finest ≡ F
start_keeps_finest D F p n e = ap (λ (m : Moved). m.drawing.finest) (start_begins D F p n e)

-- the point shown of it is the first control point, in each coordinate
first_pixel : (D : Degree) (n : ℕ) (p : Control D) → pixel (start_registers n (curve D p)) ≡ first D p
unfolding start_registers curve
first_pixel Quadratic n p = first_shown (start_registers n (curve Quadratic p)) p.p0 refl
first_pixel Cubic n p = first_shown (start_registers n (curve Cubic p)) p.p0 refl

pub start_shows : (D : Degree) (F : ℕ) (p : Coordinate → Control D) (n : ℕ) → start_refusal D F p n ≡ 0
    → point (started D F p n).drawing ≡ record { x = first D (p in_x); y = first D (p in_y); width = first D (p in_width) }
unfolding point
start_shows D F p n e =
    ap (λ (m : Moved). point m.drawing) (start_begins D F p n e)
    ∙ (λ i. record { x = first_pixel D n (p in_x) i; y = first_pixel D n (p in_y) i; width = first_pixel D n (p in_width) i })
