-- What is not refused is given: a call's drawing, and the start by the control points of a segment, of either degree.
use mathlib.Core.Path.{◌≡◌, refl, sym, ap, ◌∙◌, subst}
use mathlib.Core.List.{List}
use Prim.Native.Nat.{ℕ, ◌+◌, ◌*◌, ◌≤◌, ◌<◌}
use native.Mathlib.Nat.{mul-le-mul_left}
use native.Mathlib.Omega.{arith}
use lib.IntN.{ℤ}
use lib.ListN.{length}
use Rattle.std.specs.Prelude.{Result, Ok, Err, IsOk}
use Rattle.rules.specs.declared.Degree.{Degree}
use Rattle.rules.specs.declared.Limits.{Limits}
use Rattle.rules.specs.Rules.{degree, coordinates, most_segments}
use Rattle.rules.proofs.Numbered.{number_positive}
use Rattle.coordinate.specs.Control.{Control}
use Rattle.operations.specs.Coordinates.{Coordinate, in_x, in_y, in_width, pick}
use Rattle.operations.specs.Refusals.{start_refusal}
use Rattle.operations.proofs.Every.{picked}
use Rattle.engine.specs.declared.Drawing.{Drawing}
use Rattle.engine.specs.declared.Refused.{Refused}
use Rattle.engine.specs.Moved.{Moved, answered}
use Rattle.engine.specs.Start.{started}
use Rattle.engine.proofs.Accepted.{start_begins}
use Rattle.path.specs.declared.Shape.{Shape}
use Rattle.path.specs.Path.{Path, path, path_refusal, controls, first}
use Rattle.path.proofs.Accepted.{accepted_lawful, point_inside, segment_accepted}
use Rattle.drawer.specs.Tally.{first_at}

pub is_given : (r : Result Drawing Refused) → (answered r).refusal ≡ 0 → IsOk r
is_given (Ok d) e = refl
is_given (Err k) e = absurd (number_positive k.refusal e)

pub given : {r : Result Drawing Refused} {d : Drawing} {m : Moved} → r ≡ Ok d → answered r ≡ m → record { refusal = 0; drawing = d } ≡ m
given e a = sym (ap answered e) ∙ a

-- read coordinate by coordinate, an accepted start begins as segment k does
module _ (D : Degree) (F : ℕ) (points : List ℤ) (level k : ℕ) where
  abbrev p : Coordinate → Control D
  p = controls D points k

  pub starts_first : (x y width : Control D) → x ≡ p in_x → y ≡ p in_y → width ≡ p in_width → start_refusal D F p level ≡ 0
      → started D F (pick x y width) level ≡ record { refusal = 0; drawing = first D F points level k }
  unfolding first
  starts_first x y width ex ey ew e =
      (λ i. started D F (pick (ex i) (ey i) (ew i)) level)
      ∙ ap (λ (p : Coordinate → Control D). started D F p level) (picked p)
      ∙ start_begins D F p level e

-- ---- an accepted path: it has a segment, and at most 64; the points of each are there, and the start of each begins as the path says

module _ (points : List ℤ) (shape : Shape) (limits : Limits) (e : path_refusal (path points shape limits) ≡ 0) where
  abbrev whole : Path
  whole = path points shape limits

  pub some_segment : 0 < shape.segments
  some_segment = (accepted_lawful whole e).some

  pub segments_few : shape.segments ≤ most_segments
  segments_few = (accepted_lawful whole e).most

  pub segment_inside : (D : Degree) → D ≡ shape.degree → (k : ℕ) → k < shape.segments → coordinates * (degree D * k + degree D + 1) ≤ length points
  segment_inside D d k h =
      let each = degree shape.degree in
      let last : each * k + each ≤ each * shape.segments = omega (arith, mul-le-mul_left each h) in
      rw d (omega (arith, point_inside (accepted_lawful whole e) 2 (each * k + each) (omega arith) last))

  pub segment_starts : (D : Degree) → D ≡ shape.degree → (k : ℕ) → k < shape.segments
      → (x y width : Control D) → x ≡ controls D points k in_x → y ≡ controls D points k in_y → width ≡ controls D points k in_width
      → started D shape.finest (pick x y width) shape.level ≡ record { refusal = 0; drawing = first_at whole k }
  segment_starts D d k h x y width ex ey ew =
      let kept = subst (λ (D : Degree). start_refusal D shape.finest (controls D points k) shape.level ≡ 0) (sym d) (segment_accepted whole e k h) in
      starts_first D shape.finest points shape.level k x y width ex ey ew kept
      ∙ ap (λ (D : Degree). record { refusal = 0; drawing = first D shape.finest points shape.level k }) d
