-- A start by its checked coordinates is the start of its control points, of either degree; and their coefficients are small.
use mathlib.Core.Path.{◌≡◌, refl, sym, ap, ◌∙◌}
use mathlib.Core.Bool.{Bool, true, false, cond, ◌&&◌}
use Prim.Native.Nat.{ℕ, zero, suc, ◌≤◌}
use lib.Dec.{lit≤}
use Rattle.numbers.proofs.Tests.{and_true}
use Rattle.rules.specs.declared.Degree.{Degree}
use Rattle.rules.specs.Rules.{most_reach, reach}
use Rattle.coordinate.specs.Control.{Control}
use Rattle.coordinate.specs.Curve.{curve, Mild}
use Rattle.coordinate.specs.Points.{are_coordinates, are_near}
use Rattle.coordinate.proofs.Points.{extent, reaches, near_further}
use Rattle.coordinate.proofs.Coefficients.{mild}
use Rattle.operations.specs.Coordinates.{Coordinate, pick}
use Rattle.operations.proofs.Every.{picked}
use Rattle.operations.specs.Refusals.{start_refusal}
use Rattle.engine.specs.declared.Drawing.{Drawing}
use Rattle.engine.specs.Moved.{Moved}
use Rattle.engine.specs.declared.curve.Coefficients.{Coefficients}
use Rattle.engine.specs.declared.starting.Checked.{Checked}
use Rattle.engine.specs.Drawing.{moved}
use Rattle.engine.specs.Start.{nothing_drawn, first_drawing, started}
use Rattle.engine.specs.Coefficients.{curve_of, coefficients, no_curve}
use Rattle.engine.specs.Checked.{checked, begun}
use Rattle.engine.proofs.Accepted.{accepted}

module _ (D : Degree) (W : ℕ) (p : Control D) where
  abbrev kept : Bool
  kept = are_coordinates D p && are_near D W p

  -- whether or not it keeps its rules
  pub checked_mild : {k : Checked} → k ≡ checked D W p → W ≤ most_reach D → Mild (curve_of k.curve)
  unfolding checked
  checked_mild e h = rw e (by_test kept refl)
    where
      by_test : (b : Bool) → kept ≡ b → Mild (curve_of (cond b (coefficients (curve D p)) no_curve))
      by_test true e =
          let t = and_true (are_coordinates D p) (are_near D W p) e in
          mild D p (extent D p t.0) (reaches D (most_reach D) p (near_further D h p t.1))
      by_test false e = record { A = lit≤ tt; B = lit≤ tt; C = lit≤ tt; D = lit≤ tt }

  -- as it is checked: its tests, and its coefficients or none
  module _ (inside near : Bool) (f : Coefficients) (e : inside ≡ are_coordinates D p) (g : near ≡ are_near D W p) where
    pub kept_checked : inside && near ≡ true → curve_of f ≡ curve D p → record { inside = inside; near = near; curve = f } ≡ checked D W p
    unfolding checked
    kept_checked t h =
        let all : kept ≡ true = (λ i. sym e i && sym g i) ∙ t in
        let its : f ≡ cond kept (coefficients (curve D p)) no_curve = ap coefficients h ∙ ap (λ (b : Bool). cond b (coefficients (curve D p)) no_curve) (sym all) in
        λ i. record { inside = e i; near = g i; curve = its i }

    pub broken_checked : inside && near ≡ false → f ≡ no_curve → record { inside = inside; near = near; curve = f } ≡ checked D W p
    unfolding checked
    broken_checked t h =
        let some : kept ≡ false = (λ i. sym e i && sym g i) ∙ t in
        let its : f ≡ cond kept (coefficients (curve D p)) no_curve = h ∙ ap (λ (b : Bool). cond b (coefficients (curve D p)) no_curve) (sym some) in
        λ i. record { inside = e i; near = g i; curve = its i }

  checked_curve : are_coordinates D p ≡ true → are_near D W p ≡ true → curve_of (checked D W p).curve ≡ curve D p
  unfolding checked
  checked_curve e f = λ i. curve_of (cond (e i && f i) (coefficients (curve D p)) no_curve)

-- a refusal gives the same whatever would have been drawn
moved_same : (k : ℕ) (old new new' : Drawing) → (k ≡ 0 → new ≡ new') → moved k old new ≡ moved k old new'
moved_same zero old new new' h = λ i. record { refusal = 0; drawing = h refl i }
moved_same (suc k) old new new' h = refl

pub begun_started : (D : Degree) (F : ℕ) (p : Coordinate → Control D) (n : ℕ) → begun F (λ c. checked D (reach D F) (p c)) n ≡ started D F p n
unfolding begun checked started start_refusal
begun_started D F p n = moved_same (start_refusal D F p n) nothing_drawn _ _ same
  where
    same : start_refusal D F p n ≡ 0 → first_drawing F (λ c. curve_of (checked D (reach D F) (p c)).curve) n ≡ first_drawing F (λ c. curve D (p c)) n
    same e =
        let a = accepted D F p n e in
        λ i. first_drawing F (λ c. checked_curve D (reach D F) (p c) (a.coordinates c) (a.near c) i) n

-- coordinate by coordinate, as the code checks them
pub start_by : (D : Degree) (F : ℕ) (x y width : Control D) (n W : ℕ) {cx cy cw : Checked} {m : Moved} → W ≡ reach D F
    → cx ≡ checked D W x → cy ≡ checked D W y → cw ≡ checked D W width → m ≡ begun F (pick cx cy cw) n → m ≡ started D F (pick x y width) n
start_by D F x y width n W w ex ey ew em =
    em
    ∙ (λ i. begun F (pick (ex i) (ey i) (ew i)) n)
    ∙ (λ i. begun F (pick (checked D (w i) x) (checked D (w i) y) (checked D (w i) width)) n)
    ∙ ap (λ (p : Coordinate → Checked). begun F p n) (picked (λ c. checked D (reach D F) (pick x y width c)))
    ∙ begun_started D F (pick x y width) n
