-- The numbers of an answer say which answer it is, and they are the answer's own.
use mathlib.Core.Path.{◌≡◌, refl, sym, ap, ap₂}
use Prim.Native.Nat.{ℕ}
use Rattle.std.specs.Prelude.{Result, Ok, Err}
use Rattle.rules.specs.declared.refused.Refusal.{Refusal}
use Rattle.rules.specs.Numbered.{number, refusal_of}
use Rattle.rules.proofs.Numbered.{number_positive, number_determines}
use Rattle.engine.specs.declared.Drawing.{Drawing}
use Rattle.engine.specs.declared.Refused.{Refused}
use Rattle.engine.specs.Moved.{answered as call_answered}
use Rattle.path.specs.declared.Totals.{Totals}
use Rattle.path.specs.Answer.{Drawn, answered}

pub answered_determines : (a b : Result Totals Refusal) → answered a ≡ answered b → a ≡ b
answered_determines (Ok s) (Ok t) e =
    ap₂ (λ (p g : ℕ). Ok (record { points = p; length = g })) (ap (λ (d : Drawn). d.points) e) (ap (λ (d : Drawn). d.length) e)
answered_determines (Ok s) (Err r) e = absurd (number_positive r (sym (ap (λ (d : Drawn). d.refusal) e)))
answered_determines (Err r) (Ok t) e = absurd (number_positive r (ap (λ (d : Drawn). d.refusal) e))
answered_determines (Err r) (Err k) e = ap Err (number_determines r k (ap (λ (d : Drawn). d.refusal) e))

-- the points are the points and the length is the length, and nothing is refused
pub totals_say : (t : Totals) → let d = answered (Ok t) in (d.refusal ≡ 0) × (d.points ≡ t.points) × (d.length ≡ t.length)
totals_say t = (refl, refl, refl)

-- a refusal says its number, and 0 for both
pub refusal_says : (r : Refusal) → let d = answered (Err r) in (d.refusal ≡ number r) × (d.points ≡ 0) × (d.length ≡ 0)
refusal_says r = (refl, refl, refl)

-- so does a call's, with the drawing that is handed back, and a test's
pub call_says : (r : Refused) → (call_answered (Err r)).refusal ≡ number r.refusal × ((call_answered (Err r)).drawing ≡ r.drawing)
call_says r = (refl, refl)

pub moved_says : (d : Drawing) → (call_answered (Ok d)).refusal ≡ 0 × ((call_answered (Ok d)).drawing ≡ d)
moved_says d = (refl, refl)

pub test_says : (r : Refusal) → refusal_of {A = Unit {0}} (Err r) ≡ number r
test_says r = refl
