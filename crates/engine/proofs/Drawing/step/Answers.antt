-- A refusal hands the drawing back; otherwise the coordinates are stepped and land, one stride on.
use mathlib.Core.Path.{◌≡◌, refl, sym, ap, ◌∙◌}
use Prim.Native.Nat.{ℕ, zero, suc, ◌+◌, ◌≤◌}
use native.Mathlib.Nat.{le_trans}
use native.Mathlib.Omega.{arith}
use lib.Pow.{pow_mono}
use Rattle.std.proofs.Common.{rules}
use Rattle.std.specs.Prelude.{Ok, Err}
use Rattle.rules.specs.Refusals.{first_of}
use Rattle.rules.proofs.Numbered.{number_positive}
use Rattle.coordinate.specs.Registers.{step}
use Rattle.operations.specs.Position.{stride}
use Rattle.operations.specs.Refusals.{gate, call_refusal}
use Rattle.operations.proofs.Gates.{opens}
use Rattle.operations.proofs.Stays.{step_within}
use Rattle.engine.specs.Moved.{answered}
use Rattle.engine.specs.Place.{Stands}
use Rattle.engine.proofs.Moved.{stood, stopped}
use Rattle.engine.proofs.Answers.{call_refused, call_lands}
use Rattle.engine.proofs.Drawing.step.Goals as goal
use Rattle.engine.proofs.Drawing.step.Goals.{In_ok-at}

-- a step has no refusal of its own
only_gate : (k : ℕ) → first_of k 0 ≡ k
only_gate zero = refl
only_gate (suc k) = refl

stands : (c : In_ok-at) → let d = c.args.self in Stands (gate d.finest d.level d.q) d.finest d.level d.q (Ok c.in_ok-at.at)
stands c = stood _ _ c.of.ensures c.map_err.ensures.cases c.map_err.ensures.variant c.in_ok-at.was

-- the next position is within the drawing
within : (c : In_ok-at) → let at = c.in_ok-at.at in at.q + stride at.finest at.level ≤ 4096
within c =
    let at = c.in_ok-at.at in
    let s = stands c in
    le_trans (step_within at.finest at.level at.q (rw s.1 (rw s.2 (rw s.3 (opens _ _ _ s.0))))) (pow_mono {j = 12} at.levels.0)

pub returns-in_err-at : goal.returns-in_err-at
unfolding call_refusal
returns-in_err-at c =
    let r = stopped _ c.map_err.ensures.variant c.in_err-at.was in
    let e : c.from_residual.result ≡ Err (record { refusal = r.0; drawing = c.args.self }) = search (rules, r.1) in
    ap answered e ∙ call_refused step c.args.self ((rw r.1 at c.of.ensures) ∙ sym (only_gate _)) (number_positive r.0)

pub overflow_add-at : goal.overflow_add-at
overflow_add-at c =
    let most = within (goal.at.overflow_add-at c).In_ok-at in
    omega (arith, c.stride.ensures, most)

pub returns : goal.returns
unfolding call_refusal
returns c =
    let s = stands (goal.at.returns c).In_ok-at in
    call_lands step _ c.in_ok-at.at _ _ _ _ _ (only_gate _ ∙ s.0, s.1, s.2, s.3) c.step_one-x.ensures c.step_one-y.ensures c.step_one-width.ensures
    (ap (λ (k : ℕ). c.in_ok-at.at.q + k) c.stride.ensures) c.land.ensures
