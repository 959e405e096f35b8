-- Every list of calls from an accepted start: the invariant holds of the drawing reached, and q is the sum of the steps taken.
use mathlib.Core.Path.{◌≡◌, refl, sym, ap, ◌∙◌, subst}
use mathlib.Core.Bool.{Bool, cond}
use mathlib.Core.List.{List, [], ◌∷◌, ◌++◌}
use Prim.Native.Nat.{ℕ, zero, suc, ◌+◌, ◌-◌, ◌*◌, ◌^◌, ◌≤◌}
use native.Mathlib.Nat.{add-zero, add_assoc, add-sub_of_le}
use native.Mathlib.Omega.{arith}
use lib.Dec.{eqb, eqb-suc-zero}
use lib.Pow.{pow-add}
use Rattle.rules.proofs.Laws.{Fine}
use Rattle.operations.specs.Coordinates.{Coordinate}
use Rattle.operations.specs.Position.{stride}
use Rattle.engine.specs.declared.Drawing.{Drawing}
use Rattle.engine.specs.Moved.{Moved}
use Rattle.coordinate.specs.Curve.{Curve}
use Rattle.coordinate.specs.Registers.{Operation, halve, double, step}
use Rattle.engine.specs.Drawing.{turned, moved, called}
use Rattle.coordinate.proofs.Turns.{start_on}
use Rattle.engine.specs.Start.{first_drawing}
use Rattle.engine.proofs.Each.{first-of}
use Rattle.distance.specs.Calls.{after, gain, travelled, ruled}
use Rattle.coordinate.proofs.Near.{scale}
use Rattle.coordinate.proofs.Stands.{Bounded}
use Rattle.distance.proofs.Kept.{Kept, kept_turned, call_settled}

-- ---- the start

pub first_kept : (F : ℕ) (f : Coordinate → Curve) (n : ℕ) → Fine F → n ≤ F → Kept F f (first_drawing F f n)
first_kept F f n fine l =
    let levels : n + (F - n) ≡ F = add-sub_of_le l in
    let G : 2 ^ F ≡ 2 ^ n * 2 ^ (F - n) = ap (λ (k : ℕ). 2 ^ k) (sym levels) ∙ pow-add 2 n (F - n) in
    record {
      fine = fine;
      finest = refl;
      below = F - n;
      levels = levels;
      on = λ c. rw (first-of F f n c) (start_on (2 ^ (16 - F)) (2 ^ F) (f c) n (F - n) (scale F (omega (arith, fine.most))) G);
    }

-- ---- one call and lists of calls

pub after_one : (ops : List Operation) (op : Operation) (d : Drawing) → after (ops ++ op ∷ []) d ≡ (called op (after ops d)).drawing
after_one [] op d = refl
after_one (o ∷ ops) op d = after_one ops op (called o d).drawing

module _ (F : ℕ) (f : Coordinate → Curve) (fits : (c : Coordinate) → Bounded F (f c)) where
  moved_kept : (k : ℕ) (old new : Drawing) → Kept F f old → (k ≡ 0 → Kept F f new) → Kept F f (moved k old new).drawing
  moved_kept zero old new h g = g refl
  moved_kept (suc k) old new h g = h

  call_kept : (d : Drawing) (op : Operation) → Kept F f d → Kept F f (called op d).drawing
  call_kept d op k =
      subst (λ (m : Moved). Kept F f m.drawing) (sym (call_settled F f fits d op k))
      (moved_kept (ruled F op d.level d.q) d (turned op d) k (kept_turned F f d op k))

  pub after_kept : (ops : List Operation) (d : Drawing) → Kept F f d → Kept F f (after ops d)
  after_kept [] d k = k
  after_kept (op ∷ ops) d k = after_kept ops (called op d).drawing (call_kept d op k)

  -- a call adds its gain to q
  moved_still : (k : ℕ) (old new : Drawing) → new.q ≡ old.q → (moved k old new).drawing.q ≡ old.q + 0
  moved_still zero old new e = e ∙ sym (add-zero old.q)
  moved_still (suc k) old new e = sym (add-zero old.q)

  moved_gain : (k s : ℕ) (old new : Drawing) → new.q ≡ old.q + s
      → (moved k old new).drawing.q ≡ old.q + cond (eqb (moved k old new).refusal 0) s 0
  moved_gain zero s old new e = e
  moved_gain (suc k) s old new e = sym (add-zero old.q) ∙ ap (λ (b : Bool). old.q + cond b s 0) (sym (eqb-suc-zero k))

  call_gain : (d : Drawing) (op : Operation) → Kept F f d → (called op d).drawing.q ≡ d.q + gain op d
  unfolding turned
  call_gain d halve k = rw (call_settled F f fits d halve k) (moved_still (ruled F halve d.level d.q) d (turned halve d) refl)
  call_gain d double k = rw (call_settled F f fits d double k) (moved_still (ruled F double d.level d.q) d (turned double d) refl)
  call_gain d step k = rw (call_settled F f fits d step k) (moved_gain (ruled F step d.level d.q) (stride d.finest d.level) d (turned step d) refl)

  pub after_travelled : (ops : List Operation) (d : Drawing) → Kept F f d → (after ops d).q ≡ d.q + travelled ops d
  after_travelled [] d k = sym (add-zero d.q)
  after_travelled (op ∷ ops) d k =
      after_travelled ops (called op d).drawing (call_kept d op k)
      ∙ ap (λ (t : ℕ). t + travelled ops (called op d).drawing) (call_gain d op k)
      ∙ add_assoc d.q (gain op d) (travelled ops (called op d).drawing)
