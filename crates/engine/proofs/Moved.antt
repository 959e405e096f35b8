-- What `?` hands on of a place or a refusal after `map_err`; and a call's answer is determined by its numbers.
use mathlib.Core.Path.{◌≡◌, refl, sym, ap, subst, ◌∙◌}
use mathlib.Core.Bool.{true≢false}
use Prim.Native.Nat.{ℕ}
use Rattle.std.specs.Prelude.{Result, Ok, Err, is_ok, MatchResult}
use Rattle.rules.specs.declared.refused.Refusal.{Refusal}
use Rattle.rules.proofs.Numbered.{number_positive, number_determines}
use Rattle.engine.specs.declared.Drawing.{Drawing}
use Rattle.engine.specs.declared.Refused.{Refused}
use Rattle.engine.specs.declared.place.Place.{Place}
use Rattle.engine.specs.Moved.{Moved, answered}
use Rattle.engine.specs.Place.{Stands}

-- what is handed on where nothing was refused is the place that was answered
pub stood : {E : Type 0} {k F n q : ℕ} (r : Result Place Refusal) (Q : Refusal → Type 0) {m : Result Place E} {at : Place} → Stands k F n q r
    → MatchResult r (λ p. m ≡ Ok p) Q → is_ok m ≡ is_ok r → m ≡ Ok at → Stands k F n q (Ok at)
stood {k = k} {F = F} {n = n} {q = q} (Ok p) Q s same e f = subst (λ (x : Place). Stands k F n q (Ok x)) (ap (kept p) (sym same ∙ f)) s
  where
    kept : {E : Type 0} → Place → Result Place E → Place
    kept p (Ok x) = x
    kept p (Err e) = p
stood (Err r) Q s same e f = absurd (true≢false (sym (ap is_ok f) ∙ e))

-- and what was refused
pub stopped : {A E : Type 0} (r : Result A Refusal) {m : Result A E} {x : E} → is_ok m ≡ is_ok r → m ≡ Err x → (s : Refusal) × (r ≡ Err s)
stopped (Ok y) e f = absurd (true≢false (sym e ∙ ap is_ok f))
stopped (Err s) e f = (s, refl)

pub answered_determines : (a b : Result Drawing Refused) → answered a ≡ answered b → a ≡ b
answered_determines (Ok d) (Ok d') e = ap (λ (m : Moved). Ok m.drawing) e
answered_determines (Ok d) (Err s) e = absurd (number_positive s.refusal (sym (ap (λ (m : Moved). m.refusal) e)))
answered_determines (Err r) (Ok d) e = absurd (number_positive r.refusal (ap (λ (m : Moved). m.refusal) e))
answered_determines (Err r) (Err s) e =
    let refusal = number_determines r.refusal s.refusal (ap (λ (m : Moved). m.refusal) e) in
    let drawing = ap (λ (m : Moved). m.drawing) e in
    λ i. Err (record { refusal = refusal i; drawing = drawing i })
