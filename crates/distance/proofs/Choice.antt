-- The operation that choosing names is never refused in a drawing that keeps the invariant, under any lawful limits.
use mathlib.Core.Path.{◌≡◌, sym, ap, ◌∙◌, subst}
use mathlib.Core.Bool.{true}
use Prim.Native.Nat.{ℕ, ◌-◌, ◌*◌, ◌%◌, ◌^◌, ◌<◌}
use borrow.Author.Tests.{lt-ltb, eq-eqb}
use Rattle.rules.specs.Refusals.{unless, refusal_or}
use Rattle.rules.specs.Rules.{are_limits}
use Rattle.operations.specs.Coordinates.{Coordinate}
use Rattle.operations.specs.Refusals.{gate, choice_refusal}
use Rattle.operations.proofs.Choice.{by_rules}
use Rattle.engine.specs.declared.Drawing.{Drawing}
use Rattle.coordinate.specs.Curve.{Curve}
use Rattle.coordinate.specs.Registers.{Operation}
use Rattle.engine.specs.Drawing.{of, turned, moved, called}
use Rattle.engine.specs.Choice.{chosen, says, refused_by, choice}
use Rattle.distance.specs.Calls.{ruled}
use Rattle.coordinate.proofs.Stands.{Bounded}
use Rattle.distance.proofs.Kept.{Kept, kept_inside, call_settled}

-- of any drawing before its end
pub chosen_ruled : (upper lower : ℕ) (d : Drawing) → d.q < 2 ^ d.finest → ruled d.finest (chosen upper lower d) d.level d.q ≡ 0
unfolding ruled
chosen_ruled upper lower d h =
    let F = d.finest in
    let end = lt-ltb d.q (2 ^ F) h in
    by_rules F upper lower d.level d.q (λ c. of c d) (λ (op : Operation). ruled F op d.level d.q ≡ 0)
    (λ w. let below = lt-ltb d.level F w.below in λ i. unless (end i) 5 (unless (below i) 6 0))
    (λ h w.
    let above = lt-ltb 0 d.level w.above in
    let even = eq-eqb (d.q % (2 * 2 ^ (F - d.level))) 0 w.even in
    λ i. unless (end i) 5 (unless (above i) 7 (unless (even i) 8 0)))
    (λ h g i. unless (end i) 5 0)

module _ (F : ℕ) (f : Coordinate → Curve) (d : Drawing) (k : Kept F f d) (upper lower : ℕ) where
  -- what is chosen before the end is allowed
  pub kept_chosen : d.q < 2 ^ F → ruled F (chosen upper lower d) d.level d.q ≡ 0
  kept_chosen h =
      subst (λ (G : ℕ). ruled G (chosen upper lower d) d.level d.q ≡ 0) k.finest
      (chosen_ruled upper lower d (subst (λ (G : ℕ). d.q < 2 ^ G) (sym k.finest) h))

  pub choice_answers : are_limits upper lower ≡ true → d.q < 2 ^ F → choice upper lower d ≡ says (chosen upper lower d)
  unfolding choice choice_refusal gate
  choice_answers l h =
      let inside = kept_inside F f d k in
      let end = lt-ltb d.q (2 ^ F) h in
      ap (λ (G : ℕ). refusal_or (choice_refusal G upper lower d.level d.q) refused_by (says (chosen upper lower d))) k.finest
      ∙ (λ i. refusal_or (unless (l i) 4 (unless (inside i) 10 (unless (end i) 5 0))) refused_by (says (chosen upper lower d)))

  pub chosen_accepted : ((c : Coordinate) → Bounded F (f c)) → d.q < 2 ^ F → called (chosen upper lower d) d ≡ record { refusal = 0; drawing = turned (chosen upper lower d) d }
  chosen_accepted fits h =
      let op = chosen upper lower d in
      call_settled F f fits d op k ∙ ap (λ (m : ℕ). moved m d (turned op d)) (kept_chosen h)
