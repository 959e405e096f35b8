-- A segment is its first operation and then the rest, and it ends because q has reached 2^F: the fuel never runs out.
use mathlib.Core.Path.{◌≡◌, refl, sym, ap, ◌∙◌, subst}
use mathlib.Core.Bool.{Bool, true, false}
use mathlib.Core.List.{List, [], ◌∷◌}
use Prim.Native.Nat.{ℕ, zero, suc, ◌^◌, ◌≤◌, ◌<◌}
use native.Mathlib.Nat.{le_refl, le-suc, le_of_lt, le_of_suc-le-suc, lt_of_lt_of_le, not-suc-le-zero}
use native.Mathlib.Omega.{arith}
use lib.Dec.{ltb}
use borrow.Author.Tests.{ltb-true, ltb-false, lt-ltb, le-ltb}
use Rattle.rules.specs.Refusals.{unless}
use Rattle.operations.specs.Position.{is_drawing}
use Rattle.operations.specs.Refusals.{gate, own_refusal, call_refusal}
use Rattle.operations.proofs.Gates.{inside}
use Rattle.operations.proofs.Stays.{stays}
use Rattle.engine.specs.declared.Drawing.{Drawing}
use Rattle.engine.specs.Drawing.{turned}
use Rattle.engine.specs.Choice.{chosen, left}
use Rattle.engine.proofs.Ends.{chosen_falls}
use Rattle.rules.proofs.Refusals.{first_on}
use Rattle.distance.proofs.Kept.{allowed}
use Rattle.distance.proofs.Choice.{chosen_ruled}
use Rattle.path.specs.Segment.{Turn, turn_at, next, turns_in, turns}

pub by_test : {X : Type 0} (b : Bool) → (b ≡ true → X) → (b ≡ false → X) → X
by_test true f g = f refl
by_test false f g = g refl

module _ (upper lower : ℕ) where
  -- the chosen operation leads to a drawing again
  next_inside : (d : Drawing) → is_drawing d.finest d.level d.q ≡ true → d.q < 2 ^ d.finest
      → is_drawing (next upper lower d).finest (next upper lower d).level (next upper lower d).q ≡ true
  unfolding turned call_refusal gate
  next_inside d i h =
      let op = chosen upper lower d in
      let through : gate d.finest d.level d.q ≡ 0 = λ k. unless (i k) 10 (unless (lt-ltb d.q (2 ^ d.finest) h k) 5 0) in
      stays d.finest op d.level d.q (first_on _ (own_refusal d.finest op d.level d.q) through ∙ (allowed d.finest op d.level d.q (chosen_ruled upper lower d h)).1)

  pub next_falls : (d : Drawing) → is_drawing d.finest d.level d.q ≡ true → d.q < 2 ^ d.finest → left upper (next upper lower d) < left upper d
  next_falls d i h = chosen_falls upper lower d (record { inside = inside d.finest d.level d.q i; before_end = h })

  -- ---- any fuel that is enough gives the same

  stops : (fuel : ℕ) (d : Drawing) → ltb d.q (2 ^ d.finest) ≡ false → turns_in upper lower fuel d ≡ []
  unfolding turns_in
  stops zero d e = refl
  stops (suc fuel) d e = rw e

  goes : (fuel : ℕ) (d : Drawing) → ltb d.q (2 ^ d.finest) ≡ true
      → turns_in upper lower (suc fuel) d ≡ turn_at upper lower d ∷ turns_in upper lower fuel (next upper lower d)
  unfolding turns_in
  goes fuel d e = rw e

  -- before the end there is fuel left
  fuelled : (fuel : ℕ) (d : Drawing) → is_drawing d.finest d.level d.q ≡ true → left upper d ≤ fuel → ltb d.q (2 ^ d.finest) ≡ true
      → left upper (next upper lower d) < fuel
  fuelled fuel d i h e = lt_of_lt_of_le (next_falls d i (ltb-true d.q (2 ^ d.finest) e)) h

  enough : (f g : ℕ) (d : Drawing) → is_drawing d.finest d.level d.q ≡ true → left upper d ≤ f → left upper d ≤ g
      → turns_in upper lower f d ≡ turns_in upper lower g d
  enough zero g d i hf hg =
      by_test (ltb d.q (2 ^ d.finest)) (λ e. absurd (not-suc-le-zero (fuelled zero d i hf e))) (λ e. stops zero d e ∙ sym (stops g d e))
  enough (suc f) zero d i hf hg =
      by_test (ltb d.q (2 ^ d.finest)) (λ e. absurd (not-suc-le-zero (fuelled zero d i hg e))) (λ e. stops (suc f) d e ∙ sym (stops zero d e))
  enough (suc f) (suc g) d i hf hg =
      by_test (ltb d.q (2 ^ d.finest))
      (λ e.
      let i' = next_inside d i (ltb-true d.q (2 ^ d.finest) e) in
      let hf' = le_of_suc-le-suc (fuelled (suc f) d i hf e) in
      let hg' = le_of_suc-le-suc (fuelled (suc g) d i hg e) in
      goes f d e ∙ ap (λ (ts : List Turn). turn_at upper lower d ∷ ts) (enough f g (next upper lower d) i' hf' hg') ∙ sym (goes g d e))
      (λ e. stops (suc f) d e ∙ sym (stops (suc g) d e))

  -- ---- a segment without fuel

  pub turns_end : (d : Drawing) → 2 ^ d.finest ≤ d.q → turns upper lower d ≡ []
  unfolding turns
  turns_end d h = stops (left upper d) d (le-ltb d.q (2 ^ d.finest) h)

  pub turns_more : (d : Drawing) → is_drawing d.finest d.level d.q ≡ true → d.q < 2 ^ d.finest
      → turns upper lower d ≡ turn_at upper lower d ∷ turns upper lower (next upper lower d)
  unfolding turns
  turns_more d i h =
      let m = left upper (next upper lower d) in
      enough (left upper d) (suc (left upper d)) d i (le_refl (left upper d)) (le-suc (left upper d))
      ∙ goes (left upper d) d (lt-ltb d.q (2 ^ d.finest) h)
      ∙ ap (λ (ts : List Turn). turn_at upper lower d ∷ ts)
      (enough (left upper d) m (next upper lower d) (next_inside d i h) (le_of_lt (next_falls d i h)) (le_refl m))

-- ---- along a segment

-- What holds at the end, and of each turn where it holds of the rest, holds of the whole segment. Q is kept by every chosen operation, and its
-- drawings have the finest level F.
module _ (F upper lower : ℕ) (Q : Drawing → Type 0)
    (same : (d : Drawing) → Q d → d.finest ≡ F)
    (lies : (d : Drawing) → Q d → is_drawing F d.level d.q ≡ true)
    (keeps : (d : Drawing) → Q d → d.q < 2 ^ F → Q (next upper lower d))
    (P : Drawing → List Turn → Type 0)
    (end : (d : Drawing) → Q d → d.q ≡ 2 ^ F → P d [])
    (more : (d : Drawing) → Q d → d.q < 2 ^ F → (ts : List Turn) → P (next upper lower d) ts → P d (turn_at upper lower d ∷ ts)) where
  ends_alike : (d : Drawing) → Q d → 2 ^ d.finest ≡ 2 ^ F
  ends_alike d k = ap (λ (G : ℕ). 2 ^ G) (same d k)

  lies_there : (d : Drawing) → Q d → is_drawing d.finest d.level d.q ≡ true
  lies_there d k = subst (λ (G : ℕ). is_drawing G d.level d.q ≡ true) (sym (same d k)) (lies d k)

  ended : (d : Drawing) → Q d → ltb d.q (2 ^ d.finest) ≡ false → P d (turns upper lower d)
  ended d k e =
      let h = ltb-false d.q (2 ^ d.finest) e in
      let l = (inside F d.level d.q (lies d k)).position in
      subst (P d) (sym (turns_end upper lower d h)) (end d k (omega (arith, ends_alike d k)))

  by_fuel : (fuel : ℕ) (d : Drawing) → Q d → left upper d ≤ fuel → P d (turns upper lower d)
  by_fuel zero d k h =
      by_test (ltb d.q (2 ^ d.finest)) (λ e. absurd (not-suc-le-zero (fuelled upper lower zero d (lies_there d k) h e))) (ended d k)
  by_fuel (suc fuel) d k h =
      by_test (ltb d.q (2 ^ d.finest))
      (λ e.
      let before = ltb-true d.q (2 ^ d.finest) e in
      let l : d.q < 2 ^ F = omega (arith, ends_alike d k) in
      let less = le_of_suc-le-suc (fuelled upper lower (suc fuel) d (lies_there d k) h e) in
      subst (P d) (sym (turns_more upper lower d (lies_there d k) before)) (more d k l _ (by_fuel fuel (next upper lower d) (keeps d k l) less)))
      (ended d k)

  pub along : (d : Drawing) → Q d → P d (turns upper lower d)
  along d k = by_fuel (left upper d) d k (le_refl (left upper d))
