-- Halve and double undo one another: wherever the first is accepted so is the second, and the drawing comes back whole.
use mathlib.Core.Path.{◌≡◌, sym, ap, ap₂, ◌∙◌}
use Prim.Native.Nat.{ℕ, zero, suc, ◌+◌, ◌-◌, ◌*◌, ◌%◌, ◌^◌, ◌≤◌, ◌<◌}
use native.Mathlib.Nat.{mul-mod_left}
use native.Mathlib.Numerals.{add-one}
use native.Mathlib.Omega.{arith}
use lib.Dec.{ltb}
use lib.IntN.{pos}
use borrow.Author.Tests.{lt-ltb, eq-eqb, ltb-true}
use Rattle.rules.specs.Refusals.{unless}
use Rattle.rules.proofs.Refusals.{rule_kept}
use Rattle.coordinate.specs.declared.Registers.{Registers}
use Rattle.operations.specs.Coordinates.{Coordinate, in_x, in_y, in_width}
use Rattle.operations.specs.Position.{stride, is_aligned}
use Rattle.operations.proofs.Stays.{two_finer}
use Rattle.engine.specs.declared.Drawing.{Drawing}
use Rattle.engine.specs.Moved.{Moved}
use Rattle.coordinate.specs.Curve.{Curve}
use Rattle.coordinate.specs.Registers.{halve, double, turn}
use Rattle.engine.specs.Drawing.{turned, moved, called, of}
use Rattle.coordinate.proofs.Exact.{alpha}
use Rattle.coordinate.proofs.Refined.{alpha_twice, two_steps}
use Rattle.coordinate.proofs.Back.{halve_after_double, double_after_halve}
use Rattle.distance.specs.Calls.{ruled}
use Rattle.coordinate.proofs.Near.{At}
use Rattle.coordinate.proofs.Stands.{Bounded}
use Rattle.distance.proofs.Kept.{Kept, stride_below, allowed, less_one, kept_turned, call_settled}

-- ---- one coordinate

double_halved : (F : ℕ) (f : Curve) (n j q : ℕ) (r : Registers) → n + j ≡ F → n < F → At F f n j q r → turn double (n + 1) (turn halve n r) ≡ r
double_halved F f n zero q r e h o = let no : ⊥ = omega arith in absurd no
double_halved F f n (suc j) q r e h o =
    let κ = pos (2 ^ (16 - F)) in
    ap (λ (m : ℕ). turn double m (turn halve n r)) (add-one n)
    ∙ double_after_halve n r (alpha κ f.A (pos (2 ^ j))) (o.exact.a ∙ alpha_twice κ f.A (pos (2 ^ j)) (pos (2 ^ suc j)) (two_steps j))

halve_doubled : (n : ℕ) (r : Registers) → 0 < n → turn halve (n - 1) (turn double n r) ≡ r
halve_doubled zero r h = let no : ⊥ = omega arith in absurd no
halve_doubled (suc n) r h = ap (λ (m : ℕ). turn halve m (turn double (suc n) r)) (less_one n) ∙ halve_after_double n r

-- ---- level and q of the second call

double_allowed : (F n j q m : ℕ) → n + j ≡ F → n < F → q < 2 ^ F → q ≡ m * 2 ^ j → ruled F double (n + 1) q ≡ 0
unfolding ruled is_aligned
double_allowed F n j q m e h before w =
    let end = lt-ltb q (2 ^ F) before in
    let above = lt-ltb 0 (n + 1) (omega arith) in
    let strides : 2 * stride F (n + 1) ≡ 2 ^ j = sym (two_finer F n h) ∙ stride_below F n j e in
    let even = eq-eqb (q % (2 * stride F (n + 1))) 0 (ap₂ (λ (u v : ℕ). u % v) w strides ∙ mul-mod_left m (2 ^ j)) in
    λ i. unless (end i) 5 (unless (above i) 7 (unless (even i) 8 0))

halve_allowed : (F n q : ℕ) → 0 < n → n ≤ F → q < 2 ^ F → ruled F halve (n - 1) q ≡ 0
unfolding ruled
halve_allowed F n q h k before =
    let end = lt-ltb q (2 ^ F) before in
    let below = lt-ltb (n - 1) F (omega arith) in
    λ i. unless (end i) 5 (unless (below i) 6 0)

-- ---- the drawing

module _ (F : ℕ) (f : Coordinate → Curve) (fits : (c : Coordinate) → Bounded F (f c)) (d : Drawing) (k : Kept F f d) where
  pub double_undoes_halve : ruled F halve d.level d.q ≡ 0 → called double (called halve d).drawing ≡ record { refusal = 0; drawing = d }
  unfolding turned
  double_undoes_halve e =
      let n = d.level in
      let before = (allowed F halve n d.q e).0 in
      let h = ltb-true n F (rule_kept (ltb n F) 5 0 (allowed F halve n d.q e).1).0 in
      let first : called halve d ≡ record { refusal = 0; drawing = turned halve d } =
      call_settled F f fits d halve k ∙ ap (λ (m : ℕ). moved m d (turned halve d)) e in
      let again : called double (turned halve d) ≡ record { refusal = 0; drawing = turned double (turned halve d) } =
      call_settled F f fits (turned halve d) double (kept_turned F f d halve k e)
      ∙ ap (λ (m : ℕ). moved m (turned halve d) (turned double (turned halve d))) (double_allowed F n k.below d.q (k.on in_x).strides k.levels h before (k.on in_x).whole) in
      let level : n + 1 - 1 ≡ n = omega arith in
      let same : (c : Coordinate) → turn double (n + 1) (turn halve n (of c d)) ≡ of c d = λ c. double_halved F (f c) n k.below d.q (of c d) k.levels h (k.on c) in
      ap (λ (m : Moved). called double m.drawing) first
      ∙ again
      ∙ (λ i. record { refusal = 0; drawing = record { finest = d.finest; level = level i; q = d.q; x = same in_x i; y = same in_y i; width = same in_width i } })

  pub halve_undoes_double : ruled F double d.level d.q ≡ 0 → called halve (called double d).drawing ≡ record { refusal = 0; drawing = d }
  unfolding turned
  halve_undoes_double e =
      let n = d.level in
      let before = (allowed F double n d.q e).0 in
      let h = ltb-true 0 n (rule_kept (ltb 0 n) 6 (unless (is_aligned F n d.q) 8 0) (allowed F double n d.q e).1).0 in
      let first : called double d ≡ record { refusal = 0; drawing = turned double d } =
      call_settled F f fits d double k ∙ ap (λ (m : ℕ). moved m d (turned double d)) e in
      let again : called halve (turned double d) ≡ record { refusal = 0; drawing = turned halve (turned double d) } =
      call_settled F f fits (turned double d) halve (kept_turned F f d double k e)
      ∙ ap (λ (m : ℕ). moved m (turned double d) (turned halve (turned double d))) (halve_allowed F n d.q h (omega (arith, k.levels)) before) in
      let level : n - 1 + 1 ≡ n = omega arith in
      let same : (c : Coordinate) → turn halve (n - 1) (turn double n (of c d)) ≡ of c d = λ c. halve_doubled n (of c d) h in
      ap (λ (m : Moved). called halve m.drawing) first
      ∙ again
      ∙ (λ i. record { refusal = 0; drawing = record { finest = d.finest; level = level i; q = d.q; x = same in_x i; y = same in_y i; width = same in_width i } })
