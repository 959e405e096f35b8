-- The exact registers of a cubic by the differences of neighbouring control points, which are at most W apart.
use mathlib.Core.Path.{◌≡◌, refl, sym, ap, ◌∙◌, subst}
use Prim.Native.Nat.{ℕ, suc, ◌+◌, ◌*◌, ◌-◌, ◌^◌, ◌≤◌, ◌<◌}
use native.Mathlib.Nat.{mul-le-mul, mul-le-mul_left, mul-le-mul_right, le_of_eq, le_trans, add-sub_of_le}
use native.Mathlib.Omega.{arith}
use lib.IntN.{pos, ◌+ℤ◌, ◌-ℤ◌, ◌*ℤ◌}
use Rattle.numbers.proofs.Multiples.{cube}
use Rattle.numbers.proofs.Ring.{Ex, #, ◌:+◌, ◌:-◌, ◌:*◌, ring}
use Rattle.numbers.proofs.Size.{Size, size_of, size_by, size_sum, size_product, size_apart}
use Rattle.rules.specs.declared.Degree.TheVariants.{Cubic}
use Rattle.coordinate.specs.Control.{Control}
use Rattle.coordinate.specs.Curve.{curve, exact}
use Rattle.coordinate.proofs.Points.{Extent, Reach}
use Rattle.coordinate.proofs.Coefficients.{third_e, second_e, first_e}
use Rattle.coordinate.proofs.Exact.{alpha_of, beta_of, chord_of, alpha_e, beta_e, chord_e}
use Rattle.coordinate.proofs.Bernstein.{cubic_bernstein}

-- ---- the exact registers as sums of differences

alpha_sum : (κ s : ℕ) (p : Control Cubic)
    → alpha_of κ (curve Cubic p) s ≡ pos (κ * s * 6) *ℤ ((p.p3 -ℤ p.p2) +ℤ (pos 0 -ℤ pos 2) *ℤ (p.p2 -ℤ p.p1) +ℤ (p.p1 -ℤ p.p0))
unfolding curve
alpha_sum κ s p =
    ring 6 (λ κ s p0 p1 p2 p3. (
      alpha_e κ (third_e p0 p1 p2 p3) s,
      κ :* s :* # 6 :* ((p3 :- p2) :+ (# 0 :- # 2) :* (p2 :- p1) :+ (p1 :- p0)),
    )) tt (pos κ) (pos s) p.p0 p.p1 p.p2 p.p3

beta_sum : (κ G s q : ℕ) (p : Control Cubic)
    → beta_of κ G (curve Cubic p) s q
    ≡ pos (κ * 6) *ℤ (pos (q + s) *ℤ (p.p3 -ℤ p.p2) +ℤ (pos G -ℤ pos (2 * (q + s))) *ℤ (p.p2 -ℤ p.p1) +ℤ (pos (q + s) -ℤ pos G) *ℤ (p.p1 -ℤ p.p0))
unfolding curve
beta_sum κ G s q p =
    ring 8 (λ κ G s q p0 p1 p2 p3. (
      beta_e κ G (third_e p0 p1 p2 p3) (second_e p0 p1 p2) s q,
      κ :* # 6 :* ((q :+ s) :* (p3 :- p2) :+ (G :- # 2 :* (q :+ s)) :* (p2 :- p1) :+ ((q :+ s) :- G) :* (p1 :- p0)),
    )) tt (pos κ) (pos G) (pos s) (pos q) p.p0 p.p1 p.p2 p.p3

-- the weight of the last difference in G²·c is `ahead`; `span` is 3·G·(2q + s)
abbrev ahead : ℕ → ℕ → ℕ
ahead q s = 3 * q * q + 3 * q * s + s * s

abbrev span : ℕ → ℕ → ℕ → ℕ
span G q s = 3 * G * (2 * q + s)

abbrev ahead_e : Ex → Ex → Ex
ahead_e q s = # 3 :* q :* q :+ # 3 :* q :* s :+ s :* s

abbrev span_e : Ex → Ex → Ex → Ex
span_e G q s = # 3 :* G :* (# 2 :* q :+ s)

chord_sum : (κ G s q : ℕ) (p : Control Cubic)
    → chord_of κ G (curve Cubic p) s q
    ≡ pos (κ * G) *ℤ (pos (ahead q s) *ℤ (p.p3 -ℤ p.p2) +ℤ (pos (span G q s) -ℤ pos (2 * ahead q s)) *ℤ (p.p2 -ℤ p.p1) +ℤ (pos (ahead q s + 3 * G * G) -ℤ pos (span G q s)) *ℤ (p.p1 -ℤ p.p0))
unfolding curve
chord_sum κ G s q p =
    ring 8 (λ κ G s q p0 p1 p2 p3. (
      chord_e κ G (third_e p0 p1 p2 p3) (second_e p0 p1 p2) (first_e p0 p1) s q,
      κ :* G :* (ahead_e q s :* (p3 :- p2) :+ (span_e G q s :- # 2 :* ahead_e q s) :* (p2 :- p1) :+ (ahead_e q s :+ # 3 :* G :* G :- span_e G q s) :* (p1 :- p0)),
    )) tt (pos κ) (pos G) (pos s) (pos q) p.p0 p.p1 p.p2 p.p3

-- ---- their sizes

module _ (κ G W : ℕ) (p : Control Cubic) (v : Reach Cubic W p) where
  pub alpha_size : (s : ℕ) → s ≤ G → Size (alpha_of κ (curve Cubic p) s) (κ * G * (24 * W))
  alpha_size s h =
      size_by (alpha_sum κ s p) (omega (arith, mul-le-mul_right W (mul-le-mul_left κ h)))
      (size_product (size_of (κ * s * 6)) (size_sum (size_sum v.2 (size_product (size_apart {a = 0} {b = 2} {m = 2} (omega arith) (omega arith)) v.1)) v.0))

  pub beta_size : (s q : ℕ) → s ≤ G → q ≤ G → Size (beta_of κ G (curve Cubic p) s q) (κ * G * (36 * W))
  beta_size s q h k =
      let w3 = size_product (size_by refl (sum_most s q h k) (size_of (q + s))) v.2 in
      let w2 = size_product (size_apart {a = G} {b = 2 * (q + s)} {m = 3 * G} (omega arith) (omega arith)) v.1 in
      let w1 = size_product (size_apart {a = q + s} {b = G} {m = G} (omega arith) (omega arith)) v.0 in
      size_by (beta_sum κ G s q p) (omega arith) (size_product (size_of (κ * 6)) (size_sum (size_sum w3 w2) w1))
    where
      sum_most : (s q : ℕ) → s ≤ G → q ≤ G → q + s ≤ 2 * G
      sum_most s q h k = omega arith

  pub chord_size : (s q : ℕ) → s ≤ G → q ≤ G
      → Size (chord_of κ G (curve Cubic p) s q) (κ * G * (31 * W) * (G * G))
  chord_size s q h k =
      let qq = mul-le-mul k k in
      let qs = mul-le-mul k h in
      let ss = mul-le-mul h h in
      let Gq = mul-le-mul_left G k in
      let Gs = mul-le-mul_left G h in
      let most : ahead q s ≤ 7 * (G * G) = omega arith in
      let w3 = size_product (size_by refl most (size_of (ahead q s))) v.2 in
      let w2 = size_product (size_apart {a = span G q s} {b = 2 * ahead q s} {m = 14 * (G * G)} (omega arith) (omega arith)) v.1 in
      let w1 = size_product (size_apart {a = ahead q s + 3 * G * G} {b = span G q s} {m = 10 * (G * G)} (omega arith) (omega arith)) v.0 in
      size_by (chord_sum κ G s q p) (total (κ * G) (G * G)) (size_product (size_of (κ * G)) (size_sum (size_sum w3 w2) w1))
    where
      total : (K S : ℕ) → K * (7 * S * W + 14 * S * W + 10 * S * W) ≤ K * (31 * W) * S
      total K S = omega arith

-- at the finest level, before the end, the three weights are from 0 on and add up to 3·G²
pub finest_size : (κ G W q : ℕ) (p : Control Cubic) → q < G → Reach Cubic W p → Size (chord_of κ G (curve Cubic p) 1 q) (κ * G * (3 * W) * (G * G))
finest_size κ G W q p h v =
    subst (λ (g : ℕ). Size (chord_of κ g (curve Cubic p) 1 q) (κ * g * (3 * W) * (g * g))) (add-sub_of_le h) (by_weights (G - suc q))
  where
    -- t steps are left after the next one
    by_weights : (t : ℕ) → Size (chord_of κ (suc q + t) (curve Cubic p) 1 q) (κ * (suc q + t) * (3 * W) * ((suc q + t) * (suc q + t)))
    by_weights t =
        let g = suc q + t in
        let w3 = size_product (size_of (ahead q 1)) v.2 in
        let w2 = size_product (size_apart {a = span g q 1} {b = 2 * ahead q 1} {m = 6 * q * t + 3 * q + 3 * t + 1} (omega arith) (omega arith)) v.1 in
        let w1 = size_product (size_apart {a = ahead q 1 + 3 * g * g} {b = span g q 1} {m = ahead t 1} (omega arith) (omega arith)) v.0 in
        size_by (chord_sum κ g 1 q p) (omega arith) (size_product (size_of (κ * g)) (size_sum (size_sum w3 w2) w1))

-- the mean of the points
module _ (F H : ℕ) (p : Control Cubic) (e : Extent Cubic H p) where
  weights : (q t : ℕ) → t * t * t * H + 3 * (t * t * q) * H + 3 * (t * q * q) * H + q * q * q * H ≤ H * ((q + t) * (q + t) * (q + t))
  weights q t = omega arith

  pub exact_size : (q : ℕ) → q ≤ 2 ^ F → Size (exact F (curve Cubic p) q) (H * 2 ^ (3 * F))
  exact_size q h =
      let t = 2 ^ F - q in
      let whole : q + t ≡ 2 ^ F = add-sub_of_le h in
      size_by (cubic_bernstein F p q t whole)
      (le_trans (weights q t) (le_of_eq (ap (λ (g : ℕ). H * (g * g * g)) whole ∙ ap (λ (g : ℕ). H * g) (sym (cube F)))))
      (size_sum (size_sum (size_sum (size_product (size_of (t * t * t)) e.0) (size_product (size_of (3 * (t * t * q))) e.1)) (size_product (size_of (3 * (t * q * q))) e.2)) (size_product (size_of (q * q * q)) e.3))
