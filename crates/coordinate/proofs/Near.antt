-- How far d is from the exact curve in one coordinate, for any curve and any finest level F up to 16: at most (3·2^F − 1)/2 in 65,536ths.
use mathlib.Core.Path.{◌≡◌, sym, ap, ◌∙◌}
use Prim.Native.Nat.{ℕ, suc, ◌+◌, ◌*◌, ◌-◌, ◌^◌, ◌≤◌, ◌<◌}
use native.Mathlib.Nat.{le_of_lt, mul-le-mul_right}
use native.Mathlib.Omega.{arith}
use lib.Pow.{pow_pos, pow-add}
use lib.IntN.{ℤ, pos, ◌-ℤ◌, ◌*ℤ◌}
use lib.Signed.{◌≤ℤ◌}
use Rattle.numbers.proofs.Multiples.{square, cube}
use Rattle.numbers.proofs.Ring.{#, ◌:+◌, ◌:-◌, ◌:*◌, ring}
use Rattle.numbers.proofs.Order.{≤ℤ-trans, nat, less, ◌⊕◌, ◌⊗◌, gap, certified}
use Rattle.numbers.proofs.Size.{Size, size_between, nat_abs_product}
use Rattle.coordinate.specs.declared.Registers.{Registers}
use Rattle.coordinate.specs.Curve.{Curve, exact, off}
use Rattle.coordinate.proofs.Exact.{drift, alpha_of, beta_of, chord_of, miss_of, place_e, miss_e, drift_e}
use Rattle.coordinate.proofs.Turns.{On}

-- the invariant at F: 65,536 is κ·G with G = 2^F
abbrev pub At : ℕ → Curve → ℕ → ℕ → ℕ → Registers → Type 0
At F f n j q r = On (2 ^ (16 - F)) (2 ^ F) f n j q r

-- what a, b and G²·c are on the exact curve
abbrev pub alpha_at : ℕ → Curve → ℕ → ℤ
alpha_at F f s = alpha_of (2 ^ (16 - F)) f s

abbrev pub beta_at : ℕ → Curve → ℕ → ℕ → ℤ
beta_at F f s q = beta_of (2 ^ (16 - F)) (2 ^ F) f s q

abbrev pub chord_at : ℕ → Curve → ℕ → ℕ → ℤ
chord_at F f s q = chord_of (2 ^ (16 - F)) (2 ^ F) f s q

pub scale : (F : ℕ) → F ≤ 16 → 65536 ≡ 2 ^ (16 - F) * 2 ^ F
scale F h = ap (λ (t : ℕ). 2 ^ t) (parts F h) ∙ pow-add 2 (16 - F) F
  where
    parts : (F : ℕ) → F ≤ 16 → 16 ≡ 16 - F + F
    parts F h = omega arith

-- q² + 2·q·G − q is at most 3·G² − G, with equality at the end: what is left is (G − q)·(3·G + q − 1)
drift_most : (q G W : ℕ) → q ≤ G → 0 < G → 3 * G ≤ 1 + W → drift (pos G) (pos q) ≤ℤ pos (W * (G * G * G))
drift_most q G W h p w =
    certified (ring 3 (λ q G W. (
      W :* (G :* G :* G) :- drift_e G q,
      (# 1 :+ W :- # 3 :* G) :* (G :* G :* G) :+ (G :- q) :* ((G :- # 1) :+ G :+ G :+ q) :* G :* G,
    )) tt (pos q) (pos G) (pos W))
    (less w ⊗ nat (G * G * G) ⊕ less h ⊗ (less p ⊕ nat G ⊕ nat G ⊕ nat q) ⊗ nat G ⊗ nat G)

-- the same error, in the words of the curve
off_curve : (F : ℕ) (f : Curve) (q : ℕ) (d : ℤ) → F ≤ 16
    → d *ℤ pos (2 ^ (3 * F)) -ℤ pos 65536 *ℤ exact F f q ≡ miss_of (2 ^ (16 - F)) (2 ^ F) f q d
unfolding exact
off_curve F f q d h =
    rw (square F, cube F, scale F h)
    (ring 8 (λ A B C D d κ q G. (
      d :* (G :* G :* G) :- κ :* G :* (A :* (q :* q :* q) :+ B :* (q :* q :* G) :+ C :* (q :* (G :* G)) :+ D :* (G :* G :* G)),
      miss_e G d (place_e κ G A B C D q),
    )) tt f.A f.B f.C f.D d (pos (2 ^ (16 - F))) (pos q) (pos (2 ^ F)))

-- the invariant's distance: at most (3·2^F − 1)/2
pub close : (F : ℕ) (f : Curve) (n j q : ℕ) (r : Registers) → F ≤ 16 → At F f n j q r → 2 * off F f q r.d ≤ (3 * 2 ^ F - 1) * 2 ^ (3 * F)
close F f n j q r h o =
    let G : ℕ = 2 ^ F in
    let z : ℤ = miss_of (2 ^ (16 - F)) G f q r.d in
    let w : ℤ = drift (pos G) (pos q) in
    let top = drift_most q G (3 * G - 1) o.within (pow_pos F) (one_less G) in
    let low : (pos 0 -ℤ pos 2 *ℤ z) ≤ℤ w = certified (ring 2 (λ z w. (w :- (# 0 :- # 2 :* z), # 2 :* z :- (# 0 :- w))) tt z w) (gap o.d_low) in
    let twice : Size (pos 2 *ℤ z) ((3 * G - 1) * (G * G * G)) = size_between (≤ℤ-trans o.d_high top) (≤ℤ-trans low top) in
    rw (off_curve F f q r.d h, cube F, sym (nat_abs_product (pos 2) z)) twice.le
  where
    one_less : (G : ℕ) → 3 * G ≤ 1 + (3 * G - 1)
    one_less G = omega arith

-- so it is less than every m from one and a half 2^F on: the 3·2^F of order 9, and at F = 11 the 6,144 of demand 3 and the 4,096 of order 13
pub below : (F m : ℕ) {k : ℕ} → 3 * 2 ^ F ≤ 2 * m → 2 * k ≤ (3 * 2 ^ F - 1) * 2 ^ (3 * F) → k < m * 2 ^ (3 * F)
below F m {k} l h = strictly (3 * 2 ^ F - 1) (2 ^ (3 * F)) (pow_pos (3 * F)) (one_more (2 ^ F) (pow_pos F) l) h
  where
    one_more : (G : ℕ) → 0 < G → 3 * G ≤ 2 * m → suc (3 * G - 1) ≤ 2 * m
    one_more G p l = omega arith

    strictly : (W T : ℕ) → 0 < T → suc W ≤ 2 * m → 2 * k ≤ W * T → k < m * T
    strictly W T t w h = omega (arith, mul-le-mul_right T w)

-- less than two 2^F, for the sizes of the registers
pub near : (F : ℕ) (f : Curve) (n j q : ℕ) (r : Registers) → F ≤ 16 → At F f n j q r
    → Size (r.d *ℤ pos (2 ^ (3 * F)) -ℤ pos 65536 *ℤ exact F f q) (2 * 2 ^ F * 2 ^ (3 * F))
near F f n j q r h o = record { le = le_of_lt (below F (2 * 2 ^ F) (omega arith) (close F f n j q r h o)) }
