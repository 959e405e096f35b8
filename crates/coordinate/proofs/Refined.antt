-- Registers a and b are exact, and stay so; and c as it would be after halving down to the finest level, which bounds c as it stands.
-- f is any curve, G = 2^F and κ·G = 65,536; the level is n, with j finer ones below it.
use mathlib.Core.Path.{◌≡◌, sym, ap, ap₂, ◌∙◌, subst}
use Prim.Native.Nat.{ℕ, zero, suc, ◌+◌, ◌*◌, ◌^◌, ◌<◌}
use native.Mathlib.Nat.{pow-succ'}
use native.Mathlib.Omega.{arith}
use lib.Dec.{lit<}
use lib.Pow.{pow_pos, pow-add}
use lib.IntN.{ℤ, pos, ◌+ℤ◌, ◌-ℤ◌, ◌*ℤ◌, +ℤ-neg_ℤ_cancel}
use lib.Signed.{shr_z, ◌≤ℤ◌, ≤ℤ_refl}
use Rattle.numbers.proofs.Ring.{#, ◌:+◌, ◌:-◌, ◌:*◌, ring}
use Rattle.numbers.proofs.Order.{≤ℤ-trans, nat, less, ◌⊕◌, ◌⊗◌, gap, certified}
use Rattle.numbers.proofs.Floor.{floor_low, floor_high, floor_multiple}
use Rattle.coordinate.specs.declared.Registers.{Registers}
use Rattle.coordinate.specs.Curve.{Curve}
use Rattle.coordinate.specs.Registers.{halve, double, step, turn, ◌>>◌}
use Rattle.coordinate.proofs.Exact.{alpha, beta, alpha_of, beta_of, lag_of, alpha_e, beta_e, halve_lag_low, halve_lag_high}

-- ---- a and b

pub record Exactly (κ G : ℕ) (f : Curve) (s q : ℕ) (r : Registers) : Type 0 where
  pub a : r.a ≡ alpha_of κ f s
  pub b : r.b ≡ beta_of κ G f s q

pub two_steps : (j : ℕ) → pos (2 ^ suc j) ≡ pos 2 *ℤ pos (2 ^ j)
two_steps j = ap pos (pow-succ' 2 j)

pub alpha_twice : (κ A s t : ℤ) → t ≡ pos 2 *ℤ s → alpha κ A t ≡ pos 2 *ℤ alpha κ A s
alpha_twice κ A s t e = rw e (ring 3 (λ κ A s. (alpha_e κ A (# 2 :* s), # 2 :* alpha_e κ A s)) tt κ A s)

beta_twice : (κ G A B s t q : ℤ) → t ≡ pos 2 *ℤ s → beta κ G A B t q ≡ beta κ G A B s q +ℤ alpha κ A s
beta_twice κ G A B s t q e =
    rw e (ring 6 (λ κ G A B s q. (beta_e κ G A B (# 2 :* s) q, beta_e κ G A B s q :+ alpha_e κ A s)) tt κ G A B s q)

beta_next : (κ G A B s q : ℤ) → beta κ G A B s q +ℤ alpha κ A s ≡ beta κ G A B s (q +ℤ s)
beta_next = ring 6 (λ κ G A B s q. (beta_e κ G A B s q :+ alpha_e κ A s, beta_e κ G A B s (q :+ s))) tt

module _ (κ G : ℕ) (f : Curve) where
  pub half : (j q : ℕ) (r : Registers) → Exactly κ G f (2 ^ suc j) q r → r.a >> 1 ≡ alpha_of κ f (2 ^ j)
  half j q r x =
      let al : ℤ = alpha_of κ f (2 ^ j) in
      ap (λ (z : ℤ). z >> 1) (x.a ∙ alpha_twice (pos κ) f.A (pos (2 ^ j)) (pos (2 ^ suc j)) (two_steps j)) ∙ floor_multiple al 2 (lit< tt)

  pub halve_exact : (n j q : ℕ) (r : Registers) → Exactly κ G f (2 ^ suc j) q r → Exactly κ G f (2 ^ j) q (turn halve n r)
  unfolding turn
  halve_exact n j q r x =
      let al : ℤ = alpha_of κ f (2 ^ j) in
      let be : ℤ = beta_of κ G f (2 ^ j) q in
      record {
        a = half j q r x;
        b =
            ap₂ ◌-ℤ◌ (x.b ∙ beta_twice (pos κ) (pos G) f.A f.B (pos (2 ^ j)) (pos (2 ^ suc j)) (pos q) (two_steps j)) (half j q r x)
            ∙ +ℤ-neg_ℤ_cancel be al;
      }

  pub double_exact : (n j q : ℕ) (r : Registers) → Exactly κ G f (2 ^ j) q r → Exactly κ G f (2 ^ suc j) q (turn double n r)
  unfolding turn
  double_exact n j q r x =
      record {
        a = ap (λ (z : ℤ). pos 2 *ℤ z) x.a ∙ sym (alpha_twice (pos κ) f.A (pos (2 ^ j)) (pos (2 ^ suc j)) (two_steps j));
        b = ap₂ ◌+ℤ◌ x.b x.a ∙ sym (beta_twice (pos κ) (pos G) f.A f.B (pos (2 ^ j)) (pos (2 ^ suc j)) (pos q) (two_steps j));
      }

  pub step_exact : (n s q : ℕ) (r : Registers) → Exactly κ G f s q r → Exactly κ G f s (q + s) (turn step n r)
  unfolding turn
  step_exact n s q r x =
      record { a = x.a; b = ap₂ ◌+ℤ◌ x.b x.a ∙ beta_next (pos κ) (pos G) f.A f.B (pos s) (pos q) }

-- ---- c, down at the finest level

-- the registers after j halvings from level n
abbrev pub refined : ℕ → ℕ → Registers → Registers
refined zero n r = r
refined (suc j) n r = refined j (suc n) (turn halve n r)

four : (n : ℕ) → 2 ^ (n + 2) ≡ 4 * 2 ^ n
four n = pow-add 2 n 2 ∙ swap (2 ^ n)
  where
    swap : (m : ℕ) → m * 4 ≡ 4 * m
    swap m = omega arith

pub half_levels : (n j : ℕ) → 2 ^ n * 2 ^ suc j ≡ 2 * 2 ^ n * 2 ^ j
half_levels n j = ap (λ (t : ℕ). 2 ^ n * t) (pow-succ' 2 j) ∙ swap (2 ^ n) (2 ^ j)
  where
    swap : (x y : ℕ) → x * (2 * y) ≡ 2 * x * y
    swap x y = omega arith

pub next_levels : (n j : ℕ) → 2 ^ n * 2 ^ suc j ≡ 2 ^ suc n * 2 ^ j
next_levels n j = half_levels n j ∙ ap (λ (t : ℕ). t * 2 ^ j) (sym (pow-succ' 2 n))

-- c's error at the finest level is what it is now and at most (s − 1)·G² more
pub record Bracket (κ G : ℕ) (f : Curve) (n j q : ℕ) (r : Registers) : Type 0 where
  pub low : lag_of κ G f (2 ^ j) q r.c
      ≤ℤ lag_of κ G f 1 q (refined j n r).c
  pub high : lag_of κ G f 1 q (refined j n r).c
      ≤ℤ (lag_of κ G f (2 ^ j) q r.c +ℤ (pos (2 ^ j) -ℤ pos 1) *ℤ pos G *ℤ pos G)

bracket_high : (G s t E e e' : ℤ) → t ≡ pos 2 *ℤ s → pos 0 ≤ℤ (s -ℤ pos 1) → pos 0 ≤ℤ G
    → e' ≤ℤ (e +ℤ G *ℤ G) → E ≤ℤ (e' +ℤ (s -ℤ pos 1) *ℤ G *ℤ G) → E ≤ℤ (e +ℤ (t -ℤ pos 1) *ℤ G *ℤ G)
bracket_high G s t E e e' et hs hG h k =
    rw et
    (certified (ring 5 (λ G s E e e'. (
      e :+ (# 2 :* s :- # 1) :* G :* G :- E,
      (e :+ G :* G :- e') :+ (e' :+ (s :- # 1) :* G :* G :- E) :+ (s :- # 1) :* G :* G,
    )) tt G s E e e')
    (gap h ⊕ gap k ⊕ hs ⊗ hG ⊗ hG))

module _ (κ G : ℕ) (f : Curve) (q : ℕ) where
  halved_c : (n j : ℕ) (r : Registers) → Exactly κ G f (2 ^ suc j) q r
      → (turn halve n r).c ≡ r.c -ℤ shr_z (beta_of κ G f (2 ^ j) q) (4 * 2 ^ n)
  unfolding turn
  halved_c n j r x = ap₂ (λ (z : ℤ) (m : ℕ). r.c -ℤ shr_z z m) (halve_exact κ G f n j q r x).b (four n)

  four_pos : (n : ℕ) → 0 < 4 * 2 ^ n
  four_pos n = omega (arith, pow_pos n)

  halve_low : (n j : ℕ) (r : Registers) → G ≡ 2 ^ n * 2 ^ suc j → Exactly κ G f (2 ^ suc j) q r
      → lag_of κ G f (2 ^ suc j) q r.c ≤ℤ lag_of κ G f (2 ^ j) q (turn halve n r).c
  halve_low n j r e x =
      let be : ℤ = beta_of κ G f (2 ^ j) q in
      subst (λ (c : ℤ). lag_of κ G f (2 ^ suc j) q r.c ≤ℤ lag_of κ G f (2 ^ j) q c) (sym (halved_c n j r x))
      (halve_lag_low (pos κ) (pos (2 ^ n)) (pos (2 ^ j)) f.A f.B f.C (pos q) r.c (shr_z be (4 * 2 ^ n)) (pos G) (pos (2 ^ suc j)) (ap pos (e ∙ half_levels n j)) (two_steps j) (nat (2 ^ j)) (nat (2 ^ n)) (floor_low be (4 * 2 ^ n) (four_pos n)))

  halve_high : (n j : ℕ) (r : Registers) → G ≡ 2 ^ n * 2 ^ suc j → Exactly κ G f (2 ^ suc j) q r
      → lag_of κ G f (2 ^ j) q (turn halve n r).c ≤ℤ (lag_of κ G f (2 ^ suc j) q r.c +ℤ pos G *ℤ pos G)
  halve_high n j r e x =
      let be : ℤ = beta_of κ G f (2 ^ j) q in
      subst (λ (c : ℤ). lag_of κ G f (2 ^ j) q c ≤ℤ (lag_of κ G f (2 ^ suc j) q r.c +ℤ pos G *ℤ pos G)) (sym (halved_c n j r x))
      (halve_lag_high (pos κ) (pos (2 ^ n)) (pos (2 ^ j)) f.A f.B f.C (pos q) r.c (shr_z be (4 * 2 ^ n)) (pos G) (pos (2 ^ suc j)) (ap pos (e ∙ half_levels n j)) (two_steps j) (nat (2 ^ j)) (nat (2 ^ n)) (floor_high be (4 * 2 ^ n) (four_pos n)))

  pub bracket : (n j : ℕ) (r : Registers) → G ≡ 2 ^ n * 2 ^ j → Exactly κ G f (2 ^ j) q r → Bracket κ G f n j q r
  bracket n zero r e x =
      record {
        low = ≤ℤ_refl (lag_of κ G f 1 q r.c);
        high = certified (ring 2 (λ E G. (E :+ (# 1 :- # 1) :* G :* G :- E, # 0)) tt (lag_of κ G f 1 q r.c) (pos G)) (nat 0);
      }
  bracket n (suc j) r e x =
      let finer = bracket (suc n) j (turn halve n r) (e ∙ next_levels n j) (halve_exact κ G f n j q r x) in
      record {
        low = ≤ℤ-trans (halve_low n j r e x) finer.low;
        high = bracket_high (pos G) (pos (2 ^ j)) (pos (2 ^ suc j)) (lag_of κ G f 1 q (refined (suc j) n r).c) (lag_of κ G f (2 ^ suc j) q r.c) (lag_of κ G f (2 ^ j) q (turn halve n r).c) (two_steps j) (less (pow_pos j)) (nat G) (halve_high n j r e x) finer.high;
      }
