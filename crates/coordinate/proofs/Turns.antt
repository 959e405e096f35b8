-- What holds of one coordinate of every drawing, and that the start and each operation keep it: a and b are exact, c's error is
-- bounded as it would be at the finest level, which halve and double leave as it is, and d's error by q alone.
use mathlib.Core.Path.{◌≡◌, sym, ap, ap₂, ◌∙◌, subst}
use Prim.Native.Nat.{ℕ, suc, ◌+◌, ◌*◌, ◌^◌, ◌≤◌, ◌<◌, zero-le}
use native.Mathlib.Nat.{pow-succ', mul_assoc, mul-pos, zero-mul}
use native.Mathlib.Omega.{arith}
use lib.Pow.{pow_pos, pow-add}
use lib.IntN.{ℤ, pos, ◌+ℤ◌, ◌-ℤ◌, ◌*ℤ◌}
use lib.Signed.{shr_z, ◌≤ℤ◌, ≤ℤ_refl}
use Rattle.numbers.proofs.Ring.{#, ◌:+◌, ◌:-◌, ◌:*◌, ring}
use Rattle.numbers.proofs.Order.{nat, less}
use Rattle.numbers.proofs.Multiples.{next_multiple}
use Rattle.numbers.proofs.Floor.{floor_low, floor_high, floor_multiple}
use Rattle.coordinate.specs.declared.Registers.{Registers}
use Rattle.coordinate.specs.Curve.{Curve}
use Rattle.coordinate.specs.Registers.{halve, double, step, turn, start_registers, unit, ◌>>◌}
use Rattle.coordinate.proofs.Back.{halve_after_double}
use Rattle.coordinate.proofs.Floors.{Floor, shift_is_floor}
use Rattle.coordinate.proofs.Exact.{alpha, drift, alpha_of, lag_of, miss_of, place_e, drift_e, step_lag_low, step_lag_high, step_miss, step_low, step_high, drift_low, drift_high, start_low, start_high}
use Rattle.coordinate.proofs.Refined.{Exactly, halve_exact, double_exact, step_exact, refined, next_levels, Bracket, bracket}

-- G = 2^F and κ·G = 65,536; the level is n, with j finer ones below it
pub record On (κ G : ℕ) (f : Curve) (n j q : ℕ) (r : Registers) : Type 0 where
  pub levels : G ≡ 2 ^ n * 2 ^ j
  pub strides : ℕ
  pub whole : q ≡ strides * 2 ^ j
  pub within : q ≤ G
  pub exact : Exactly κ G f (2 ^ j) q r
  pub c_low : (pos 0 -ℤ (pos q +ℤ pos 1) *ℤ pos G *ℤ pos G)
      ≤ℤ lag_of κ G f 1 q (refined j n r).c
  pub c_high : lag_of κ G f 1 q (refined j n r).c
      ≤ℤ ((pos q +ℤ pos G -ℤ pos 1) *ℤ pos G *ℤ pos G)
  pub d_low : (pos 0 -ℤ drift (pos G) (pos q)) ≤ℤ (pos 2 *ℤ miss_of κ G f q r.d)
  pub d_high : (pos 2 *ℤ miss_of κ G f q r.d) ≤ℤ drift (pos G) (pos q)

module _ (κ G : ℕ) (f : Curve) where
  -- ---- halve and double

  pub halve_on : (n j q : ℕ) (r : Registers) → On κ G f n (suc j) q r → On κ G f (suc n) j q (turn halve n r)
  unfolding turn
  halve_on n j q r o =
      record {
        levels = o.levels ∙ next_levels n j;
        strides = o.strides * 2;
        whole = o.whole ∙ ap (λ (t : ℕ). o.strides * t) (pow-succ' 2 j) ∙ sym (mul_assoc o.strides 2 (2 ^ j));
        within = o.within;
        exact = halve_exact κ G f n j q r o.exact;
        c_low = o.c_low;
        c_high = o.c_high;
        d_low = o.d_low;
        d_high = o.d_high;
      }

  -- where q is a multiple of two steps
  pub double_on : (n j q k : ℕ) (r : Registers) → q ≡ k * 2 ^ suc j → On κ G f (suc n) j q r → On κ G f n (suc j) q (turn double (suc n) r)
  unfolding turn
  double_on n j q k r e o =
      let c : (refined (suc j) n (turn double (suc n) r)).c ≡ (refined j (suc n) r).c = ap (λ (r : Registers). (refined j (suc n) r).c) (halve_after_double n r) in
      record {
        levels = o.levels ∙ sym (next_levels n j);
        strides = k;
        whole = e;
        within = o.within;
        exact = double_exact κ G f (suc n) j q r o.exact;
        c_low = rw c o.c_low;
        c_high = rw c o.c_high;
        d_low = o.d_low;
        d_high = o.d_high;
      }

  -- ---- a step, before the end

  module _ (n j q : ℕ) (r : Registers) (o : On κ G f n j q r) where
    abbrev lag_now : ℤ
    lag_now = lag_of κ G f (2 ^ j) q r.c

    abbrev lag_next : ℤ
    lag_next = lag_of κ G f (2 ^ j) (q + 2 ^ j) (turn step n r).c

    abbrev miss_now : ℤ
    miss_now = miss_of κ G f q r.d

    now : Bracket κ G f n j q r
    now = bracket κ G f q n j r o.levels o.exact

    after : Bracket κ G f n j (q + 2 ^ j) (turn step n r)
    after = bracket κ G f (q + 2 ^ j) n j (turn step n r) o.levels (step_exact κ G f n (2 ^ j) q r o.exact)

    levels_are : pos G ≡ pos (2 ^ n) *ℤ pos (2 ^ j)
    levels_are = ap pos o.levels

    falls : lag_next ≤ℤ lag_now
    unfolding turn
    falls =
        step_lag_high (pos κ) (pos (2 ^ n)) (pos (2 ^ j)) f.A f.B f.C (pos q) r.c (r.b >> n) (pos G) levels_are (nat (2 ^ j)) (nat G)
        (subst (λ (b : ℤ). (pos (2 ^ n) *ℤ (r.b >> n)) ≤ℤ b) o.exact.b (floor_low r.b (2 ^ n) (pow_pos n)))

    falls_little : (lag_now -ℤ pos G *ℤ pos G) ≤ℤ lag_next
    unfolding turn
    falls_little =
        step_lag_low (pos κ) (pos (2 ^ n)) (pos (2 ^ j)) f.A f.B f.C (pos q) r.c (r.b >> n) (pos G) levels_are (nat (2 ^ j)) (nat G)
        (subst (λ (b : ℤ). b ≤ℤ (pos (2 ^ n) *ℤ (r.b >> n) +ℤ pos (2 ^ n) -ℤ pos 1)) o.exact.b (floor_high r.b (2 ^ n) (pow_pos n)))

    -- what d gains
    abbrev rise : ℤ
    rise = r.c >> n

    rise_floor : Floor r.c (2 ^ n) rise
    rise_floor = shift_is_floor r.c n

    miss_next : miss_of κ G f (q + 2 ^ j) (turn step n r).d
        ≡ miss_now +ℤ pos (2 ^ j) *ℤ lag_now -ℤ pos (2 ^ j) *ℤ pos G *ℤ pos G *ℤ (r.c -ℤ pos (2 ^ n) *ℤ rise)
    unfolding turn
    miss_next =
        step_miss (pos κ) (pos (2 ^ n)) (pos (2 ^ j)) f.A f.B f.C f.D (pos q) r.c r.d rise (pos G) levels_are

    pub step_on : q < G → On κ G f n j (q + 2 ^ j) (turn step n r)
    step_on h =
        record {
          levels = o.levels;
          strides = o.strides + 1;
          whole = omega (arith, o.whole);
          within = next_multiple G (2 ^ n) (2 ^ j) q o.strides o.levels o.whole h;
          exact = step_exact κ G f n (2 ^ j) q r o.exact;
          c_low = step_low (pos q) (pos (2 ^ j)) (pos G) _ _ lag_now _ after.low falls_little now.high o.c_low;
          c_high = step_high (pos q) (pos (2 ^ j)) (pos G) _ _ lag_now _ (nat G) after.high falls now.low o.c_high;
          d_low =
              rw miss_next
              (drift_low (pos (2 ^ n)) (pos (2 ^ j)) (pos q) r.c rise (pos G) _ lag_now miss_now levels_are (less (pow_pos n)) (nat (2 ^ j)) (less (pow_pos j)) (nat G)
              o.d_low o.c_low now.high rise_floor.high);
          d_high =
              rw miss_next
              (drift_high (pos (2 ^ n)) (pos (2 ^ j)) (pos q) r.c rise (pos G) _ lag_now miss_now (nat (2 ^ j)) (nat G)
              o.d_high o.c_high now.low rise_floor.low);
        }

  -- ---- the start

  start_alpha : (κ' A s M : ℤ) → M *ℤ alpha κ' A s ≡ (κ' *ℤ (M *ℤ s)) *ℤ (pos 6 *ℤ A)
  start_alpha = ring 4 (λ κ A s M. (M :* (κ :* (# 6 :* A :* s)), (κ :* (M :* s)) :* (# 6 :* A))) tt

  module _ (n j : ℕ) (scale : 65536 ≡ κ * G) (e : G ≡ 2 ^ n * 2 ^ j) where
    unit_is : unit ≡ pos κ *ℤ pos G
    unit_is = ap pos scale

    -- a is whole
    pub start_whole : (unit *ℤ (pos 6 *ℤ f.A)) >> n ≡ alpha_of κ f (2 ^ j)
    start_whole =
        ap (λ (z : ℤ). z >> n)
        (ap (λ (u : ℤ). u *ℤ (pos 6 *ℤ f.A)) (unit_is ∙ ap (λ (g : ℕ). pos κ *ℤ pos g) e)
        ∙ sym (start_alpha (pos κ) f.A (pos (2 ^ j)) (pos (2 ^ n))))
        ∙ floor_multiple (alpha_of κ f (2 ^ j)) (2 ^ n) (pow_pos n)

    start_exact : Exactly κ G f (2 ^ j) 0 (start_registers n f)
    unfolding start_registers
    start_exact =
        record {
          a = start_whole;
          b =
              ap₂ ◌+ℤ◌ start_whole (ap (λ (u : ℤ). u *ℤ (pos 2 *ℤ f.B)) unit_is)
              ∙ ring 5 (λ κ A B G s. (κ :* (# 6 :* A :* s) :+ κ :* G :* (# 2 :* B), κ :* (# 6 :* A :* (# 0 :+ s) :+ # 2 :* B :* G))) tt (pos κ) f.A f.B (pos G) (pos (2 ^ j));
        }

    -- c is the floor of what stands here by M²
    abbrev sum : ℤ
    sum = pos κ *ℤ pos G *ℤ (f.C *ℤ (pos (2 ^ n) *ℤ pos (2 ^ n)) +ℤ f.B *ℤ pos (2 ^ n) +ℤ f.A)

    start_c : (start_registers n f).c ≡ shr_z sum (2 ^ n * 2 ^ n)
    unfolding start_registers
    start_c =
        ap₂ (λ (u : ℤ) (m : ℕ). shr_z (u *ℤ (f.C *ℤ pos m +ℤ f.B *ℤ pos (2 ^ n) +ℤ f.A)) m) unit_is (pow-add 2 n n)

    start_bracket : Bracket κ G f n j 0 (start_registers n f)
    start_bracket = bracket κ G f 0 n j (start_registers n f) e start_exact

    at_zero : (G' : ℤ) → drift G' (pos 0) ≡ pos 0
    at_zero = ring 1 (λ G. (drift_e G (# 0), # 0)) tt

    start_miss : miss_of κ G f 0 (start_registers n f).d ≡ pos 0
    unfolding start_registers
    start_miss =
        ap (λ (u : ℤ). miss_of κ G f 0 (u *ℤ f.D)) unit_is
        ∙ ring 6 (λ κ G A B C D. (κ :* G :* D :* G :* G :* G :- place_e κ G A B C D (# 0), # 0)) tt (pos κ) (pos G) f.A f.B f.C f.D

    pub start_on : On κ G f n j 0 (start_registers n f)
    start_on =
        let m : ℕ = 2 ^ n * 2 ^ n in
        let p : 0 < m = mul-pos (pow_pos n) (pow_pos n) in
        let low = subst (λ (c : ℤ). (pos m *ℤ c) ≤ℤ sum) (sym start_c) (floor_low sum m p) in
        let high = subst (λ (c : ℤ). sum ≤ℤ (pos m *ℤ c +ℤ pos m -ℤ pos 1)) (sym start_c) (floor_high sum m p) in
        record {
          levels = e;
          strides = 0;
          whole = sym (zero-mul (2 ^ j));
          within = zero-le;
          exact = start_exact;
          c_low =
              start_low (pos κ) (pos (2 ^ n)) (pos (2 ^ j)) f.A f.B f.C (start_registers n f).c _ (pos G) (ap pos e) (nat (2 ^ j)) high
              start_bracket.low;
          c_high =
              start_high (pos κ) (pos (2 ^ n)) (pos (2 ^ j)) f.A f.B f.C (start_registers n f).c _ (pos G) (ap pos e) (nat (2 ^ j)) (less (pow_pos n)) (nat G)
              low start_bracket.high;
          d_low = rw (start_miss, at_zero) (≤ℤ_refl (pos 0));
          d_high = rw (start_miss, at_zero) (≤ℤ_refl (pos 0));
        }
