-- The start with nested floors, as the code reckons it.
use mathlib.Core.Path.{◌≡◌, sym, ap, ◌∙◌}
use Prim.Native.Nat.{ℕ, ◌+◌, ◌-◌, ◌^◌, ◌≤◌}
use native.Mathlib.Omega.{arith}
use lib.IntN.{ℤ, pos, ◌+ℤ◌, ◌*ℤ◌}
use lib.Pow.{pow_pos, pow-add}
use lib.Signed.{shr_z}
use Rattle.numbers.proofs.Ring.{#, ◌:+◌, ◌:*◌, ring}
use Rattle.numbers.proofs.Parts.{*ℤ-assoc}
use Rattle.numbers.proofs.Floor.{floor_plus, floor_floor, floor_multiple}
use Rattle.coordinate.specs.declared.Registers.{Registers}
use Rattle.coordinate.specs.Curve.{Curve}
use Rattle.coordinate.specs.Registers.{◌>>◌, unit, start_registers}

-- ---- the start's a is whole: 65,536·6A·δ with no floor, and so is b

pub start_is_whole : (n : ℕ) (f : Curve) → n ≤ 16 → pos (2 ^ n) *ℤ (start_registers n f).a ≡ unit *ℤ (pos 6 *ℤ f.A)
unfolding start_registers
start_is_whole n f h =
    let rest = pos (2 ^ (16 - n)) *ℤ (pos 6 *ℤ f.A) in
    let parts : 16 ≡ n + (16 - n) = omega arith in
    let e : unit *ℤ (pos 6 *ℤ f.A) ≡ pos (2 ^ n) *ℤ rest =
    ap (λ (k : ℕ). pos k *ℤ (pos 6 *ℤ f.A)) (ap (λ (k : ℕ). 2 ^ k) parts ∙ pow-add 2 n (16 - n)) ∙ *ℤ-assoc (pos (2 ^ n)) (pos (2 ^ (16 - n))) (pos 6 *ℤ f.A) in
    ap (λ (z : ℤ). pos (2 ^ n) *ℤ z) (ap (λ (z : ℤ). z >> n) e ∙ floor_multiple rest (2 ^ n) (pow_pos n)) ∙ sym e

-- ---- the registers, as the code reckons them

abbrev pub reckoned : ℕ → Curve → Registers
reckoned n f =
    record {
      a = (pos 6 *ℤ (unit *ℤ f.A)) >> n;
      b = ((pos 6 *ℤ (unit *ℤ f.A)) >> n) +ℤ pos 2 *ℤ (unit *ℤ f.B);
      c = unit *ℤ f.C +ℤ ((unit *ℤ f.B +ℤ ((unit *ℤ f.A) >> n)) >> n);
      d = unit *ℤ f.D;
    }

-- two floors by 2^n are one by 2^(2n)
nested : (n : ℕ) (l s k : ℤ) → l +ℤ ((s +ℤ (k >> n)) >> n) ≡ (pos (2 ^ n) *ℤ (pos (2 ^ n) *ℤ l +ℤ s) +ℤ k) >> (n + n)
nested n l s k =
    let m = 2 ^ n in
    sym (floor_plus l (s +ℤ shr_z k m) m (pow_pos n))
    ∙ ap (λ (z : ℤ). shr_z z m) (ring 4 (λ m l s k. (m :* l :+ (s :+ k), m :* l :+ s :+ k)) tt (pos m) l s (shr_z k m)
    ∙ sym (floor_plus (pos m *ℤ l +ℤ s) k m (pow_pos n)))
    ∙ floor_floor (pos m *ℤ (pos m *ℤ l +ℤ s) +ℤ k) m m (pow_pos n) (pow_pos n)
    ∙ ap (λ (j : ℕ). shr_z (pos m *ℤ (pos m *ℤ l +ℤ s) +ℤ k) j) (sym (pow-add 2 n n))

pub reckoned_start : (n : ℕ) (f : Curve) → reckoned n f ≡ start_registers n f
unfolding start_registers
reckoned_start n f =
    λ i. record {
      a = exchanged 6 f.A i >> n;
      b = (exchanged 6 f.A i >> n) +ℤ exchanged 2 f.B i;
      c = (nested n (unit *ℤ f.C) (unit *ℤ f.B) (unit *ℤ f.A) ∙ ap (λ (z : ℤ). z >> (n + n)) whole) i;
      d = unit *ℤ f.D;
    }
  where
    exchanged : (k : ℕ) (z : ℤ) → pos k *ℤ (unit *ℤ z) ≡ unit *ℤ (pos k *ℤ z)
    exchanged k z = ring 2 (λ k z. (k :* (# 65536 :* z), # 65536 :* (k :* z))) tt (pos k) z

    whole : pos (2 ^ n) *ℤ (pos (2 ^ n) *ℤ (unit *ℤ f.C) +ℤ unit *ℤ f.B) +ℤ unit *ℤ f.A
        ≡ unit *ℤ (f.C *ℤ pos (2 ^ (n + n)) +ℤ f.B *ℤ pos (2 ^ n) +ℤ f.A)
    whole =
        rw (pow-add 2 n n)
        (ring 4 (λ m A B C. (
          m :* (m :* (# 65536 :* C) :+ # 65536 :* B) :+ # 65536 :* A,
          # 65536 :* (C :* (m :* m) :+ B :* m :+ A),
        )) tt (pos (2 ^ n)) f.A f.B f.C)
