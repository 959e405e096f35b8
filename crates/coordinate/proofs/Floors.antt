-- The start and the three operations in the document's words: v >> k is the floor of v / 2^k, also for negative v. It holds of any registers,
-- so of made-up ones too, whose a need not be even.
use mathlib.Core.Path.{◌≡◌, refl, sym, ap, ◌∙◌, subst}
use Prim.Native.Nat.{ℕ, ◌+◌, ◌^◌, ◌≤◌}
use lib.Pow.{pow_pos}
use lib.IntN.{ℤ, pos, ◌+ℤ◌, ◌-ℤ◌, ◌*ℤ◌}
use lib.Signed.{◌≤ℤ◌}
use Rattle.numbers.proofs.Ring.{#, ◌:+◌, ◌:-◌, ◌:*◌, ring}
use Rattle.numbers.proofs.Floor.{floor_low, floor_high, floor_is}
use Rattle.coordinate.specs.declared.Registers.{Registers}
use Rattle.coordinate.specs.Curve.{Curve}
use Rattle.coordinate.specs.Registers.{halve, double, step, turn, start_registers, ◌>>◌}
use Rattle.coordinate.proofs.Start.{start_is_whole}

-- y is the floor of v / m: m·y ≤ v < m·y + m
pub record Floor (v : ℤ) (m : ℕ) (y : ℤ) : Type 0 where
  pub low : (pos m *ℤ y) ≤ℤ v
  pub high : v ≤ℤ (pos m *ℤ y +ℤ pos m -ℤ pos 1)

pub shift_is_floor : (v : ℤ) (k : ℕ) → Floor v (2 ^ k) (v >> k)
shift_is_floor v k = record { low = floor_low v (2 ^ k) (pow_pos k); high = floor_high v (2 ^ k) (pow_pos k) }

-- and no other number is
pub floor_shift : (v : ℤ) (k : ℕ) (y : ℤ) → Floor v (2 ^ k) y → v >> k ≡ y
floor_shift v k y f = floor_is v y (2 ^ k) (pow_pos k) f.low f.high

-- what was added to z, and what was taken from it
added : (z y v : ℤ) (m : ℕ) → Floor v m y → Floor v m (z +ℤ y -ℤ z)
added z y v m = subst (Floor v m) (sym (ring 2 (λ z y. (z :+ y :- z, y)) tt z y))

taken : (z y v : ℤ) (m : ℕ) → Floor v m y → Floor v m (z -ℤ (z -ℤ y))
taken z y v m = subst (Floor v m) (sym (ring 2 (λ z y. (z :- (z :- y), y)) tt z y))

-- ---- the operations at level n, r before and r' after

-- a' = a >> 1; b' = b − a'; c' = c − (b' >> (n+2))
pub record Halved (n : ℕ) (r r' : Registers) : Type 0 where
  pub a : Floor r.a 2 r'.a
  pub b : r'.b ≡ r.b -ℤ r'.a
  pub c : Floor r'.b (2 ^ (n + 2)) (r.c -ℤ r'.c)
  pub d : r'.d ≡ r.d

-- a' = 2a; b' = b + a; c' = c + (b >> (n+1))
pub record Doubled (n : ℕ) (r r' : Registers) : Type 0 where
  pub a : r'.a ≡ pos 2 *ℤ r.a
  pub b : r'.b ≡ r.b +ℤ r.a
  pub c : Floor r.b (2 ^ (n + 1)) (r'.c -ℤ r.c)
  pub d : r'.d ≡ r.d

-- d' = d + (c >> n); c' = c + (b >> n); b' = b + a
pub record Stepped (n : ℕ) (r r' : Registers) : Type 0 where
  pub a : r'.a ≡ r.a
  pub b : r'.b ≡ r.b +ℤ r.a
  pub c : Floor r.b (2 ^ n) (r'.c -ℤ r.c)
  pub d : Floor r.c (2 ^ n) (r'.d -ℤ r.d)

module _ (n : ℕ) (r : Registers) where
  pub halves : Halved n r (turn halve n r)
  unfolding turn
  halves =
      let b' : ℤ = r.b -ℤ (r.a >> 1) in
      record {
        a = shift_is_floor r.a 1;
        b = refl;
        c = taken r.c (b' >> (n + 2)) b' (2 ^ (n + 2)) (shift_is_floor b' (n + 2));
        d = refl;
      }

  pub doubles : Doubled n r (turn double n r)
  unfolding turn
  doubles =
      record { a = refl; b = refl; c = added r.c (r.b >> (n + 1)) r.b (2 ^ (n + 1)) (shift_is_floor r.b (n + 1)); d = refl }

  pub steps : Stepped n r (turn step n r)
  unfolding turn
  steps =
      record {
        a = refl;
        b = refl;
        c = added r.c (r.b >> n) r.b (2 ^ n) (shift_is_floor r.b n);
        d = added r.d (r.c >> n) r.c (2 ^ n) (shift_is_floor r.c n);
      }

-- ---- the start at level n, each line times 2^n or 2^(2n)

-- a = 65,536·6A·δ; b = 65,536·(6A·δ + 2B); c = floor of 65,536·(C + B·δ + A·δ²); d = 65,536·D
pub record Begun (n : ℕ) (f : Curve) (r : Registers) : Type 0 where
  pub a : pos (2 ^ n) *ℤ r.a ≡ pos 65536 *ℤ (pos 6 *ℤ f.A)
  pub b : pos (2 ^ n) *ℤ r.b ≡ pos 65536 *ℤ (pos 6 *ℤ f.A +ℤ pos (2 ^ n) *ℤ (pos 2 *ℤ f.B))
  pub c : Floor (pos 65536 *ℤ (f.C *ℤ pos (2 ^ (n + n)) +ℤ f.B *ℤ pos (2 ^ n) +ℤ f.A)) (2 ^ (n + n)) r.c
  pub d : r.d ≡ pos 65536 *ℤ f.D

pub begins : (n : ℕ) (f : Curve) → n ≤ 16 → Begun n f (start_registers n f)
unfolding start_registers
begins n f h =
    let whole = start_is_whole n f h in
    record {
      a = whole;
      b =
          ring 3 (λ m a B. (m :* (a :+ # 65536 :* (# 2 :* B)), m :* a :+ # 65536 :* (m :* (# 2 :* B)))) tt (pos (2 ^ n)) (start_registers n f).a f.B
          ∙ ap (λ (z : ℤ). z +ℤ pos 65536 *ℤ (pos (2 ^ n) *ℤ (pos 2 *ℤ f.B))) whole
          ∙ ring 3 (λ m A B. (
            # 65536 :* (# 6 :* A) :+ # 65536 :* (m :* (# 2 :* B)),
            # 65536 :* (# 6 :* A :+ m :* (# 2 :* B)),
          )) tt (pos (2 ^ n)) f.A f.B;
      c = shift_is_floor _ (n + n);
      d = refl;
    }
