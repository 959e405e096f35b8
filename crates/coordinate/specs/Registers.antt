-- The four registers of one coordinate: the start, the three operations at level n, and 32 bits.
use Rattle.std.specs.Prelude.{Bool, ◌&&◌, ℕ, ◌+◌, ◌^◌, ℤ, pos, negsuc, ◌+ℤ◌, ◌-ℤ◌, ◌*ℤ◌}
use Rattle.std.specs.Int.Signed.{shr_z, le_z}
use Rattle.coordinate.specs.declared.Registers.{Registers}
use Rattle.coordinate.specs.Curve.{Curve}

pub data Operation : Type 0 where
  halve : Operation
  double : Operation
  step : Operation

-- v >> k is the floor of v / 2^k, also for negative v
infix 60 ◌>>◌
abbrev pub ◌>>◌ : ℤ → ℕ → ℤ
v >> k = shr_z v (2 ^ k)

-- a unit, in the registers' 65,536ths
abbrev pub unit : ℤ
unit = pos 65536

-- With δ = 1 / 2^n: a = 65,536·6A·δ; b = 65,536·(6A·δ + 2B); c = floor of 65,536·(C + B·δ + A·δ²); d = 65,536·D.
-- c is one floor over the whole sum, which is scaled by 2^(2n) first; a and b are whole (`start_is_whole` in proofs/Start).
unfoldable pub start_registers : ℕ → Curve → Registers
start_registers n f =
    record {
      a = (unit *ℤ (pos 6 *ℤ f.A)) >> n;
      b = ((unit *ℤ (pos 6 *ℤ f.A)) >> n) +ℤ unit *ℤ (pos 2 *ℤ f.B);
      c = (unit *ℤ (f.C *ℤ pos (2 ^ (n + n)) +ℤ f.B *ℤ pos (2 ^ n) +ℤ f.A)) >> (n + n);
      d = unit *ℤ f.D;
    }

-- All values on the right are the old ones.
-- halve: a' = a >> 1; b' = b − a'; c' = c − (b' >> (n+2))
-- double: a' = 2a; b' = b + a; c' = c + (b >> (n+1))
-- step: d' = d + (c >> n); c' = c + (b >> n); b' = b + a
unfoldable pub turn : Operation → ℕ → Registers → Registers
turn halve n r =
    let a' : ℤ = r.a >> 1 in
    let b' : ℤ = r.b -ℤ a' in
    record { a = a'; b = b'; c = r.c -ℤ (b' >> (n + 2)); d = r.d }
turn double n r =
    record { a = pos 2 *ℤ r.a; b = r.b +ℤ r.a; c = r.c +ℤ (r.b >> (n + 1)); d = r.d }
turn step n r =
    record { a = r.a; b = r.b +ℤ r.a; c = r.c +ℤ (r.b >> n); d = r.d +ℤ (r.c >> n) }

-- a register is a signed number of 32 bits
abbrev pub is_register : ℤ → Bool
is_register z = le_z (negsuc 2147483647) z && le_z z (pos 2147483647)

unfoldable pub are_registers : Registers → Bool
are_registers r = is_register r.a && is_register r.b && is_register r.c && is_register r.d
