-- A register is a number of 32 bits, and every number of 32 bits is one; in numbers, from −2,147,483,648 to 2,147,483,647.
use mathlib.Core.Path.{◌≡◌, refl, ap₂}
use mathlib.Core.Bool.{true, ◌&&◌}
use native.Mathlib.Omega.{arith}
use lib.IntN.{ℤ, pos, negsuc}
use lib.Dec.{leb}
use mir.Syntax.{w32}
use mir.Val.{SFits}
use lib.Signed.{le_z, ◌≤ℤ◌}
use borrow.Author.Tests.{leb-true, le-leb}
use Rattle.numbers.proofs.Order.{le_z_true, le_le_z}
use Rattle.numbers.proofs.Tests.{and_true, and_four}
use Rattle.coordinate.specs.declared.Registers.{Registers}
use Rattle.coordinate.specs.Registers.{is_register, are_registers}

register_fits : (z : ℤ) → is_register z ≡ true → SFits w32 z
register_fits (pos n) e = record { sfits = omega (arith, leb-true n 2147483647 e) }
register_fits (negsuc n) e =
    record { sfits = omega (arith, leb-true n 2147483647 (and_true (leb n 2147483647) true e).0) }

pub fits_register : (z : ℤ) → SFits w32 z → is_register z ≡ true
fits_register (pos n) s = le-leb n 2147483647 (omega (arith, s.sfits))
fits_register (negsuc n) s = rw (le-leb n 2147483647 (omega (arith, s.sfits))) refl

-- ---- four numbers of which the same holds, as of registers and control points

pub record Four (P : ℤ → Type 0) (p q r s : ℤ) : Type 0 where
  pub a : P p
  pub b : P q
  pub c : P r
  pub d : P s

each : (P : ℤ → Type 0) → ((z : ℤ) → is_register z ≡ true → P z) → (r : Registers) → are_registers r ≡ true → Four P r.a r.b r.c r.d
unfolding are_registers
each P h r e =
    let t = and_four (is_register r.a) (is_register r.b) (is_register r.c) (is_register r.d) e in
    record { a = h r.a t.0; b = h r.b t.1; c = h r.c t.2; d = h r.d t.3 }

-- each of 32 bits
abbrev pub Fitting : ℤ → ℤ → ℤ → ℤ → Type 0
Fitting p q r s = Four (SFits w32) p q r s

abbrev pub Fits32 : Registers → Type 0
Fits32 r = Fitting r.a r.b r.c r.d

pub registers_fit : (r : Registers) → are_registers r ≡ true → Fits32 r
registers_fit r e = each (SFits w32) register_fits r e

-- ---- in numbers: each from −2,147,483,648 to 2,147,483,647, and 10 by registers exactly where one is not

abbrev pub Within32 : ℤ → Type 0
Within32 z = (negsuc 2147483647 ≤ℤ z) × (z ≤ℤ pos 2147483647)

abbrev pub AllWithin : Registers → Type 0
AllWithin r = Four Within32 r.a r.b r.c r.d

register_within : (z : ℤ) → is_register z ≡ true → Within32 z
register_within z e =
    let t = and_true (le_z (negsuc 2147483647) z) (le_z z (pos 2147483647)) e in
    (le_z_true (negsuc 2147483647) z t.0, le_z_true z (pos 2147483647) t.1)

within_register : (z : ℤ) → Within32 z → is_register z ≡ true
within_register z w = ap₂ ◌&&◌ (le_le_z w.0) (le_le_z w.1)

pub registers_within : (r : Registers) → are_registers r ≡ true → AllWithin r
registers_within r e = each Within32 register_within r e

pub within_registers : (r : Registers) → AllWithin r → are_registers r ≡ true
unfolding are_registers
within_registers r w = λ i.
    within_register r.a w.a i && within_register r.b w.b i && within_register r.c w.c i && within_register r.d w.d i
