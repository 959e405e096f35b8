-- Halve and double undo one another in one coordinate.
use mathlib.Core.Path.{◌≡◌, sym, ap, ap₂, ◌∙◌}
use Prim.Native.Nat.{ℕ, suc, ◌+◌}
use native.Mathlib.Omega.{arith}
use lib.Dec.{lit<}
use lib.IntN.{ℤ, pos, ◌+ℤ◌, ◌-ℤ◌, ◌*ℤ◌, +ℤ-neg_ℤ_cancel, -ℤ-+ℤ_cancel}
use Rattle.numbers.proofs.Floor.{floor_multiple}
use Rattle.coordinate.specs.declared.Registers.{Registers}
use Rattle.coordinate.specs.Registers.{halve, double, turn, ◌>>◌}

pub two_above : (n : ℕ) → suc n + 1 ≡ n + 2
two_above n = omega arith

-- of any registers
pub halve_after_double : (n : ℕ) (r : Registers) → turn halve n (turn double (suc n) r) ≡ r
unfolding turn
halve_after_double n r =
    let a : (pos 2 *ℤ r.a) >> 1 ≡ r.a = floor_multiple r.a 2 (lit< tt) in
    let b : r.b +ℤ r.a -ℤ ((pos 2 *ℤ r.a) >> 1) ≡ r.b = ap (λ (z : ℤ). r.b +ℤ r.a -ℤ z) a ∙ +ℤ-neg_ℤ_cancel r.b r.a in
    let c : r.c +ℤ (r.b >> (suc n + 1)) -ℤ ((r.b +ℤ r.a -ℤ ((pos 2 *ℤ r.a) >> 1)) >> (n + 2)) ≡ r.c =
    ap₂ (λ (k : ℕ) (z : ℤ). r.c +ℤ (r.b >> k) -ℤ (z >> (n + 2))) (two_above n) b ∙ +ℤ-neg_ℤ_cancel r.c (r.b >> (n + 2)) in
    λ i. record { a = a i; b = b i; c = c i; d = r.d }

-- of registers whose a is even
pub double_after_halve : (n : ℕ) (r : Registers) (h : ℤ) → r.a ≡ pos 2 *ℤ h → turn double (suc n) (turn halve n r) ≡ r
unfolding turn
double_after_halve n r h e =
    let half : r.a >> 1 ≡ h = ap (λ (z : ℤ). z >> 1) e ∙ floor_multiple h 2 (lit< tt) in
    let b' : ℤ = r.b -ℤ (r.a >> 1) in
    let a : pos 2 *ℤ (r.a >> 1) ≡ r.a = ap (λ (z : ℤ). pos 2 *ℤ z) half ∙ sym e in
    let c : r.c -ℤ (b' >> (n + 2)) +ℤ (b' >> (suc n + 1)) ≡ r.c =
    ap (λ (k : ℕ). r.c -ℤ (b' >> (n + 2)) +ℤ (b' >> k)) (two_above n) ∙ -ℤ-+ℤ_cancel r.c (b' >> (n + 2)) in
    λ i. record { a = a i; b = -ℤ-+ℤ_cancel r.b (r.a >> 1) i; c = c i; d = r.d }
