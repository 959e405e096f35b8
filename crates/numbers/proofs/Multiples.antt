-- Multiples of a natural number, and powers of two.
use mathlib.Core.Path.{◌≡◌, sym, ap, ◌∙◌, subst}
use Prim.Native.Nat.{ℕ, ◌+◌, ◌*◌, ◌/◌, ◌%◌, ◌^◌, ◌≤◌, ◌<◌}
use native.Mathlib.Nat.{div-add-mod', add-zero, mul-mod_left, mul-le-mul_right, lt_of_mul-lt-mul_right}
use native.Mathlib.Omega.{arith}
use lib.Pow.{pow-add}

pub multiple : (q t : ℕ) → q % t ≡ 0 → q ≡ q / t * t
multiple q t e = sym (div-add-mod' q t) ∙ ap (λ (m : ℕ). q / t * t + m) e ∙ add-zero (q / t * t)

pub remainder : (q m t : ℕ) → q ≡ m * t → q % t ≡ 0
remainder q m t e = ap (λ (x : ℕ). x % t) e ∙ mul-mod_left m t

-- below a multiple of s, the next multiple is still inside
pub next_multiple : (G M s q m : ℕ) → G ≡ M * s → q ≡ m * s → q < G → q + s ≤ G
next_multiple G M s q m e w h =
    let l : m < M = lt_of_mul-lt-mul_right s (subst (λ (t : ℕ). t < M * s) w (subst (λ (t : ℕ). q < t) e h)) in
    omega (arith, mul-le-mul_right s l)

-- ---- powers of two

pub square : (F : ℕ) → 2 ^ (2 * F) ≡ 2 ^ F * 2 ^ F
square F = ap (λ (k : ℕ). 2 ^ k) (twice F) ∙ pow-add 2 F F
  where
    twice : (F : ℕ) → 2 * F ≡ F + F
    twice F = omega arith

pub cube : (F : ℕ) → 2 ^ (3 * F) ≡ 2 ^ F * 2 ^ F * 2 ^ F
cube F = ap (λ (k : ℕ). 2 ^ k) (thrice F) ∙ pow-add 2 (F + F) F ∙ ap (λ (k : ℕ). k * 2 ^ F) (pow-add 2 F F)
  where
    thrice : (F : ℕ) → 3 * F ≡ F + F + F
    thrice F = omega arith
