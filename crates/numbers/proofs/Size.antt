-- How large a whole number is, `nat_abs z ≤ m`, through sums, products and floors.
use mathlib.Core.Path.{◌≡◌, refl, sym, subst}
use Prim.Native.Nat.{ℕ, zero, suc, ◌+◌, ◌*◌, ◌≤◌, ◌<◌}
use native.Mathlib.Nat.{mul-le-mul, le_of_mul-le-mul_right, le_trans, le_refl, div-lt_iff_lt-mul, div-le_self}
use native.Mathlib.Omega.{arith}
use lib.IntN.{ℤ, pos, negsuc, neg_ℤ, nat_abs, ◌+ℤ◌, ◌-ℤ◌, ◌*ℤ◌}
use lib.Signed.{shr_z, ◌≤ℤ◌}
use Rattle.numbers.proofs.Parts.{up, down, same, add_parts, neg_parts}
use Rattle.numbers.proofs.Order.{le_parts, parts_le}

pub record Size (z : ℤ) (m : ℕ) : Type 0 where
  pub le : nat_abs z ≤ m

-- ---- the size in the parts

of_parts : (z : ℤ) (m : ℕ) → up z ≤ down z + m → down z ≤ up z + m → Size z m
of_parts (pos a) m h k = record { le = omega arith }
of_parts (negsuc a) m h k = record { le = omega arith }

pub size_parts : {z : ℤ} {m : ℕ} → Size z m → (up z ≤ down z + m) × (down z ≤ up z + m)
size_parts {z = pos a} s = (omega (arith, s.le), omega arith)
size_parts {z = negsuc a} s = (omega arith, omega (arith, s.le))

pub size_between : {z : ℤ} {m : ℕ} → z ≤ℤ pos m → (pos 0 -ℤ z) ≤ℤ pos m → Size z m
size_between {z} {m} h k =
    of_parts z m (omega (arith, le_parts h)) (omega (arith, le_parts k, add_parts (pos 0) (neg_ℤ z), neg_parts z))

-- strictly below m in size
pub size_below : (z : ℤ) (m : ℕ) → z ≤ℤ (pos m -ℤ pos 1) → (pos 0 -ℤ z) ≤ℤ (pos m -ℤ pos 1) → nat_abs z < m
size_below (pos a) m h k = omega (arith, le_parts h, add_parts (pos m) (negsuc 0))
size_below (negsuc a) m h k = omega (arith, le_parts k, add_parts (pos m) (negsuc 0))

pub size_bounds : {z : ℤ} {m : ℕ} → Size z m → ((pos 0 -ℤ pos m) ≤ℤ z) × (z ≤ℤ pos m)
size_bounds {z} {m} s =
    let f = size_parts s in
    (parts_le (pos 0 -ℤ pos m) z (omega (arith, add_parts (pos 0) (neg_ℤ (pos m)), neg_parts (pos m))), parts_le z (pos m) (omega arith))

-- ---- of sums and products

pub size_of : (n : ℕ) → Size (pos n) n
size_of n = record { le = le_refl n }

pub size_sum : {x y : ℤ} {m n : ℕ} → Size x m → Size y n → Size (x +ℤ y) (m + n)
size_sum {x} {y} {m} {n} h k =
    let f = size_parts h in
    let g = size_parts k in
    of_parts (x +ℤ y) (m + n) (omega (arith, add_parts x y)) (omega (arith, add_parts x y))

pub size_difference : {x y : ℤ} {m n : ℕ} → Size x m → Size y n → Size (x -ℤ y) (m + n)
size_difference {x} {y} {m} {n} h k =
    let f = size_parts h in
    let g = size_parts k in
    of_parts (x -ℤ y) (m + n)
    (omega (arith, add_parts x (neg_ℤ y), neg_parts y))
    (omega (arith, add_parts x (neg_ℤ y), neg_parts y))

-- of two naturals
pub size_apart : {a b m : ℕ} → a ≤ b + m → b ≤ a + m → Size (pos a -ℤ pos b) m
size_apart {a} {b} {m} h k =
    of_parts (pos a -ℤ pos b) m
    (omega (arith, add_parts (pos a) (neg_ℤ (pos b)), neg_parts (pos b)))
    (omega (arith, add_parts (pos a) (neg_ℤ (pos b)), neg_parts (pos b)))

nat_abs_neg : (n : ℕ) → nat_abs (neg_ℤ (pos n)) ≡ n
nat_abs_neg zero = refl
nat_abs_neg (suc n) = refl

pub nat_abs_product : (x y : ℤ) → nat_abs (x *ℤ y) ≡ nat_abs x * nat_abs y
nat_abs_product (pos a) (pos b) = refl
nat_abs_product (pos a) (negsuc b) = nat_abs_neg (a * suc b)
nat_abs_product (negsuc a) (pos b) = nat_abs_neg (suc a * b)
nat_abs_product (negsuc a) (negsuc b) = refl

pub size_product : {x y : ℤ} {m n : ℕ} → Size x m → Size y n → Size (x *ℤ y) (m * n)
size_product {x} {y} {m} {n} h k =
    record { le = subst (λ (t : ℕ). t ≤ m * n) (sym (nat_abs_product x y)) (mul-le-mul h.le k.le) }

-- ---- the same number in another form, under another bound

pub size_by : {z y : ℤ} {m k : ℕ} → z ≡ y → m ≤ k → Size y m → Size z k
size_by {k = k} e h s = record { le = subst (λ (t : ℤ). nat_abs t ≤ k) (sym e) (le_trans s.le h) }

-- a positive factor is taken off
pub size_factor : {z : ℤ} {m : ℕ} (g : ℕ) → 0 < g → Size (z *ℤ pos g) (m * g) → Size z m
size_factor {z} {m} g h s =
    record { le = le_of_mul-le-mul_right (subst (λ (t : ℕ). t ≤ m * g) (nat_abs_product z (pos g)) s.le) h }

pub size_zero : {z : ℤ} → Size z 0 → z ≡ pos 0
size_zero {z} s = let f = size_parts s in same z (pos 0) (omega arith)

-- of a floor
pub size_floor : {z : ℤ} {k : ℕ} (m : ℕ) → 0 < m → Size z (k * m) → Size (shr_z z m) k
size_floor {z = pos a} {k} m h s =
    let f = (div-lt_iff_lt-mul {x = a} {y = suc k} h).1 (omega (arith, s.le)) in
    record { le = omega arith }
size_floor {z = negsuc a} m h s = record { le = (div-lt_iff_lt-mul h).1 s.le }

pub size_shift : {z : ℤ} {k : ℕ} (m : ℕ) → 0 < m → Size z k → Size (shr_z z m) k
size_shift {z = pos a} m h s = record { le = le_trans (div-le_self a m) s.le }
size_shift {z = negsuc a} m h s = record { le = omega (arith, div-le_self a m, s.le) }
