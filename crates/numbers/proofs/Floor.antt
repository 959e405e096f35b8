-- The floor of z / m, `shr_z z m`: the one whole number y with m·y ≤ z ≤ m·y + m - 1, and what follows from that.
use mathlib.Core.Path.{◌≡◌, sym, subst}
use Prim.Native.Nat.{ℕ, zero, suc, ◌+◌, ◌*◌, ◌/◌, ◌≤◌, ◌<◌}
use native.Mathlib.Nat.{div-add-mod, mod-lt, mul-pos, lt_of_mul-lt-mul_right}
use native.Mathlib.Omega.{arith}
use lib.IntN.{ℤ, pos, negsuc, nat_abs, ◌+ℤ◌, ◌-ℤ◌, ◌*ℤ◌}
use lib.Signed.{shr_z, ◌≤ℤ◌, ≤ℤ_refl}
use Rattle.numbers.proofs.Parts.{up, down, add_parts, mul_parts}
use Rattle.numbers.proofs.Ring.{#, ◌:+◌, ◌:-◌, ◌:*◌, ring}
use Rattle.numbers.proofs.Order.{le_parts, parts_le, ≤ℤ-antisym, pos_le, nat, less, ◌⊕◌, ◌⊗◌, gap, certified}
use Rattle.numbers.proofs.Size.{Size, size_bounds, size_below, nat_abs_product}

pub floor_low : (z : ℤ) (m : ℕ) → 0 < m → (pos m *ℤ shr_z z m) ≤ℤ z
floor_low (pos a) m h = pos_le (omega (arith, div-add-mod a m))
floor_low (negsuc a) m h =
    parts_le (pos m *ℤ negsuc (a / m)) (negsuc a) (omega (arith, mul_parts (pos m) (negsuc (a / m)), div-add-mod a m, mod-lt a h))

pub floor_high : (z : ℤ) (m : ℕ) → 0 < m → z ≤ℤ (pos m *ℤ shr_z z m +ℤ pos m -ℤ pos 1)
floor_high z m h =
    let w : ℤ = pos m *ℤ shr_z z m in
    parts_le z (w +ℤ pos m -ℤ pos 1)
    (omega (arith, add_parts (w +ℤ pos m) (negsuc 0), add_parts w (pos m), within z))
  where
    within : (z : ℤ) → up z + down (pos m *ℤ shr_z z m) < down z + up (pos m *ℤ shr_z z m) + m
    within (pos a) = omega (arith, div-add-mod a m, mod-lt a h)
    within (negsuc a) = omega (arith, mul_parts (pos m) (negsuc (a / m)), div-add-mod a m, mod-lt a h)

-- a multiple of m below m is no more than 0
no_more : (m : ℕ) (w : ℤ) → (pos m *ℤ w) ≤ℤ (pos m -ℤ pos 1) → 0 < m → w ≤ℤ pos 0
no_more m (pos zero) h p = ≤ℤ_refl (pos 0)
no_more m (pos (suc n)) h p =
    let no : ⊥ = omega (arith, le_parts h, add_parts (pos m) (negsuc 0)) in
    absurd no
no_more m (negsuc n) h p = record { le = tt }

-- m·y ≤ z ≤ m·y' + m - 1 leaves y ≤ y'
floor_mono : (m : ℕ) (y y' z : ℤ) → 0 < m → (pos m *ℤ y) ≤ℤ z → z ≤ℤ (pos m *ℤ y' +ℤ pos m -ℤ pos 1) → y ≤ℤ y'
floor_mono m y y' z p h k =
    let below : (pos m *ℤ (y -ℤ y')) ≤ℤ (pos m -ℤ pos 1) =
    certified (ring 4 (λ m y y' z. (m :- # 1 :- m :* (y :- y'), (z :- m :* y) :+ (m :* y' :+ m :- # 1 :- z))) tt (pos m) y y' z) (gap h ⊕ gap k) in
    certified (ring 2 (λ y y'. (y' :- y, # 0 :- (y :- y'))) tt y y') (gap (no_more m (y -ℤ y') below p))

pub floor_is : (z y : ℤ) (m : ℕ) → 0 < m → (pos m *ℤ y) ≤ℤ z → z ≤ℤ (pos m *ℤ y +ℤ pos m -ℤ pos 1) → shr_z z m ≡ y
floor_is z y m p h k =
    ≤ℤ-antisym (floor_mono m (shr_z z m) y z p (floor_low z m p) k) (floor_mono m y (shr_z z m) z p h (floor_high z m p))

-- a multiple of m comes out of the floor
pub floor_plus : (y z : ℤ) (m : ℕ) → 0 < m → shr_z (pos m *ℤ y +ℤ z) m ≡ y +ℤ shr_z z m
floor_plus y z m p =
    let f : ℤ = shr_z z m in
    floor_is (pos m *ℤ y +ℤ z) (y +ℤ f) m p
    (certified (ring 4 (λ m y z f. (m :* y :+ z :- m :* (y :+ f), z :- m :* f)) tt (pos m) y z f) (gap (floor_low z m p)))
    (certified (ring 4 (λ m y z f. (m :* (y :+ f) :+ m :- # 1 :- (m :* y :+ z), m :* f :+ m :- # 1 :- z)) tt (pos m) y z f) (gap (floor_high z m p)))

pub floor_multiple : (y : ℤ) (m : ℕ) → 0 < m → shr_z (pos m *ℤ y) m ≡ y
floor_multiple y m p =
    floor_is (pos m *ℤ y) y m p (≤ℤ_refl (pos m *ℤ y)) (certified (ring 2 (λ m y. (m :* y :+ m :- # 1 :- m :* y, m :- # 1)) tt (pos m) y) (less p))

-- a floor of a floor
pub floor_floor : (z : ℤ) (m k : ℕ) → 0 < m → 0 < k → shr_z (shr_z z m) k ≡ shr_z z (m * k)
floor_floor z m k p r =
    let f : ℤ = shr_z z m in
    let g : ℤ = shr_z f k in
    sym (floor_is z g (m * k) (mul-pos p r)
    (certified (ring 5 (λ m k z f g. (z :- m :* k :* g, (z :- m :* f) :+ m :* (f :- k :* g))) tt (pos m) (pos k) z f g) (gap (floor_low z m p) ⊕ nat m ⊗ gap (floor_low f k r)))
    (certified (ring 5 (λ m k z f g. (m :* k :* g :+ m :* k :- # 1 :- z, (m :* f :+ m :- # 1 :- z) :+ m :* (k :* g :+ k :- # 1 :- f))) tt (pos m) (pos k) z f g) (gap (floor_high z m p) ⊕ nat m ⊗ gap (floor_high f k r))))

-- numbers at most m apart have floors at most 1 apart
pub floors_touch : (u v : ℤ) (m : ℕ) → 0 < m → Size (v -ℤ u) m → nat_abs (shr_z v m -ℤ shr_z u m) ≤ 1
floors_touch u v m h s =
    let y : ℤ = shr_z u m in
    let z : ℤ = shr_z v m in
    let b = size_bounds s in
    let high : ((z -ℤ y) *ℤ pos m) ≤ℤ (pos (2 * m) -ℤ pos 1) =
    certified (ring 5 (λ m u v y z. (
      # 2 :* m :- # 1 :- (z :- y) :* m,
      (v :- m :* z) :+ (m :* y :+ m :- # 1 :- u) :+ (m :- (v :- u)),
    )) tt (pos m) u v y z) (gap (floor_low v m h) ⊕ gap (floor_high u m h) ⊕ gap b.1) in
    let low : (pos 0 -ℤ (z -ℤ y) *ℤ pos m) ≤ℤ (pos (2 * m) -ℤ pos 1) =
    certified (ring 5 (λ m u v y z. (
      # 2 :* m :- # 1 :- (# 0 :- (z :- y) :* m),
      (u :- m :* y) :+ (m :* z :+ m :- # 1 :- v) :+ (v :- u :- (# 0 :- m)),
    )) tt (pos m) u v y z) (gap (floor_low u m h) ⊕ gap (floor_high v m h) ⊕ gap b.0) in
    let below = size_below ((z -ℤ y) *ℤ pos m) (2 * m) high low in
    omega (arith, lt_of_mul-lt-mul_right m (subst (λ (t : ℕ). t < 2 * m) (nat_abs_product (z -ℤ y) (pos m)) below))
