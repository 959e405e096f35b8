-- A whole number as the difference of two naturals, `up z` and `down z`, of which one is 0: what `omega` can read.
-- From it the ring laws of ℤ that the kit's `lib.IntN` lacks.
use mathlib.Core.Path.{◌≡◌, refl, ap, ap₂, ◌∙◌}
use mathlib.Core.Bool.{Bool, true, false, not, cond}
use Prim.Native.Nat.{ℕ, zero, suc, ◌+◌, ◌*◌, ◌-◌, ◌<◌}
use native.Mathlib.Omega.{arith}
use lib.Dec.{T, ltb, ltb→lt, nltb→le}
use lib.IntN.{ℤ, pos, negsuc, neg_ℤ, sub_ℕ, ◌+ℤ◌, ◌-ℤ◌, ◌*ℤ◌, *ℤ_comm}

abbrev pub up : ℤ → ℕ
up (pos n) = n
up (negsuc n) = 0

abbrev pub down : ℤ → ℕ
down (pos n) = 0
down (negsuc n) = suc n

-- two numbers with one difference are equal
pub same : (x y : ℤ) → up x + down y ≡ up y + down x → x ≡ y
same (pos a) (pos b) h = ap pos (omega arith)
same (pos a) (negsuc b) h = let no : ⊥ = omega arith in absurd no
same (negsuc a) (pos b) h = let no : ⊥ = omega arith in absurd no
same (negsuc a) (negsuc b) h = ap negsuc (omega arith)

by_cond : (c : Bool) (x y : ℤ) (Q : ℤ → Type 0) → (T c → Q x) → (T (not c) → Q y) → Q (cond c x y)
by_cond true x y Q f g = f tt
by_cond false x y Q f g = g tt

subℕ-parts : (a b : ℕ) → up (sub_ℕ a b) + b ≡ a + down (sub_ℕ a b)
subℕ-parts a b =
    by_cond (ltb a b) (negsuc (b - suc a)) (pos (a - b)) (λ z. up z + b ≡ a + down z)
    (λ t. omega (arith, ltb→lt a b t))
    (λ t. omega (arith, nltb→le a b t))

pub add_parts : (x y : ℤ) → up (x +ℤ y) + (down x + down y) ≡ up x + up y + down (x +ℤ y)
add_parts (pos a) (pos b) = omega arith
add_parts (pos a) (negsuc b) = omega (arith, subℕ-parts a (suc b))
add_parts (negsuc a) (pos b) = omega (arith, subℕ-parts b (suc a))
add_parts (negsuc a) (negsuc b) = omega arith

up_neg : (n : ℕ) → up (neg_ℤ (pos n)) ≡ 0
up_neg zero = refl
up_neg (suc n) = refl

down_neg : (n : ℕ) → down (neg_ℤ (pos n)) ≡ n
down_neg zero = refl
down_neg (suc n) = refl

pub neg_parts : (x : ℤ) → up (neg_ℤ x) + up x ≡ down x + down (neg_ℤ x)
neg_parts (pos n) = omega (arith, up_neg n, down_neg n)
neg_parts (negsuc n) = omega arith

pub mul_parts : (x y : ℤ)
    → up (x *ℤ y) + (up x * down y + down x * up y) ≡ up x * up y + down x * down y + down (x *ℤ y)
mul_parts (pos a) (pos b) = omega arith
mul_parts (pos a) (negsuc b) = omega (arith, up_neg (a * suc b), down_neg (a * suc b))
mul_parts (negsuc a) (pos b) = omega (arith, up_neg (suc a * b), down_neg (suc a * b))
mul_parts (negsuc a) (negsuc b) = omega arith

-- ---- the ring laws

pub *ℤ-assoc : (x y z : ℤ) → (x *ℤ y) *ℤ z ≡ x *ℤ (y *ℤ z)
*ℤ-assoc x y z =
    let xy = mul_parts x y in
    let yz = mul_parts y z in
    same ((x *ℤ y) *ℤ z) (x *ℤ (y *ℤ z))
    (omega (
      arith,
      mul_parts (x *ℤ y) z,
      mul_parts x (y *ℤ z),
      ap (λ (t : ℕ). t * up z) xy,
      ap (λ (t : ℕ). t * down z) xy,
      ap (λ (t : ℕ). up x * t) yz,
      ap (λ (t : ℕ). down x * t) yz,
    ))

pub *ℤ-+ℤ : (x y z : ℤ) → x *ℤ (y +ℤ z) ≡ x *ℤ y +ℤ x *ℤ z
*ℤ-+ℤ x y z =
    let yz = add_parts y z in
    same (x *ℤ (y +ℤ z)) (x *ℤ y +ℤ x *ℤ z)
    (omega (
      arith,
      mul_parts x y,
      mul_parts x z,
      mul_parts x (y +ℤ z),
      add_parts (x *ℤ y) (x *ℤ z),
      ap (λ (t : ℕ). up x * t) yz,
      ap (λ (t : ℕ). down x * t) yz,
    ))

pub +ℤ-*ℤ : (x y z : ℤ) → (x +ℤ y) *ℤ z ≡ x *ℤ z +ℤ y *ℤ z
+ℤ-*ℤ x y z = *ℤ_comm (x +ℤ y) z ∙ *ℤ-+ℤ z x y ∙ ap₂ ◌+ℤ◌ (*ℤ_comm z x) (*ℤ_comm z y)

pub one-*ℤ : (x : ℤ) → pos 1 *ℤ x ≡ x
one-*ℤ x = same (pos 1 *ℤ x) x (omega (arith, mul_parts (pos 1) x))

pub minus-one-*ℤ : (x : ℤ) → negsuc 0 *ℤ x ≡ neg_ℤ x
minus-one-*ℤ x = same (negsuc 0 *ℤ x) (neg_ℤ x) (omega (arith, mul_parts (negsuc 0) x, neg_parts x))

-- (p + q) + (r + s) = (p + r) + (q + s)
pub swap_middle : (p q r s : ℤ) → (p +ℤ q) +ℤ (r +ℤ s) ≡ (p +ℤ r) +ℤ (q +ℤ s)
swap_middle p q r s =
    same ((p +ℤ q) +ℤ (r +ℤ s)) ((p +ℤ r) +ℤ (q +ℤ s))
    (omega (
      arith,
      add_parts p q,
      add_parts r s,
      add_parts p r,
      add_parts q s,
      add_parts (p +ℤ q) (r +ℤ s),
      add_parts (p +ℤ r) (q +ℤ s),
    ))

pub no_difference : (x y : ℤ) → x -ℤ y ≡ pos 0 → x ≡ y
no_difference x y h = same x y (omega (arith, add_parts x (neg_ℤ y), neg_parts y, ap up h, ap down h))

-- ---- a number below 0 and its bits

-- one that is lifted to 0 or above
pub lifted : (n m : ℕ) → n < m → negsuc n +ℤ pos m ≡ pos (m - suc n)
lifted n m h = same _ _ (omega (arith, add_parts (negsuc n) (pos m)))

-- one that is lowered below 0
pub lowered : (n m : ℕ) → n < m → pos n -ℤ pos m ≡ negsuc (m - suc n)
lowered n m h = same _ _ (omega (arith, add_parts (pos n) (neg_ℤ (pos m)), neg_parts (pos m)))
