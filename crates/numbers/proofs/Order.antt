-- The order of ℤ. An inequality is shown by a certificate: y - x is, by a ring identity, a sum of products of numbers that are
-- known to be 0 or more.
use mathlib.Core.Path.{◌≡◌, refl, sym, subst}
use mathlib.Core.Bool.{Bool, true, false}
use Prim.Native.Nat.{ℕ, ◌+◌, ◌*◌, ◌≤◌}
use native.Mathlib.Nat.{le_of_lt}
use native.Mathlib.Omega.{arith}
use lib.Dec.{T, leb→le, le→leb, ltb→lt}
use lib.IntN.{ℤ, pos, negsuc, neg_ℤ, ◌+ℤ◌, ◌-ℤ◌, ◌*ℤ◌}
use lib.Signed.{le_z, ◌≤ℤ◌, ◌<ℤ◌, <ℤ-≤ℤ_trans}
use Rattle.numbers.proofs.Parts.{up, down, same, add_parts, neg_parts}

-- ---- the order and its test

pub le_z_true : (x y : ℤ) → le_z x y ≡ true → x ≤ℤ y
le_z_true x y e = record { le = subst T (sym e) tt }

pub le_le_z : {x y : ℤ} → x ≤ℤ y → le_z x y ≡ true
le_le_z {x} {y} h = passed (le_z x y) h.le
  where
    passed : (b : Bool) → T b → b ≡ true
    passed true t = refl
    passed false t = absurd t

-- ---- the order in the parts, for `omega`

pub le_parts : {x y : ℤ} → x ≤ℤ y → up x + down y ≤ up y + down x
le_parts {x = pos a} {y = pos b} h = omega (arith, leb→le a b h.le)
le_parts {x = pos a} {y = negsuc b} h = absurd h.le
le_parts {x = negsuc a} {y = pos b} h = omega arith
le_parts {x = negsuc a} {y = negsuc b} h = omega (arith, leb→le b a h.le)

pub parts_le : (x y : ℤ) → up x + down y ≤ up y + down x → x ≤ℤ y
parts_le (pos a) (pos b) h = record { le = le→leb a b (omega arith) }
parts_le (pos a) (negsuc b) h = let no : ⊥ = omega arith in absurd no
parts_le (negsuc a) (pos b) h = record { le = tt }
parts_le (negsuc a) (negsuc b) h = record { le = le→leb b a (omega arith) }

pub ≤ℤ-trans : {x y z : ℤ} → x ≤ℤ y → y ≤ℤ z → x ≤ℤ z
≤ℤ-trans {x} {y} {z} h k = parts_le x z (omega (arith, le_parts h, le_parts k))

pub ≤ℤ-antisym : {x y : ℤ} → x ≤ℤ y → y ≤ℤ x → x ≡ y
≤ℤ-antisym {x} {y} h k = same x y (omega (arith, le_parts h, le_parts k))

pub <ℤ-≤ℤ : {x y : ℤ} → x <ℤ y → x ≤ℤ y
<ℤ-≤ℤ {x = pos a} {y = pos b} h = record { le = le→leb a b (le_of_lt (ltb→lt a b h.lt)) }
<ℤ-≤ℤ {x = pos a} {y = negsuc b} h = absurd h.lt
<ℤ-≤ℤ {x = negsuc a} {y = pos b} h = record { le = tt }
<ℤ-≤ℤ {x = negsuc a} {y = negsuc b} h = record { le = le→leb b a (le_of_lt (ltb→lt b a h.lt)) }

pub <ℤ-trans : {x y z : ℤ} → x <ℤ y → y <ℤ z → x <ℤ z
<ℤ-trans h k = <ℤ-≤ℤ_trans h (<ℤ-≤ℤ k)

pub pos_le : {m n : ℕ} → m ≤ n → pos m ≤ℤ pos n
pos_le {m} {n} h = record { le = le→leb m n h }

-- ---- certificates

pub nat : (n : ℕ) → pos 0 ≤ℤ pos n
nat n = pos_le (omega arith)

-- for m ≤ n
pub less : {m n : ℕ} → m ≤ n → pos 0 ≤ℤ (pos n -ℤ pos m)
less {m} {n} h = parts_le (pos 0) (pos n -ℤ pos m) (omega (arith, add_parts (pos n) (neg_ℤ (pos m)), neg_parts (pos m)))

infixl 40 ◌⊕◌
infixl 45 ◌⊗◌
pub ◌⊕◌ : {x y : ℤ} → pos 0 ≤ℤ x → pos 0 ≤ℤ y → pos 0 ≤ℤ (x +ℤ y)
◌⊕◌ {x} {y} h k = parts_le (pos 0) (x +ℤ y) (omega (arith, le_parts h, le_parts k, add_parts x y))

pub ◌⊗◌ : {x y : ℤ} → pos 0 ≤ℤ x → pos 0 ≤ℤ y → pos 0 ≤ℤ (x *ℤ y)
◌⊗◌ {x = pos a} {y = pos b} h k = nat (a * b)
◌⊗◌ {x = pos a} {y = negsuc b} h k = absurd k.le
◌⊗◌ {x = negsuc a} {y = y} h k = absurd h.le

pub gap : {x y : ℤ} → x ≤ℤ y → pos 0 ≤ℤ (y -ℤ x)
gap {x} {y} h = parts_le (pos 0) (y -ℤ x) (omega (arith, le_parts h, add_parts y (neg_ℤ x), neg_parts x))

pub of_gap : {x y : ℤ} → pos 0 ≤ℤ (y -ℤ x) → x ≤ℤ y
of_gap {x} {y} h = parts_le x y (omega (arith, le_parts h, add_parts y (neg_ℤ x), neg_parts x))

pub certified : {x y w : ℤ} → y -ℤ x ≡ w → pos 0 ≤ℤ w → x ≤ℤ y
certified {w = w} e h = of_gap (subst (λ (t : ℤ). pos 0 ≤ℤ t) (sym e) h)
