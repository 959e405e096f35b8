-- Tests, that is values of Bool: what a test of several parts says, and the tests of ℤ and of lists of them.
use mathlib.Core.Path.{◌≡◌, refl, sym, ap, ap₂, ◌∙◌}
use mathlib.Core.Bool.{Bool, true, false, ◌&&◌, false≢true, true≢false}
use mathlib.Core.List.{List, [], ◌∷◌}
use Prim.Native.Nat.{ℕ, zero, suc, ◌<◌, zero-le}
use native.Mathlib.Nat.{not-suc-le-zero, zero-add, zero-lt-suc}
use lib.Dec.{T, leb, eqb→eq, leb-suc-suc}
use lib.IntN.{ℤ, pos, negsuc, nat_abs, neg_ℤ, ◌-ℤ◌, +ℤ_idl}
use lib.Signed.{le_z, lt_z, non_neg}
use borrow.Author.Tests.{ltb-true, le-leb, lt-leb, eq-eqb, ne_eqb}
use mir.Facts.{and_yes}
use Rattle.numbers.specs.Tests.{eqbℤ, eqbℤs}

-- a test is passed or not
pub by_test : {X : Type 0} (b : Bool) → (b ≡ true → X) → (b ≡ false → X) → X
by_test true f g = f refl
by_test false f g = g refl

pub and_true : (a b : Bool) → (a && b) ≡ true → (a ≡ true) × (b ≡ true)
and_true true b e = (refl, e)
and_true false b e = absurd (false≢true e)

pub and_three : (a b c : Bool) → (a && b && c) ≡ true → (a ≡ true) × (b ≡ true) × (c ≡ true)
and_three a b c e =
    let two = and_true (a && b) c e in
    let one = and_true a b two.0 in
    (one.0, one.1, two.1)

pub and_four : (a b c d : Bool) → (a && b && c && d) ≡ true → (a ≡ true) × (b ≡ true) × (c ≡ true) × (d ≡ true)
and_four a b c d e =
    let three = and_true (a && b && c) d e in
    let two = and_three a b c three.0 in
    (two.0, two.1, two.2, three.1)

-- from −m to m, as two comparisons
pub within : (m : ℕ) (z : ℤ) → (le_z (pos 0 -ℤ pos m) z && le_z z (pos m)) ≡ leb (nat_abs z) m
within m z = ap (λ (low : ℤ). le_z low z && le_z z (pos m)) (+ℤ_idl (neg_ℤ (pos m))) ∙ from_below m z
  where
    and_true_right : (b : Bool) → (b && true) ≡ b
    and_true_right true = refl
    and_true_right false = refl

    from_below : (m : ℕ) (z : ℤ) → (le_z (neg_ℤ (pos m)) z && le_z z (pos m)) ≡ leb (nat_abs z) m
    from_below zero (pos a) = ap (λ (b : Bool). b && leb a 0) (le-leb 0 a zero-le)
    from_below zero (negsuc a) = sym (lt-leb (suc a) 0 (zero-lt-suc a))
    from_below (suc m) (pos a) = refl
    from_below (suc m) (negsuc a) = and_true_right (leb a m) ∙ sym (leb-suc-suc a m)

-- below 0, and from 0 on
pub below_zero : (z : ℤ) → lt_z z (pos 0) ≡ true → T (non_neg (pos 0 -ℤ z)) × (nat_abs (pos 0 -ℤ z) ≡ nat_abs z)
below_zero (pos n) e = let no : n < 0 = ltb-true n 0 e in absurd (not-suc-le-zero no)
below_zero (negsuc n) e = (tt, zero-add (suc n))

pub from_zero : (z : ℤ) → lt_z z (pos 0) ≡ false → T (non_neg z)
from_zero (pos n) e = tt
from_zero (negsuc n) e = absurd (true≢false e)

-- the same whole number
pub eqbℤ→eq : (x y : ℤ) → T (eqbℤ x y) → x ≡ y
eqbℤ→eq (pos a) (pos b) t = ap pos (eqb→eq a b t)
eqbℤ→eq (pos a) (negsuc b) t = absurd t
eqbℤ→eq (negsuc a) (pos b) t = absurd t
eqbℤ→eq (negsuc a) (negsuc b) t = ap negsuc (eqb→eq a b t)

pub eq→eqbℤ : (x y : ℤ) → x ≡ y → eqbℤ x y ≡ true
eq→eqbℤ x y e = ap (λ (z : ℤ). eqbℤ z y) e ∙ itself y
  where
    itself : (z : ℤ) → eqbℤ z z ≡ true
    itself (pos a) = eq-eqb a a refl
    itself (negsuc a) = eq-eqb a a refl

pub ne→eqbℤ : (x y : ℤ) → (x ≡ y → ⊥) → eqbℤ x y ≡ false
ne→eqbℤ (pos a) (pos b) h = ne_eqb a b (λ e. h (ap pos e))
ne→eqbℤ (pos a) (negsuc b) h = refl
ne→eqbℤ (negsuc a) (pos b) h = refl
ne→eqbℤ (negsuc a) (negsuc b) h = ne_eqb a b (λ e. h (ap negsuc e))

-- the same whole numbers, one after another
pub eqbℤs→eq : (xs ys : List ℤ) → T (eqbℤs xs ys) → xs ≡ ys
eqbℤs→eq [] [] t = refl
eqbℤs→eq [] (y ∷ ys) t = absurd t
eqbℤs→eq (x ∷ xs) [] t = absurd t
eqbℤs→eq (x ∷ xs) (y ∷ ys) t =
    let ts = and_yes (eqbℤ x y) (eqbℤs xs ys) t in
    ap₂ ◌∷◌ (eqbℤ→eq x y ts.0) (eqbℤs→eq xs ys ts.1)
