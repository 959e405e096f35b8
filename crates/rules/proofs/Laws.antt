-- What the rules say of the numbers that they accept.
use mathlib.Core.Path.{◌≡◌, refl, ap₂}
use mathlib.Core.Bool.{true, ◌&&◌}
use Prim.Native.Nat.{ℕ, ◌+◌, ◌*◌, ◌/◌, ◌≤◌, ◌<◌}
use native.Mathlib.Omega.{arith}
use lib.Dec.{leb, eqb}
use lib.IntN.{ℤ, pos, negsuc, ◌-ℤ◌}
use lib.Signed.{le_z, ◌≤ℤ◌}
use borrow.Author.Tests.{leb-true, eqb-true, le-leb, eq-eqb}
use Rattle.numbers.proofs.Order.{le_z_true, le_le_z}
use Rattle.numbers.proofs.Size.{Size}
use Rattle.numbers.proofs.Tests.{and_true, and_three}
use Rattle.rules.specs.declared.Degree.{Degree}
use Rattle.rules.specs.declared.Degree.TheVariants.{Quadratic, Cubic}
use Rattle.rules.specs.Rules.{is_finest, sheet_finest, degree, is_coordinate, are_neighbours, is_level, are_limits, standard_limits, most_segments, is_segments, point_numbers, is_size, natural}

pub coordinate_size : (p : ℤ) → is_coordinate p ≡ true → Size p 16384
unfolding is_coordinate
coordinate_size (pos n) e = record { le = omega (arith, leb-true n 16383 e) }
coordinate_size (negsuc n) e = record { le = omega (arith, leb-true n 16383 (and_true (leb n 16383) true e).0) }

pub coordinate_range : (p : ℤ) → is_coordinate p ≡ true → (negsuc 16383 ≤ℤ p) × (p ≤ℤ pos 16383)
unfolding is_coordinate
coordinate_range p e =
    let t = and_true (le_z (negsuc 16383) p) (le_z p (pos 16383)) e in
    (le_z_true (negsuc 16383) p t.0, le_z_true p (pos 16383) t.1)

pub range_coordinate : {p : ℤ} → negsuc 16383 ≤ℤ p → p ≤ℤ pos 16383 → is_coordinate p ≡ true
unfolding is_coordinate
range_coordinate h k = ap₂ ◌&&◌ (le_le_z h) (le_le_z k)

-- ---- finest levels

-- from 6 to 12
pub record Fine (F : ℕ) : Type 0 where
  pub least : 6 ≤ F
  pub most : F ≤ 12

pub finest_holds : (F : ℕ) → is_finest F ≡ true → Fine F
unfolding is_finest
finest_holds F e =
    let t = and_true (leb 6 F) (leb F 12) e in
    record { least = leb-true 6 F t.0; most = leb-true F 12 t.1 }

pub holds_finest : {F : ℕ} → Fine F → is_finest F ≡ true
unfolding is_finest
holds_finest {F} f = ap₂ ◌&&◌ (le-leb 6 F f.least) (le-leb F 12 f.most)

-- a sheet's paths keep 11
pub sheet-finest : sheet_finest ≡ 11
sheet-finest = refl

-- a start level is from 0 to the finest
pub level_holds : (F n : ℕ) → is_level F n ≡ true → n ≤ F
unfolding is_level
level_holds F n e = leb-true n F e

pub holds_level : {F n : ℕ} → n ≤ F → is_level F n ≡ true
unfolding is_level
holds_level {F} {n} h = le-leb n F h

-- ---- neighbours

pub neighbours_size : (W : ℕ) (p p' : ℤ) → are_neighbours W p p' ≡ true → Size (p' -ℤ p) W
unfolding are_neighbours
neighbours_size W p p' e = record { le = leb-true _ W e }

pub size_neighbours : (W : ℕ) (p p' : ℤ) → Size (p' -ℤ p) W → are_neighbours W p p' ≡ true
unfolding are_neighbours
size_neighbours W p p' s = le-leb _ W s.le

pub record LawfulLimits (upper lower : ℕ) : Type 0 where
  pub least : 1 ≤ upper
  pub most : upper ≤ 65536
  pub order : lower ≤ upper

pub limits_hold : (upper lower : ℕ) → are_limits upper lower ≡ true → LawfulLimits upper lower
unfolding are_limits
limits_hold upper lower e =
    let t = and_three (leb 1 upper) (leb upper 65536) (leb lower upper) e in
    record { least = leb-true 1 upper t.0; most = leb-true upper 65536 t.1; order = leb-true lower upper t.2 }

pub hold_limits : {upper lower : ℕ} → LawfulLimits upper lower → are_limits upper lower ≡ true
unfolding are_limits
hold_limits {upper} {lower} l =
    ap₂ ◌&&◌ (ap₂ ◌&&◌ (le-leb 1 upper l.least) (le-leb upper 65536 l.most)) (le-leb lower upper l.order)

-- an entry without limits uses 0.7 and 0.35 of a unit, cut to whole 65,536ths
pub standard-limits : (standard_limits.upper ≡ (7 * 65536) / 10) × (standard_limits.lower ≡ (35 * 65536) / 100)
standard-limits = (refl, refl)

-- and keeps rule 4
pub standard_lawful : are_limits standard_limits.upper standard_limits.lower ≡ true
standard_lawful = hold_limits (record { least = omega arith; most = omega arith; order = omega arith })

-- ---- degrees

-- a quadratic has two points after its first, a cubic three
pub degrees : (degree Quadratic ≡ 2) × (degree Cubic ≡ 3)
degrees = (refl, refl)

-- so that the two differ
pub degree_tells : (D E : Degree) → degree D ≡ degree E → D ≡ E
degree_tells Quadratic Quadratic e = refl
degree_tells Quadratic Cubic e = let no : ⊥ = omega arith in absurd no
degree_tells Cubic Quadratic e = let no : ⊥ = omega arith in absurd no
degree_tells Cubic Cubic e = refl

pub degree_some : (D : Degree) → 1 ≤ degree D
degree_some Quadratic = omega arith
degree_some Cubic = omega arith

pub degree_most : (D : Degree) → degree D ≤ 3
degree_most Quadratic = omega arith
degree_most Cubic = omega arith

-- 1 to 64 segments, and 3(D·S + 1) numbers
pub record Sized (D : Degree) (S numbers : ℕ) : Type 0 where
  pub some : 1 ≤ S
  pub most : S ≤ 64
  pub size : numbers ≡ 3 * (degree D * S + 1)

pub size_holds : (D : Degree) (S numbers : ℕ) → is_size D S numbers ≡ true → Sized D S numbers
unfolding is_size is_segments
size_holds D S numbers e =
    let t = and_three (leb 1 S) (leb S most_segments) (eqb numbers (point_numbers D S)) e in
    record { some = leb-true 1 S t.0; most = leb-true S most_segments t.1; size = eqb-true numbers (point_numbers D S) t.2 }

pub holds_size : {D : Degree} {S numbers : ℕ} → Sized D S numbers → is_size D S numbers ≡ true
unfolding is_size is_segments
holds_size {D} {S} {numbers} s =
    ap₂ ◌&&◌ (ap₂ ◌&&◌ (le-leb 1 S s.some) (le-leb S most_segments s.most)) (eq-eqb numbers (point_numbers D S) s.size)

-- at most 64 segments: at most 579 numbers
few_segments : (S : ℕ) → is_segments S ≡ true → S ≤ 64
unfolding is_segments
few_segments S e = leb-true S most_segments (and_true (leb 1 S) (leb S most_segments) e).1

pub few_numbers : (D : Degree) (S : ℕ) → is_segments S ≡ true → point_numbers D S ≤ 579
few_numbers Quadratic S e = omega (arith, few_segments S e)
few_numbers Cubic S e = omega (arith, few_segments S e)

-- ---- numbers of a number list

-- one below 0 is 4,294,967,295, more than any rule allows, and any other is itself
pub below_zero_largest : (n : ℕ) → natural (negsuc n) ≡ 4294967295
below_zero_largest n = refl

pub below_zero_too_large : (n : ℕ) → 65536 < natural (negsuc n)
below_zero_too_large n = omega arith

pub from_zero_itself : (n : ℕ) → natural (pos n) ≡ n
from_zero_itself n = refl

-- so what a rule accepts is not below 0
pub accepted : (z : ℤ) → natural z ≤ 65536 → z ≡ pos (natural z)
accepted (pos n) h = refl
accepted (negsuc n) h = absurd (omega (arith, below_zero_too_large n))
