-- Signed numbers of the machine, read as whole numbers. `Num N z`: what the machine holds is z, and |z| is at most N.
-- A proof follows its code: a parameter or a field is `field`, what went through a local is `local` or `kept`, and `shift`, `plus`, `minus` and
-- `times` are the operations. The bounds are numerals that antt computes, so that each condition is `tt`.
use mathlib.Core.Path.{◌≡◌, refl, sym, ap, ◌∙◌, subst}
use mathlib.Core.Bool.{true, false}
use mathlib.Core.List.{List}
use Prim.Native.Nat.{ℕ, ◌+◌, ◌*◌, ◌%◌, ◌^◌, ◌≤◌, ◌<◌}
use native.Mathlib.Nat.{lt_of_le_of_lt, le_of_lt, mod-eq_of_lt, one-mul}
use native.Mathlib.Omega.{arith}
use lib.Dec.{T, leb, ltb, leb→le, ltb→lt}
use lib.Pow.{pow_pos, pow_mono}
use lib.IntN.{ℤ, pos, negsuc, nat_abs, ◌+ℤ◌, ◌-ℤ◌, ◌*ℤ◌}
use lib.ListN.{get_or}
use lib.Signed.{mag, mag_shr, shr_z, non_neg}
use mir.Syntax.{Width, w32, w64}
use mir.Val.{Fits, SFits, to_z, of_z, bits, hbits}
use mir.Facts.{to_z-of_z, sfits_widen}
use mir.ValLaws.{sfits_le}
use borrow.Author.Rules.{rules}
use Rattle.numbers.specs.Tests.{eqbℤ}
use Rattle.numbers.proofs.Tests.{eq→eqbℤ, ne→eqbℤ}
use Rattle.numbers.proofs.Size.{Size, size_of, size_sum, size_difference, size_product, size_by, size_floor, size_shift}

pub record Num (N : ℕ) (z : ℤ) : Type 0 where
  pub machine : ℤ
  pub is : machine ≡ z
  pub small : Size z N

-- ---- ranges

mag_size : {z : ℤ} {m : ℕ} → Size z m → mag z ≤ m
mag_size {z = pos n} s = s.le
mag_size {z = negsuc n} s = omega (arith, s.le)

size_mag : (z : ℤ) (m : ℕ) → mag z < m → Size z m
size_mag (pos n) m h = record { le = le_of_lt h }
size_mag (negsuc n) m h = record { le = h }

pub size_fits : {w : Width} {z : ℤ} {N : ℕ} → T (ltb N (2 ^ hbits w)) → Size z N → SFits w z
size_fits {w} {z} {N} t s = record { sfits = lt_of_le_of_lt (mag_size s) (ltb→lt N (2 ^ hbits w) t) }

pub fits_size : {w : Width} {z : ℤ} → SFits w z → Size z (2 ^ hbits w)
fits_size {w} {z} f = size_mag z (2 ^ hbits w) f.sfits

-- what a sum or a product asks
pub fits : {w : Width} {N : ℕ} {z : ℤ} → T (ltb N (2 ^ hbits w)) → (n : Num N z) → SFits w n.machine
fits {w} t n = subst (SFits w) (sym n.is) (size_fits t n.small)

-- what the machine reads back
pub reads_back : {w : Width} {y z : ℤ} → y ≡ z → SFits w z → to_z w (of_z w y) ≡ z
reads_back {w} e f = ap (λ (v : ℤ). to_z w (of_z w v)) e ∙ to_z-of_z f

-- a number that is read out of a list is of 32 bits; j is its place in other words
pub number_read : (l : List ℤ) (i j : ℕ) → i ≡ j → mag (get_or l i (pos 0)) < 2 ^ 31 → to_z w32 (of_z w32 (get_or l i (pos 0))) ≡ get_or l j (pos 0)
number_read l i j e h = to_z-of_z {w = w32} (record { sfits = h }) ∙ ap (λ (n : ℕ). get_or l n (pos 0)) e

-- ---- where a number comes from

abbrev pub field : {w : Width} {z : ℤ} → SFits w z → Num (2 ^ hbits w) z
field {w} {z} f = record { machine = to_z w (of_z w z); is = to_z-of_z f; small = fits_size f }

-- a field or a parameter whose size is known better
abbrev pub known : (w : Width) {N : ℕ} {z : ℤ} → T (ltb N (2 ^ hbits w)) → Size z N → Num N z
known w {z = z} t s = record { machine = to_z w (of_z w z); is = to_z-of_z (size_fits t s); small = s }

-- a value that the proof speaks of as it is
abbrev pub plain : {N : ℕ} {z : ℤ} → Size z N → Num N z
plain {z = z} s = record { machine = z; is = refl; small = s }

abbrev pub literal : (n : ℕ) → Num n (pos n)
literal n = plain (size_of n)

-- through a local that has room for it
abbrev pub kept : (w : Width) {N : ℕ} {z : ℤ} → SFits w z → Num N z → Num N z
kept w f n = record { machine = to_z w (of_z w n.machine); is = reads_back n.is f; small = n.small }

-- the same by its bound
abbrev pub local : (w : Width) {N : ℕ} {z : ℤ} → T (ltb N (2 ^ hbits w)) → Num N z → Num N z
local w t n = kept w (size_fits t n.small) n

-- the same number under a better bound
abbrev pub tighter : {N M : ℕ} {z : ℤ} → Size z M → Num N z → Num M z
tighter s n = record { machine = n.machine; is = n.is; small = s }

-- ---- the operations

abbrev pub shift : {N : ℕ} {z : ℤ} (k : ℕ) → Num N z → Num N (shr_z z (2 ^ k))
shift k n =
    record {
      machine = shr_z n.machine (2 ^ k);
      is = ap (λ (v : ℤ). shr_z v (2 ^ k)) n.is;
      small = size_shift (2 ^ k) (pow_pos k) n.small;
    }

-- the shifted number fits where the number does
pub shift_fits : {w : Width} {z : ℤ} (k : ℕ) → SFits w z → SFits w (shr_z z (2 ^ k))
shift_fits {z = z} k = sfits_le (mag_shr z (2 ^ k))

-- under a bound that shrinks with it
abbrev pub shift_to : {N : ℕ} {z : ℤ} (k M : ℕ) → T (leb N (M * 2 ^ k)) → Num N z → Num M (shr_z z (2 ^ k))
shift_to {N} k M t n =
    record {
      machine = shr_z n.machine (2 ^ k);
      is = ap (λ (v : ℤ). shr_z v (2 ^ k)) n.is;
      small = size_floor (2 ^ k) (pow_pos k) (size_by refl (leb→le N (M * 2 ^ k) t) n.small);
    }

abbrev pub plus : {N M : ℕ} {u v : ℤ} → Num N u → Num M v → Num (N + M) (u +ℤ v)
plus a b =
    record { machine = a.machine +ℤ b.machine; is = λ i. a.is i +ℤ b.is i; small = size_sum a.small b.small }

abbrev pub minus : {N M : ℕ} {u v : ℤ} → Num N u → Num M v → Num (N + M) (u -ℤ v)
minus a b =
    record { machine = a.machine -ℤ b.machine; is = λ i. a.is i -ℤ b.is i; small = size_difference a.small b.small }

abbrev pub times : {N M : ℕ} {u v : ℤ} → Num N u → Num M v → Num (N * M) (u *ℤ v)
times a b =
    record { machine = a.machine *ℤ b.machine; is = λ i. a.is i *ℤ b.is i; small = size_product a.small b.small }

-- 1 << k, unsigned and in 32 bits
pub power : (k : ℕ) → k ≤ 31 → 1 * 2 ^ k % 4294967296 ≡ 2 ^ k
power k h = let fits : 2 ^ k ≤ 2147483648 = pow_mono {j = 31} h in mod-eq_of_lt (omega arith) ∙ one-mul (2 ^ k)

-- ---- equal numbers, by their bits

pub same_bits : {w : Width} {x y : ℤ} → SFits w x → SFits w y → of_z w x ≡ of_z w y → eqbℤ x y ≡ true
same_bits {w} {x} {y} f g e = eq→eqbℤ x y (sym (to_z-of_z f) ∙ ap (to_z w) e ∙ to_z-of_z g)

pub other_bits : (w : Width) (x y : ℤ) → (of_z w x ≡ of_z w y → ⊥) → eqbℤ x y ≡ false
other_bits w x y h = ne→eqbℤ x y (λ e. h (ap (of_z w) e))

-- ---- casts

pub widens : {z : ℤ} → SFits w32 z → SFits w64 z
widens f = sfits_widen tt f

pub narrows : {z : ℤ} → SFits w32 z → SFits w32 (to_z w64 (of_z w64 z))
narrows f = subst (SFits w32) (sym (to_z-of_z (widens f))) f

-- to an unsigned type as wide
pub unsigned : {w : Width} {N : ℕ} {z : ℤ} → T (ltb N (2 ^ bits w)) → (n : Num N z) → T (non_neg z) → T (non_neg n.machine) × Fits w (nat_abs n.machine)
unsigned {w} {N} t n p =
    subst (λ (v : ℤ). T (non_neg v) × Fits w (nat_abs v)) (sym n.is)
    (p, record { fits = lt_of_le_of_lt n.small.le (ltb→lt N (2 ^ bits w) t) })

-- for `search`: a signed number that is read, cast to a wider type, or returned
pub ruleset signed = (rules, to_z-of_z, widens)
