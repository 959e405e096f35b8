-- Decimal digits: the equations without fuel, that the digits say their number, how many there are, and that io's digits are these.
use mathlib.Core.Path.{◌≡◌, refl, sym, ap, ◌∙◌, subst}
use mathlib.Core.List.{List, [], ◌∷◌, ◌++◌}
use mathlib.Core.Logic.{⊎_elim}
use Prim.Native.Nat.{ℕ, zero, suc, ◌+◌, ◌-◌, ◌*◌, ◌/◌, ◌%◌, ◌^◌, ◌≤◌, ◌<◌}
use native.Mathlib.Nat.{mod-lt, mod-eq_of_lt, pow-suc, one-le-pow}
use native.Mathlib.Omega.{arith}
use borrow.Author.Tests.{lt-ltb, le-ltb, ne_eqb}
use lib.IntN.{ℤ, pos, negsuc, nat_abs}
use lib.ListN.{length, length-append}
use Rattle.std.proofs.lemmas.Bool.{cases_lt}
use Rattle.io.specs.Digits.{last_digits, IsDigitCount}
use Rattle.numbers.specs.Tables.{All}
use Rattle.numbers.proofs.Tables.{all_append}
use Rattle.text.specs.Decimal.{digit, decimal_in, decimal, numeral, value_after, value, negative, number_of}
use Rattle.text.specs.Numeral.{DigitByte}

-- ---- the equations without fuel

last_digit : (fuel n : ℕ) → n < 10 → decimal_in fuel n ≡ digit n ∷ []
unfolding decimal_in
last_digit zero n h = refl
last_digit (suc fuel) n h = rw (lt-ltb n 10 h)

more_digits : (fuel n : ℕ) → 10 ≤ n → decimal_in (suc fuel) n ≡ decimal_in fuel (n / 10) ++ (digit (n % 10) ∷ [])
unfolding decimal_in
more_digits fuel n h = rw (le-ltb n 10 h)

-- what holds of one digit, and of a digit more, holds of all
module _
    (P : ℕ → List ℕ → Type 0)
    (one : (n : ℕ) → n < 10 → P n (digit n ∷ []))
    (more : (n : ℕ) (ds : List ℕ) → 10 ≤ n → P (n / 10) ds → P n (ds ++ (digit (n % 10) ∷ [])))
  where
    within_fuel : (fuel n : ℕ) → n ≤ fuel → P n (decimal_in fuel n)
    within_fuel zero n h = subst (P n) (sym (last_digit zero n (omega arith))) (one n (omega arith))
    within_fuel (suc fuel) n h =
        ⊎_elim
        (λ s. subst (P n) (sym (last_digit (suc fuel) n s)) (one n s))
        (λ s. subst (P n) (sym (more_digits fuel n s)) (more n _ s (within_fuel fuel (n / 10) (omega arith))))
        (cases_lt n 10)

    pub digit_by_digit : (n : ℕ) → P n (decimal n)
    unfolding decimal
    digit_by_digit n = within_fuel n n (omega arith)

enough_fuel : (fuel n : ℕ) → n ≤ fuel → decimal n ≡ decimal_in fuel n
enough_fuel fuel n h = digit_by_digit (λ n ds. (fuel : ℕ) → n ≤ fuel → ds ≡ decimal_in fuel n) one more n fuel h
  where
    one : (n : ℕ) → n < 10 → (fuel : ℕ) → n ≤ fuel → digit n ∷ [] ≡ decimal_in fuel n
    one n s fuel h = sym (last_digit fuel n s)

    more : (n : ℕ) (ds : List ℕ) → 10 ≤ n → ((fuel : ℕ) → n / 10 ≤ fuel → ds ≡ decimal_in fuel (n / 10))
        → (fuel : ℕ) → n ≤ fuel → ds ++ (digit (n % 10) ∷ []) ≡ decimal_in fuel n
    more n ds s again zero h = absurd (omega arith)
    more n ds s again (suc fuel) h = rw (more_digits fuel n s, again fuel (omega arith))

pub decimal_one : (n : ℕ) → n < 10 → decimal n ≡ digit n ∷ []
unfolding decimal
decimal_one n h = last_digit n n h

pub decimal_more : (n : ℕ) → 10 ≤ n → decimal n ≡ decimal (n / 10) ++ (digit (n % 10) ∷ [])
decimal_more n h = rw (enough_fuel n (n / 10) (omega arith)) (enough_fuel (suc n) n (omega arith) ∙ more_digits n n h)

-- ---- what the digits say

value-after : (n : ℕ) (ds : List ℕ) (d : ℕ) → value_after n (ds ++ (digit d ∷ [])) ≡ 10 * value_after n ds + d
unfolding value_after
value-after n [] d = omega arith
value-after n (b ∷ bs) d = value-after (10 * n + (b - 48)) bs d

pub reads_back : (n : ℕ) → value (decimal n) ≡ n
unfolding value value_after
reads_back n = digit_by_digit (λ n ds. value ds ≡ n) one more n
  where
    one : (n : ℕ) → n < 10 → value (digit n ∷ []) ≡ n
    one n h = value-after 0 [] n ∙ omega arith

    more : (n : ℕ) (ds : List ℕ) → 10 ≤ n → value ds ≡ n / 10 → value (ds ++ (digit (n % 10) ∷ [])) ≡ n
    more n ds h e = rw (value-after 0 ds (n % 10), e) (omega arith)

pub only_digits : (n : ℕ) → All DigitByte (decimal n)
only_digits = digit_by_digit (λ n ds. All DigitByte ds) one more
  where
    one : (n : ℕ) → n < 10 → All DigitByte (digit n ∷ [])
    one n h = ((omega arith, omega arith), tt)

    more : (n : ℕ) (ds : List ℕ) → 10 ≤ n → All DigitByte ds → All DigitByte (ds ++ (digit (n % 10) ∷ []))
    more n ds h a = all_append DigitByte ds (digit (n % 10) ∷ []) a ((omega arith, omega arith), tt)

-- ---- a numeral says its number

digits_say : (bs : List ℕ) → All DigitByte bs → number_of bs ≡ pos (value bs)
unfolding number_of value value_after
digits_say [] a = refl
digits_say (b ∷ bs) a = rw (ne_eqb b 45 (λ e. omega (arith, e, a.0.0)))

pub numeral_reads_back : (z : ℤ) → number_of (numeral z) ≡ z
unfolding numeral number_of
numeral_reads_back (pos n) = digits_say (decimal n) (only_digits n) ∙ ap pos (reads_back n)
numeral_reads_back (negsuc n) = ap negative (reads_back (suc n))

-- ---- how many there are

pub decimal_few : (n k : ℕ) → 1 ≤ k → n < 10 ^ k → length (decimal n) ≤ k
decimal_few n zero h s = absurd (omega arith)
decimal_few n (suc zero) h s = rw (decimal_one n s) (omega arith)
decimal_few n (suc (suc k)) h s =
    ⊎_elim
    (λ one. rw (decimal_one n one) (omega arith))
    (λ more.
    rw (decimal_more n more, length-append)
    (omega (arith, decimal_few (n / 10) (suc k) (omega arith) (omega (arith, pow-suc 10 (suc k))))))
    (cases_lt n 10)

pub numeral_few : (z : ℤ) (k : ℕ) → 1 ≤ k → nat_abs z < 10 ^ k → length (numeral z) ≤ k + 1
unfolding numeral
numeral_few (pos n) k h s = omega (arith, decimal_few n k h s)
numeral_few (negsuc n) k h s = omega (arith, decimal_few (suc n) k h s)

-- ---- the digits of io::decimal

one_less : (k : ℕ) → suc k - 1 ≡ k
one_less k = omega arith

pub decimal_digits : (n k : ℕ) → IsDigitCount 10 1 n k → last_digits 10 k n ≡ decimal n
decimal_digits n zero f = absurd (omega (arith, f.0))
decimal_digits n (suc zero) f =
    let small : n < 10 = f.1 in
    rw (mod-eq_of_lt small, lt-ltb n 10 small) (sym (decimal_one n small))
decimal_digits n (suc (suc j)) f =
    let low : 10 ^ suc j ≤ n = rw (one_less (suc j)) at (f.2 (omega arith)) in
    let above = pow-suc 10 (suc j) in
    let below = pow-suc 10 j in
    let some = one-le-pow j 10 (omega arith) in
    let fewest : IsDigitCount 10 1 (n / 10) (suc j) = (omega arith, omega (arith, f.1), λ h. rw (one_less j) (omega arith)) in
    rw (lt-ltb (n % 10) 10 (mod-lt n (omega arith)), decimal_digits (n / 10) (suc j) fewest) (sym (decimal_more n (omega arith)))
