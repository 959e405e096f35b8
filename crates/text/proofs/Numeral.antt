-- `numeral` is the decimal text of its number, and there is no other.
use mathlib.Core.Path.{◌≡◌, refl, sym, ap, ap₂, ◌∙◌}
use mathlib.Core.List.{List, [], ◌∷◌, ◌++◌, append_assoc, append-nil}
use Prim.Native.Nat.{ℕ, suc, ◌+◌, ◌-◌, ◌*◌, ◌/◌, ◌%◌, ◌≤◌, ◌<◌}
use native.Mathlib.Omega.{arith}
use lib.IntN.{ℤ, pos, negsuc}
use lib.ListN.{length, get_or, length-append}
use Rattle.numbers.specs.Tables.{All}
use Rattle.text.specs.Decimal.{digit, decimal, numeral, value_after, value}
use Rattle.text.specs.Numeral.{DigitByte, Digits, Numeral}
use Rattle.text.proofs.Decimal.{digit_by_digit, decimal_one, decimal_more, reads_back, only_digits}

-- ---- it is one

-- some digits; the first is no 0 where there are several, and where the number is not 0
abbrev Fronted : ℕ → List ℕ → Type 0
Fronted n ds = (1 ≤ length ds) × (1 < length ds → 48 < get_or ds 0 48) × (1 ≤ n → 48 < get_or ds 0 48)

fronted : (n : ℕ) → Fronted n (decimal n)
fronted = digit_by_digit Fronted one more
  where
    one : (n : ℕ) → n < 10 → Fronted n (digit n ∷ [])
    one n h = (omega arith, λ s. absurd (omega (arith, s)), λ s. omega (arith, s))

    first_stays : (ds : List ℕ) (d : ℕ) → 1 ≤ length ds → get_or (ds ++ (d ∷ [])) 0 48 ≡ get_or ds 0 48
    first_stays [] d h = absurd (omega arith)
    first_stays (b ∷ bs) d h = refl

    more : (n : ℕ) (ds : List ℕ) → 10 ≤ n → Fronted (n / 10) ds → Fronted n (ds ++ (digit (n % 10) ∷ []))
    more n ds h f =
        let first = f.2 (omega (arith, h)) in
        let stays = first_stays ds (digit (n % 10)) f.0 in
        (rw length-append (omega arith), λ s. rw stays first, λ s. rw stays first)

pub is_digits : (n : ℕ) → Digits n (decimal n)
is_digits n = let f = fronted n in record { only = only_digits n; some = f.0; front = f.1; says = reads_back n }

pub is_numeral : (z : ℤ) → Numeral z (numeral z)
unfolding numeral
is_numeral (pos n) = record { digits = decimal n; signed = refl; size = is_digits n }
is_numeral (negsuc n) = record { digits = decimal (suc n); signed = refl; size = is_digits (suc n) }

-- ---- and the only one

digit_one : (b : ℕ) → DigitByte b → decimal (b - 48) ≡ b ∷ []
digit_one b d = let same : digit (b - 48) ≡ b = omega arith in decimal_one (b - 48) (omega arith) ∙ ap (λ c. c ∷ []) same

digit_more : (m b : ℕ) → 1 ≤ m → DigitByte b → decimal (10 * m + (b - 48)) ≡ decimal m ++ (b ∷ [])
digit_more m b h d =
    let n = 10 * m + (b - 48) in
    let rest : n / 10 ≡ m = omega arith in
    let last : digit (n % 10) ≡ b = omega arith in
    decimal_more n (omega arith) ∙ ap₂ (λ k c. decimal k ++ (c ∷ [])) rest last

-- digits after those of a number that is not 0
digits_go_on : (m : ℕ) (bs : List ℕ) → 1 ≤ m → All DigitByte bs → decimal m ++ bs ≡ decimal (value_after m bs)
unfolding value_after
digits_go_on m [] h a = append-nil (decimal m)
digits_go_on m (b ∷ bs) h a =
    let next : decimal (10 * m + (b - 48)) ≡ decimal m ++ (b ∷ []) = digit_more m b h a.0 in
    sym (append_assoc (decimal m) (b ∷ []) bs) ∙ ap (λ ds. ds ++ bs) (sym next) ∙ digits_go_on (10 * m + (b - 48)) bs (omega arith) a.1

-- one digit, and any after it: where there are any it is no 0
pub only_decimal : (n : ℕ) (bs : List ℕ) → Digits n bs → bs ≡ decimal n
unfolding value value_after
only_decimal n [] d = absurd (omega (arith, d.some))
only_decimal n (b ∷ bs) d =
    let begun : b - 48 ≡ 10 * 0 + (b - 48) = omega arith in
    let says : value_after (b - 48) bs ≡ n = ap (λ m. value_after m bs) begun ∙ d.says in
    ap (λ ds. ds ++ bs) (sym (digit_one b d.only.0)) ∙ rest bs d.front d.only.1 ∙ ap decimal says
  where
    rest : (bs : List ℕ) → (1 < length (b ∷ bs) → 48 < b) → All DigitByte bs → decimal (b - 48) ++ bs ≡ decimal (value_after (b - 48) bs)
    rest [] f a = append-nil (decimal (b - 48))
    rest (c ∷ bs) f a = digits_go_on (b - 48) (c ∷ bs) (omega (arith, f (omega arith))) a

pub only_numeral : (z : ℤ) (bs : List ℕ) → Numeral z bs → bs ≡ numeral z
unfolding numeral
only_numeral (pos n) bs d = d.signed ∙ only_decimal n d.digits d.size
only_numeral (negsuc n) bs d = d.signed ∙ ap (λ ds. 45 ∷ ds) (only_decimal (suc n) d.digits d.size)
