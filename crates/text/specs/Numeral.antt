-- What the decimal text of a number is, whoever makes it: digits and nothing else, which say the number, and `-` in front where it is below 0.
use Rattle.std.specs.Prelude.{◌≡◌, List, [], ◌∷◌, ◌++◌, ℕ, ◌≤◌, ◌<◌, ℤ, pos, negsuc, nat_abs, length, get_or}
use Rattle.numbers.specs.Tables.{All}
use Rattle.text.specs.Decimal.{value}

-- 0 to 9 in ASCII
abbrev pub DigitByte : ℕ → Type 0
DigitByte b = (48 ≤ b) × (b ≤ 57)

pub record Digits (n : ℕ) (bs : List ℕ) : Type 0 where
  pub only : All DigitByte bs
  pub some : 1 ≤ length bs
  -- of several the first is no 0
  pub front : 1 < length bs → 48 < get_or bs 0 48
  pub says : value bs ≡ n

abbrev pub sign : ℤ → List ℕ
sign (pos n) = []
sign (negsuc n) = 45 ∷ []

pub record Numeral (z : ℤ) (bs : List ℕ) : Type 0 where
  pub digits : List ℕ
  pub signed : bs ≡ sign z ++ digits
  pub size : Digits (nat_abs z) digits
