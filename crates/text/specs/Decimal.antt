-- Numbers as text, in ASCII: decimal digits, the highest first, and `-` in front of a number below 0.
use Rattle.std.specs.Prelude.{cond, List, [], ◌∷◌, ◌++◌, ℕ, zero, suc, ◌+◌, ◌-◌, ◌*◌, ◌/◌, ◌%◌, ltb, eqb, ℤ, pos, negsuc}

abbrev pub digit : ℕ → ℕ
digit d = 48 + d

-- a number of at most `fuel` digits and one: those of n / 10, and the last
unfoldable pub decimal_in : ℕ → ℕ → List ℕ
decimal_in zero n = digit n ∷ []
decimal_in (suc fuel) n = cond (ltb n 10) (digit n ∷ []) (decimal_in fuel (n / 10) ++ (digit (n % 10) ∷ []))

-- no number has more digits than it says (`decimal_one`, `decimal_more` in proofs/Decimal are the equations without fuel)
unfoldable pub decimal : ℕ → List ℕ
decimal n = decimal_in n n

unfoldable pub numeral : ℤ → List ℕ
numeral (pos n) = decimal n
numeral (negsuc n) = 45 ∷ decimal (suc n)

-- the number that digits say, after n: ten times what came before, and the digit
unfoldable pub value_after : ℕ → List ℕ → ℕ
value_after n [] = n
value_after n (b ∷ bs) = value_after (10 * n + (b - 48)) bs

unfoldable pub value : List ℕ → ℕ
value bs = value_after 0 bs

-- and the number that a numeral says
abbrev pub negative : ℕ → ℤ
negative zero = pos 0
negative (suc n) = negsuc n

unfoldable pub number_of : List ℕ → ℤ
number_of [] = pos 0
number_of (b ∷ bs) = cond (eqb b 45) (negative (value bs)) (pos (value (b ∷ bs)))
