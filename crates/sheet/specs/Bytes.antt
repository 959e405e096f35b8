-- Numbers in bytes, the lowest byte first: how they are stored, and what stands in the bytes from a place on.
use Rattle.std.specs.Prelude.{cond, List, [], ◌∷◌, ◌++◌, ℕ, zero, suc, ◌+◌, ◌-◌, ◌*◌, ◌/◌, ◌%◌, ◌<◌, ltb, ℤ, pos, negsuc, get_or}

-- every number of the list is a byte
pub record Bytes (b : List ℕ) : Type 0 where
  pub byte : (i : ℕ) → get_or b i 0 < 256

-- a number of sixteen bits
pub data Short : ℤ → Type 0 where
  up : {n : ℕ} → n < 32768 → Short (pos n)
  down : {n : ℕ} → n < 32768 → Short (negsuc n)

-- in so many bytes
abbrev pub value_size : ℕ
value_size = 2

-- ---- stored: u16, u32, signed 16-bit

abbrev pub le16 : ℕ → List ℕ
le16 n = n % 256 ∷ n / 256 % 256 ∷ []

abbrev pub le32 : ℕ → List ℕ
le32 n = le16 (n % 65536) ++ le16 (n / 65536)

abbrev pub bits16 : ℤ → ℕ
bits16 (pos n) = n
bits16 (negsuc n) = 65535 - n

-- numbers one after another, in sixteen bits each
unfoldable pub value_bytes : List ℤ → List ℕ
value_bytes [] = []
value_bytes (z ∷ zs) = le16 (bits16 z) ++ value_bytes zs

-- ---- read at place p

abbrev pub u16_at : List ℕ → ℕ → ℕ
u16_at b p = get_or b p 0 + 256 * get_or b (p + 1) 0

abbrev pub u32_at : List ℕ → ℕ → ℕ
u32_at b p = u16_at b p + 65536 * u16_at b (p + 2)

abbrev pub signed16 : ℕ → ℤ
signed16 n = cond (ltb n 32768) (pos n) (negsuc (65535 - n))

abbrev pub i16_at : List ℕ → ℕ → ℤ
i16_at b p = signed16 (u16_at b p)

-- n numbers one after another
unfoldable pub values_at : List ℕ → ℕ → ℕ → List ℤ
values_at b p zero = []
values_at b p (suc n) = i16_at b p ∷ values_at b (p + value_size) n
