-- Numbers in bytes: a number stored comes back, and bytes that were read are those of the number.
use mathlib.Core.Path.{◌≡◌, refl, sym, ap, ap₂, ◌∙◌}
use mathlib.Core.Bool.{Bool, true, false, cond}
use mathlib.Core.List.{List, [], ◌∷◌, ◌++◌, append_assoc}
use Prim.Native.Nat.{ℕ, zero, suc, ◌+◌, ◌-◌, ◌*◌, ◌/◌, ◌%◌, ◌≤◌, ◌<◌}
use native.Mathlib.Nat.{add-zero}
use native.Mathlib.Numerals.{towards_suc}
use native.Mathlib.Omega.{arith}
use borrow.Author.Tests.{ltb-true, ltb-false, lt-ltb, le-ltb}
use lib.Dec.{ltb, lit<}
use lib.IntN.{ℤ, pos, negsuc}
use lib.ListN.{length, get_or, drop, length-append}
use lib.Seq.{get_or-append-add, drop-cons}
use Rattle.numbers.specs.Tables.{All}
use Rattle.sheet.specs.Bytes.{Bytes, Short, up, down, le16, le32, bits16, value_bytes, u16_at, u32_at, signed16, i16_at, values_at}

pub length_values : (zs : List ℤ) → length (value_bytes zs) ≡ 2 * length zs
unfolding value_bytes
length_values [] = refl
length_values (z ∷ zs) = omega (arith, length_values zs)

pub values_length : (b : List ℕ) (p n : ℕ) → length (values_at b p n) ≡ n
unfolding values_at
values_length b p zero = refl
values_length b p (suc n) = ap suc (values_length b (p + 2) n)

-- ---- bytes, and numbers of sixteen bits

-- from 0 to 255: any such list will do
pub all_bytes : (b : List ℕ) → All (λ n. n < 256) b → Bytes b
all_bytes b h = record { byte = each b h }
  where
    each : (b : List ℕ) → All (λ n. n < 256) b → (i : ℕ) → get_or b i 0 < 256
    each [] h i = lit< tt
    each (n ∷ b) h zero = h.0
    each (n ∷ b) h (suc i) = each b h.1 i

-- whatever sixteen bits are
pub signed_short : (n : ℕ) → n < 65536 → Short (signed16 n)
signed_short n h = either (ltb n 32768) refl
  where
    either : (small : Bool) → ltb n 32768 ≡ small → Short (cond small (pos n) (negsuc (65535 - n)))
    either true e = up {n = n} (ltb-true n 32768 e)
    either false e = down {n = 65535 - n} (omega (arith, ltb-false n 32768 e))

-- ---- what stands after x is read as by itself

u16_shift : (x y : List ℕ) (i : ℕ) → u16_at (x ++ y) (length x + i) ≡ u16_at y i
u16_shift x y i =
    let e : length x + i + 1 ≡ length x + (i + 1) = omega arith in
    rw (e, get_or-append-add x y i 0, get_or-append-add x y (i + 1) 0)

pub u16-at : (b x y : List ℕ) (p : ℕ) → b ≡ x ++ y → p ≡ length x → u16_at b p ≡ u16_at y 0
u16-at b x y p eb ep = let e : p ≡ length x + 0 = omega arith in rw (eb, e) (u16_shift x y 0)

pub u32-at : (b x y : List ℕ) (p : ℕ) → b ≡ x ++ y → p ≡ length x → u32_at b p ≡ u32_at y 0
u32-at b x y p eb ep =
    let e : p ≡ length x + 0 = omega arith in
    let f : p + 2 ≡ length x + 2 = omega arith in
    rw (eb, f) (ap₂ (λ (m n : ℕ). m + 65536 * n) (rw e (u16_shift x y 0)) (u16_shift x y 2))

-- ---- a number comes back from its bytes

pub u16_back : (n : ℕ) (y : List ℕ) → n < 65536 → u16_at (le16 n ++ y) 0 ≡ n
u16_back n y h = omega arith

pub u32_back : (n : ℕ) (y : List ℕ) → n < 4294967296 → u32_at (le32 n ++ y) 0 ≡ n
u32_back n y h =
    let a = u16_back (n % 65536) [] (omega arith) in
    let c = u16_back (n / 65536) [] (omega arith) in
    omega (arith, a, c)

pub bits_small : {z : ℤ} → Short z → bits16 z < 65536
bits_small (up h) = omega arith
bits_small (down h) = omega arith

pub signed_back : {z : ℤ} → Short z → signed16 (bits16 z) ≡ z
signed_back (up h) = rw (lt-ltb _ _ h)
signed_back (down {n} h) =
    let g : 32768 ≤ 65535 - n = omega arith in
    let e : 65535 - (65535 - n) ≡ n = omega arith in
    rw (le-ltb _ _ g, e)

i16_back : {z : ℤ} → Short z → (y : List ℕ) → i16_at (le16 (bits16 z) ++ y) 0 ≡ z
i16_back s y = ap signed16 (u16_back _ y (bits_small s)) ∙ signed_back s

pub values_back : (b x : List ℕ) (zs : List ℤ) (y : List ℕ) (p : ℕ) → b ≡ x ++ (value_bytes zs ++ y) → p ≡ length x → All Short zs
    → values_at b p (length zs) ≡ zs
unfolding value_bytes values_at
values_back b x [] y p eb ep s = refl
values_back b x (z ∷ zs) y p eb ep s =
    let e = eb ∙ sym (append_assoc x (le16 (bits16 z)) (value_bytes zs ++ y)) in
    ap₂ ◌∷◌
    (ap signed16 (u16-at b x (value_bytes (z ∷ zs) ++ y) p eb ep) ∙ i16_back s.0 (value_bytes zs ++ y))
    (values_back b (x ++ le16 (bits16 z)) zs y (p + 2) e (rw length-append (omega arith)) s.1)

-- ---- bytes that were read are those of the number

signed_only : (n : ℕ) → n < 65536 → bits16 (signed16 n) ≡ n
signed_only n h = either (ltb n 32768)
  where
    either : (small : Bool) → bits16 (cond small (pos n) (negsuc (65535 - n))) ≡ n
    either true = refl
    either false = omega arith

module _ (b : List ℕ) (bs : Bytes b) where
  u16_small : (p : ℕ) → u16_at b p < 65536
  u16_small p = omega (arith, bs.byte p, bs.byte (p + 1))

  pub u16_only : (p : ℕ) → p + 2 ≤ length b → drop p b ≡ le16 (u16_at b p) ++ drop (p + 2) b
  u16_only p h =
      let low : u16_at b p % 256 ≡ get_or b p 0 = omega (arith, bs.byte p) in
      let high : u16_at b p / 256 ≡ get_or b (p + 1) 0 = omega (arith, bs.byte p) in
      let byte : get_or b (p + 1) 0 % 256 ≡ get_or b (p + 1) 0 = omega (arith, bs.byte (p + 1)) in
      rw (low, high, byte) (simp towards_suc (rw (drop-cons b p 0 (omega arith), drop-cons b (suc p) 0 (omega arith))))

  pub u32_only : (p : ℕ) → p + 4 ≤ length b → drop p b ≡ le32 (u32_at b p) ++ drop (p + 4) b
  u32_only p h =
      let low : u32_at b p % 65536 ≡ u16_at b p = omega (arith, u16_small p) in
      let high : u32_at b p / 65536 ≡ u16_at b (p + 2) = omega (arith, u16_small p) in
      let e : p + 2 + 2 ≡ p + 4 = omega arith in
      rw (low, high, ← e) (u16_only p (omega arith) ∙ ap (λ (y : List ℕ). le16 (u16_at b p) ++ y) (u16_only (p + 2) (omega arith)))

  pub values_only : (p n : ℕ) → p + 2 * n ≤ length b → drop p b ≡ value_bytes (values_at b p n) ++ drop (p + 2 * n) b
  unfolding values_at value_bytes
  values_only p zero h = rw (add-zero p)
  values_only p (suc n) h =
      let e : p + 2 * suc n ≡ p + 2 + 2 * n = omega arith in
      u16_only p (omega arith) ∙ rw (signed_only (u16_at b p) (u16_small p), e, values_only (p + 2) n (omega arith))
