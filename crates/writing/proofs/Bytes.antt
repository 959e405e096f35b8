-- Bytes in a sheet: a run of them that is copied is a run of stores, and what the library makes of a number are the bytes of a sheet.
use mathlib.Core.Path.{◌≡◌, refl}
use mathlib.Core.List.{List, [], ◌∷◌, append_assoc}
use Prim.Native.Nat.{ℕ, ◌+◌, ◌-◌, ◌/◌, ◌%◌, ◌≤◌}
use native.Mathlib.Omega.{arith}
use borrow.Rule.Slice.PartMut.{put_mid, Post-is}
use lib.IntN.{ℤ}
use lib.ListN.{length, take, drop}
use lib.Seq.{sets, sets-eq}
use mir.Syntax.{w16, w32}
use mir.Val.{SFits, to_z, of_z}
use mir.Facts.{to_z-of_z}
use Rattle.sheet.specs.Bytes.{Short, up, down, le32, bits16}

-- bytes copied into the part of a sheet that begins at `at`
pub copied_as : (l : List ℕ) (at : ℕ) {found : List ℕ} (bytes : List ℕ) → found ≡ bytes → at + length bytes ≤ length l
    → put_mid at (at + length bytes - at) l found ≡ sets l at bytes
copied_as l at bytes e h =
    rw (e, Post-is at (at + length bytes) l (omega arith), sets-eq bytes l at h, append_assoc (take at l) bytes (drop (at + length bytes) l))

-- the bytes of `to_le_bytes`
pub bytes_32 : (n : ℕ) → n % 256 ∷ n / 256 % 256 ∷ n / 65536 % 256 ∷ n / 16777216 % 256 ∷ [] ≡ le32 n
bytes_32 n =
    let first : n % 65536 % 256 ≡ n % 256 = omega arith in
    let second : n % 65536 / 256 % 256 ≡ n / 256 % 256 = omega arith in
    let fourth : n / 65536 / 256 % 256 ≡ n / 16777216 % 256 = omega arith in
    rw (first, second, fourth)

-- a number of sixteen bits, cast to `i16` and its bits taken
pub bits_16 : {z : ℤ} → Short z → of_z w16 (to_z w16 (of_z w16 (to_z w32 (of_z w32 z)))) ≡ bits16 z
bits_16 {z} s = rw (to_z-of_z {w = w32} (wide s), to_z-of_z {w = w16} (fits s)) (bits s)
  where
    fits : {z : ℤ} → Short z → SFits w16 z
    fits (up h) = record { sfits = h }
    fits (down h) = record { sfits = h }

    wide : {z : ℤ} → Short z → SFits w32 z
    wide (up h) = record { sfits = omega (arith, h) }
    wide (down h) = record { sfits = omega (arith, h) }

    bits : {z : ℤ} → Short z → of_z w16 z ≡ bits16 z
    bits (up h) = refl
    bits (down h) = omega arith
