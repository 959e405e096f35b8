-- A number comes back from its bytes, the lowest first.
use mathlib.Core.Path.{◌≡◌}
use Prim.Native.Nat.{ℕ, ◌/◌, ◌%◌}
use native.Mathlib.Omega.{arith}
use Rattle.words.specs.LittleEndian.{word_of}

pub word_back : (n : ℕ) → word_of (n % 256) (n / 256 % 256) (n / 65536 % 256) (n / 16777216) ≡ n
word_back n = omega arith
