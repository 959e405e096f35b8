-- What the machine holds of registers and control points, four numbers of 32 bits each.
use mathlib.Core.Path.{◌≡◌, sym, ap, ◌∙◌, subst}
use mathlib.Core.Bool.{true, ◌&&◌, true≢false}
use Prim.Native.Nat.{◌^◌, ◌<◌}
use lib.IntN.{ℤ}
use lib.Signed.{mag}
use mir.Syntax.{w32, w64}
use mir.Val.{SFits, to_z, of_z}
use mir.Facts.{to_z-of_z}
use Rattle.numbers.proofs.Machine.{Num, fits_size, reads_back, widens}
use Rattle.std.specs.Prelude.{Result, Ok, Err, IsErr}
use Rattle.rules.proofs.Refusals.{broken}
use Rattle.coordinate.specs.declared.Registers.{Registers}
use Rattle.coordinate.specs.Registers.{are_registers}
use Rattle.engine.specs.declared.turning.Wide.{Wide}
use Rattle.coordinate.proofs.Bits.{Four, Fitting, Fits32, fits_register}
use Rattle.engine.specs.Wide.{narrowed, Narrows}

-- as the borrow checker tells it of a struct of four such numbers
pub told : {p q r s : ℤ} {A B C D E : Type 0}
    → ((A × (mag p < 2 ^ 31)) × ((B × (mag q < 2 ^ 31)) × ((C × (mag r < 2 ^ 31)) × ((D × (mag s < 2 ^ 31)) × E))))
    → Fitting p q r s
told t =
    record {
      a = record { sfits = t.0.1 };
      b = record { sfits = t.1.0.1 };
      c = record { sfits = t.1.1.0.1 };
      d = record { sfits = t.1.1.1.0.1 };
    }

-- and of three
pub told_three : {p q r : ℤ} {A B C E : Type 0} → ((A × (mag p < 2 ^ 31)) × ((B × (mag q < 2 ^ 31)) × ((C × (mag r < 2 ^ 31)) × E)))
    → SFits w32 p × SFits w32 q × SFits w32 r
told_three t = (record { sfits = t.0.1 }, record { sfits = t.1.0.1 }, record { sfits = t.1.1.0.1 })

-- the widened registers, as the machine holds them
pub record Widened (w : Wide) (r : Registers) : Type 0 where
  pub a : Num 2147483648 r.a
  pub b : Num 2147483648 r.b
  pub c : Num 2147483648 r.c
  pub d : Num 2147483648 r.d

abbrev pub held : (v : ℤ) {z : ℤ} → SFits w32 z → v ≡ z → Num 2147483648 z
held v f e = record { machine = to_z w64 (of_z w64 v); is = reads_back e (widens f); small = fits_size f }

abbrev pub widened : (w : Wide) (r : Registers) → Fits32 r → narrowed w ≡ r → Widened w r
widened w r f e =
    record {
      a = held w.a f.a (ap (λ (s : Registers). s.a) e);
      b = held w.b f.b (ap (λ (s : Registers). s.b) e);
      c = held w.c f.c (ap (λ (s : Registers). s.c) e);
      d = held w.d f.d (ap (λ (s : Registers). s.d) e);
    }

-- a field after `from`
abbrev pub from_field : {v z : ℤ} → SFits w32 z → v ≡ to_z w32 (of_z w32 z) → Num 2147483648 z
from_field {v} f e = held v f (e ∙ to_z-of_z f)

-- ---- numbers of 64 bits that are narrowed

pub told_wide : {p q r s : ℤ} {A B C D E : Type 0}
    → ((A × (mag p < 2 ^ 63)) × ((B × (mag q < 2 ^ 63)) × ((C × (mag r < 2 ^ 63)) × ((D × (mag s < 2 ^ 63)) × E))))
    → Four (SFits w64) p q r s
told_wide t =
    record {
      a = record { sfits = t.0.1 };
      b = record { sfits = t.1.0.1 };
      c = record { sfits = t.1.1.0.1 };
      d = record { sfits = t.1.1.1.0.1 };
    }

-- one that fits 32 bits is kept
pub keeps : {v z : ℤ} → SFits w64 z → SFits w32 (to_z w64 (of_z w64 z)) × (v ≡ to_z w64 (of_z w64 z)) → SFits w32 z × (to_z w32 (of_z w32 v) ≡ z)
keeps f h =
    let e = to_z-of_z f in
    let small = subst (SFits w32) e h.0 in
    (small, reads_back (h.1 ∙ e) small)

-- the narrowed registers where all four fit, and otherwise an error
pub fit : (w : Wide) {a b c d : ℤ} → Four (SFits w32) w.a w.b w.c w.d → a ≡ w.a → b ≡ w.b → c ≡ w.c → d ≡ w.d
    → (are_registers (narrowed w) ≡ true) × (record { a = a; b = b; c = c; d = d } ≡ narrowed w)
unfolding are_registers
fit w f a-is b-is c-is d-is = (
  (λ i. fits_register w.a f.a i && fits_register w.b f.b i && fits_register w.c f.c i && fits_register w.d f.d i),
  (λ i. record { a = a-is i; b = b-is i; c = c-is i; d = d-is i }),
)

pub unfit : {E : Type 0} (w : Wide) (r : Result Registers E) → IsErr r → (are_registers (narrowed w) ≡ true → ⊥) → Narrows w r
unfit w (Ok r) i h = absurd (true≢false (sym i))
unfit w (Err e) i h = broken (are_registers (narrowed w)) h
