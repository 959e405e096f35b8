-- The mark says a degree and a level, and what it says leads back to it.
use mathlib.Core.Path.{◌≡◌, refl, ap, ◌∙◌}
use mathlib.Core.Bool.{Bool, true, false}
use mathlib.Core.List.{[], ◌∷◌, map}
use Prim.Native.Nat.{ℕ, ◌+◌, ◌-◌, ◌≤◌, ◌<◌}
use native.Mathlib.Omega.{arith}
use lib.Dec.{ltb}
use borrow.Author.Tests.{lt-ltb, le-ltb, ltb-true, ltb-false}
use Rattle.rules.specs.declared.Degree.{Degree}
use Rattle.rules.specs.declared.Degree.TheVariants.{Quadratic, Cubic}
use Rattle.rules.specs.declared.Marked.{Marked}
use Rattle.rules.specs.Rules.{mark, marked}

-- ---- any number

-- below 256 a cubic's level
pub marks_cubic : (m : ℕ) → m < 256 → marked m ≡ record { degree = Cubic; level = m }
unfolding marked
marks_cubic m h = rw (lt-ltb m 256 h)

-- from 256 on a quadratic's, with 256 taken off
pub marks_quadratic : (m : ℕ) → 256 ≤ m → marked m ≡ record { degree = Quadratic; level = m - 256 }
unfolding marked
marks_quadratic m h = rw (le-ltb m 256 h)

-- ---- there and back

-- every number is the mark of what it says
pub marked_back : (m : ℕ) → mark (marked m).degree (marked m).level ≡ m
unfolding mark
marked_back m = by_test (ltb m 256) refl
  where
    by_test : (b : Bool) → ltb m 256 ≡ b → mark (marked m).degree (marked m).level ≡ m
    by_test true e = ap (λ (k : Marked). mark k.degree k.level) (marks_cubic m (ltb-true m 256 e))
    by_test false e =
        let h = ltb-false m 256 e in
        let back : m - 256 + 256 ≡ m = omega arith in
        ap (λ (k : Marked). mark k.degree k.level) (marks_quadratic m h) ∙ back

-- a level below 256 and its degree are read back
pub mark_back : (D : Degree) (n : ℕ) → n < 256 → marked (mark D n) ≡ record { degree = D; level = n }
unfolding mark
mark_back Quadratic n h =
    let back : n + 256 - 256 ≡ n = omega arith in
    marks_quadratic (n + 256) (omega arith) ∙ ap (λ (l : ℕ). record { degree = Quadratic; level = l }) back
mark_back Cubic n h = marks_cubic n h

-- ---- the marks at which degree and level change, as one statement over a table

abbrev quadratic : ℕ → Marked
quadratic n = record { degree = Quadratic; level = n }

abbrev cubic : ℕ → Marked
cubic n = record { degree = Cubic; level = n }

-- the last is what a number below 0 is read as
pub marks_say : map marked (0 ∷ 11 ∷ 12 ∷ 255 ∷ 256 ∷ 267 ∷ 268 ∷ 511 ∷ 512 ∷ 65535 ∷ 4294967295 ∷ [])
    ≡ cubic 0
    ∷ cubic 11
    ∷ cubic 12
    ∷ cubic 255
    ∷ quadratic 0
    ∷ quadratic 11
    ∷ quadratic 12
    ∷ quadratic 255
    ∷ quadratic 256
    ∷ quadratic 65279
    ∷ quadratic 4294967039
    ∷ []
unfolding marked
marks_say = refl
