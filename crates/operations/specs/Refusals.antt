-- The refusals of a start, of the three operations and of choosing, each in the document's order. r are the registers of each coordinate, p its
-- control points.
use Rattle.std.specs.Prelude.{Bool, List, [], ◌∷◌, ℕ, ◌^◌, ltb}
use Rattle.rules.specs.declared.Degree.{Degree}
use Rattle.rules.specs.Refusals.{unless, first_of}
use Rattle.rules.specs.Rules.{is_finest, reach, is_level, are_limits}
use Rattle.coordinate.specs.declared.Registers.{Registers}
use Rattle.coordinate.specs.Control.{Control}
use Rattle.coordinate.specs.Points.{are_coordinates, are_near}
use Rattle.coordinate.specs.Registers.{Operation, halve, double, step, are_registers}
use Rattle.operations.specs.Coordinates.{Coordinate, every}
use Rattle.operations.specs.Position.{is_drawing, is_aligned}

-- ---- a start: 24, then 1 over all points of every coordinate, then 2 by the reach of its degree at F, then 3

-- by whether all points are coordinates, and all neighbours near
unfoldable pub begin_refusal : ℕ → Bool → Bool → ℕ → ℕ
begin_refusal F inside near n = unless (is_finest F) 24 (unless inside 1 (unless near 2 (unless (is_level F n) 3 0)))

unfoldable pub start_refusal : (D : Degree) → ℕ → (Coordinate → Control D) → ℕ → ℕ
start_refusal D F p n =
    begin_refusal F (every (λ c. are_coordinates D (p c))) (every (λ c. are_near D (reach D F) (p c))) n

abbrev pub start_table : List ℕ
start_table = 0 ∷ 1 ∷ 2 ∷ 3 ∷ 24 ∷ []

-- ---- halve, double and step

-- 10 by F, level and q, then 5 at the end of the drawing
unfoldable pub gate : ℕ → ℕ → ℕ → ℕ
gate F n q = unless (is_drawing F n q) 10 (unless (ltb q (2 ^ F)) 5 0)

-- what each operation refuses by itself: 6 is halve at level F, 7 double at level 0, 8 double where q is no multiple of 2s
abbrev pub own_refusal : ℕ → Operation → ℕ → ℕ → ℕ
own_refusal F halve n q = unless (ltb n F) 6 0
own_refusal F double n q = unless (ltb 0 n) 7 (unless (is_aligned F n q) 8 0)
own_refusal F step n q = 0

unfoldable pub call_refusal : ℕ → Operation → ℕ → ℕ → ℕ
call_refusal F op n q = first_of (gate F n q) (own_refusal F op n q)

-- 10 by any new register outside 32 bits, which comes last
unfoldable pub registers_refusal : (Coordinate → Registers) → ℕ
registers_refusal new = unless (every (λ c. are_registers (new c))) 10 0

-- the numbers by which an operation may be refused, 0 for none
abbrev pub call_table : Operation → List ℕ
call_table halve = 0 ∷ 5 ∷ 6 ∷ 10 ∷ []
call_table double = 0 ∷ 5 ∷ 7 ∷ 8 ∷ 10 ∷ []
call_table step = 0 ∷ 5 ∷ 10 ∷ []

-- ---- choosing: 4, 10 by F, level and q, 5

unfoldable pub choice_refusal : ℕ → ℕ → ℕ → ℕ → ℕ → ℕ
choice_refusal F upper lower n q = unless (are_limits upper lower) 4 (gate F n q)

abbrev pub choice_table : List ℕ
choice_table = 0 ∷ 4 ∷ 5 ∷ 10 ∷ []

-- under the standard limits
abbrev pub standard_table : List ℕ
standard_table = 0 ∷ 5 ∷ 10 ∷ []
