-- Finest level F, level n and position q of a drawing: q counts 2^F-ths of the parameter.
use Rattle.std.specs.Prelude.{Bool, ◌&&◌, ℕ, ◌+◌, ◌-◌, ◌*◌, ◌%◌, ◌^◌, leb, eqb}
use Rattle.rules.specs.Rules.{is_finest}
use Rattle.coordinate.specs.Registers.{Operation, halve, double, step}

-- s: what one step at level n adds to q. A drawing ends at q = 2^F.
abbrev pub stride : ℕ → ℕ → ℕ
stride F n = 2 ^ (F - n)

-- F from 6 to 12, level from 0 to F, q from 0 to 2^F and a multiple of s
unfoldable pub is_drawing : ℕ → ℕ → ℕ → Bool
is_drawing F n q = is_finest F && leb n F && leb q (2 ^ F) && eqb (q % stride F n) 0

-- q is a multiple of 2s
unfoldable pub is_aligned : ℕ → ℕ → ℕ → Bool
is_aligned F n q = eqb (q % (2 * stride F n)) 0

-- the new level and the new position
abbrev pub new_level : Operation → ℕ → ℕ
new_level halve n = n + 1
new_level double n = n - 1
new_level step n = n

abbrev pub new_position : ℕ → Operation → ℕ → ℕ → ℕ
new_position F halve n q = q
new_position F double n q = q
new_position F step n q = q + stride F n
