-- What the refusals look at in finest level F, level n and position q, said of the numbers. What they look at in control points and registers is in
-- coordinate/proofs (`Lies`, `Reach`, `AllWithin`), and in limits in rules/proofs (`Limits`).
use Rattle.std.specs.Prelude.{◌≡◌, ℕ, ◌-◌, ◌*◌, ◌/◌, ◌%◌, ◌^◌, ◌≤◌, ◌<◌, min}
use Rattle.rules.specs.declared.Degree.{Degree}
use Rattle.rules.specs.declared.Degree.TheVariants.{Quadratic, Cubic}

-- 10 by F, level and q is not: F from 6 to 12, level from 0 to F, q from 0 to 2^F and a multiple of s = 2^(F−n)
pub record Inside (F n q : ℕ) : Type 0 where
  pub finest_least : 6 ≤ F
  pub finest_most : F ≤ 12
  pub level : n ≤ F
  pub position : q ≤ 2 ^ F
  pub whole : q % 2 ^ (F - n) ≡ 0

-- nor 5: q before the end
pub record Open (F n q : ℕ) : Type 0 where
  pub inside : Inside F n q
  pub before_end : q < 2 ^ F

-- 8 is not: q a multiple of 2s
abbrev pub Even : ℕ → ℕ → ℕ → Type 0
Even F n q = q % (2 * 2 ^ (F - n)) ≡ 0

-- 2 is not: neighbours at most so far apart, of a quadratic the smaller of 1,023 and (2^F − 2)/2, of a cubic the smaller of 682 and the floor of
-- (2^F − 2)/3
abbrev pub apart : Degree → ℕ → ℕ
apart Quadratic F = min 1023 ((2 ^ F - 2) / 2)
apart Cubic F = min 682 ((2 ^ F - 2) / 3)
