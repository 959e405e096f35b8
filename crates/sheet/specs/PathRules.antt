-- The rules of one path, in reading and in writing.
use Rattle.std.specs.Prelude.{Bool, ℕ}
use Rattle.rules.specs.Refusals.{unless, first_of}
use Rattle.rules.specs.Rules.{sheet_finest, head_refusal, points_refusal}
use Rattle.sheet.specs.Sheet.{Target, sheet_reach}

-- `begins`: its segments and mark are there; `ends`: its points are there too. One that ends early has the number `short`: 15 of a sheet,
-- 17 of a number list. So: short, 14, 3, short, 1, 2.
unfoldable pub path_rules : ℕ → Bool → Bool → Target → ℕ
path_rules short begins ends p =
    unless begins short
    (first_of (head_refusal sheet_finest p.segments p.level)
    (unless ends short (points_refusal (sheet_reach p.degree) p.points)))
