use mathlib.Core.Path.{◌≡◌}
use Prim.Native.Nat.{◌-◌}
use lib.ListN.{drop}
use Rattle.std.specs.Prelude.{◌≤◌}
use Rattle.rules.specs.Rules.{coordinates, are_beside, are_chained}
use Rattle.rules.proofs.chained.Given as goal

abbrev pub invariant-loop-j : goal.invariant-loop-j
invariant-loop-j l = (coordinates ≤ l.j) × (are_beside l.reach (drop (l.j - coordinates) l.numbers) (drop l.j l.numbers) ≡ are_chained l.reach l.numbers)
