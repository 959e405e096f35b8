use mathlib.Core.Path.{◌≡◌}
use Prim.Native.Nat.{◌-◌, ◌≤◌}
use lib.ListN.{length}
use Rattle.sheet.specs.Sheet.{list_head}
use Rattle.sheet.specs.Writing.{paths_refusal}
use Rattle.writing.proofs.check_paths.Given as goal

abbrev pub invariant-loop : goal.invariant-loop
invariant-loop l =
    (l.at ≤ length l.numbers) × (paths_refusal l.numbers (l.paths - l.counter) l.at ≡ paths_refusal l.numbers l.paths list_head)
