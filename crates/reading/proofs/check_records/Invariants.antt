use mathlib.Core.Path.{◌≡◌}
use Prim.Native.Nat.{◌-◌, ◌≤◌}
use lib.ListN.{length}
use Rattle.sheet.specs.Sheet.{head_size}
use Rattle.sheet.specs.Reading.{records_refusal}
use Rattle.reading.proofs.check_records.Given as goal

abbrev pub invariant-loop-k : goal.invariant-loop-k
invariant-loop-k l =
    (l.at ≤ length l.sheet)
    × (records_refusal l.sheet (l.paths - l.k) l.k l.at ≡ records_refusal l.sheet l.paths 0 (head_size l.paths))
