use mathlib.Core.Path.{◌≡◌}
use lib.ListN.{take}
use lib.Seq.{sets}
use Rattle.sheet.specs.Bytes.{value_bytes}
use Rattle.writing.proofs.put_values.Given as goal

abbrev pub invariant-loop-i : goal.invariant-loop-i
invariant-loop-i l = l.sheet ≡ sets l.initial.sheet l.p (value_bytes (take l.i l.values))
