use mathlib.Core.Path.{◌≡◌}
use Prim.Native.Nat.{◌+◌, ◌-◌, ◌*◌, ◌≤◌}
use lib.ListN.{length}
use Rattle.numbers.proofs.Buffers.{Ahead}
use Rattle.sheet.specs.Bytes.{value_size}
use Rattle.sheet.specs.Sheet.{least_bytes, most_bytes, list_head, head_size, offsets}
use Rattle.sheet.specs.NumberList.{paths_at}
use Rattle.sheet.specs.Writing.{paths_refusal}
use Rattle.writing.proofs.put_offsets.Given as goal

abbrev pub invariant-loop-k : goal.invariant-loop-k
invariant-loop-k l =
    (l.place + value_size * length l.numbers ≤ value_size * l.at + 2 * most_bytes)
    × (paths_refusal l.numbers (l.paths - l.k) l.at ≡ 0)
    × Ahead l.sheet (head_size l.k) (offsets l.place (paths_at l.numbers (l.paths - l.k) l.at)) l.initial.sheet least_bytes (offsets l.initial.place (paths_at l.numbers l.paths list_head))
