-- What both loops keep is in proofs/Loops; the measure is what is left of a segment.
use Prim.Native.Nat.{◌+◌}
use Rattle.engine.specs.Choice.{left}
use Rattle.drawer.specs.Accepted.{held}
use Rattle.drawer.proofs.Loops.{Inner, Outer, onward}
use Rattle.drawer.proofs.Accepted.draw_into.Given as goal

abbrev pub invariant-operations : goal.invariant-operations
invariant-operations l =
    let p = held l.self in Inner p l.k (onward p (l.k + 1)) l.list l.t l.d l.initial.list l.initial.t l.initial.d

abbrev pub decreases-operations : goal.decreases-operations
decreases-operations l = left l.self.limits.upper l.d

abbrev pub invariant-segments : goal.invariant-segments
invariant-segments l = Outer (held l.self) l.list l.t l.k l.initial.list l.initial.t l.initial.k
