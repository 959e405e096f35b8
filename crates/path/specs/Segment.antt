-- A segment: its drawings in order, each with the operation that the three rules choose there, until q = 2^F, F being the drawing's finest level.
use Rattle.std.specs.Prelude.{cond, List, [], ◌∷◌, ℕ, zero, suc, ◌^◌, ltb}
use Rattle.engine.specs.declared.Drawing.{Drawing}
use Rattle.coordinate.specs.Registers.{Operation}
use Rattle.engine.specs.Drawing.{turned}
use Rattle.engine.specs.Choice.{chosen, left}

pub record Turn : Type 0 where
  pub drawing : Drawing
  pub operation : Operation

module _ (upper lower : ℕ) where
  abbrev pub turn_at : Drawing → Turn
  turn_at d = record { drawing = d; operation = chosen upper lower d }

  -- the drawing after the chosen operation
  abbrev pub next : Drawing → Drawing
  next d = turned (chosen upper lower d) d

  -- what is left of a segment from d on, in at most `fuel` operations
  unfoldable pub turns_in : ℕ → Drawing → List Turn
  turns_in zero d = []
  turns_in (suc fuel) d = cond (ltb d.q (2 ^ d.finest)) (turn_at d ∷ turns_in fuel (next d)) []

  -- no more than `left` operations are left, so that it ends because q has reached 2^F (`turns_more`, `turns_end` in proofs/Turns)
  unfoldable pub turns : Drawing → List Turn
  turns d = turns_in (left upper d) d
