-- The points of a segment as a caller of the engine has them: choosing names one operation after another, and after each step a point is shown.
use Rattle.std.specs.Prelude.{◌≡◌, List, [], ◌∷◌, ◌++◌, ℕ, zero, suc, ◌+◌, ◌*◌, ◌^◌, pos}
use Rattle.coordinate.specs.Registers.{Operation, halve, double, step}
use Rattle.engine.specs.declared.Drawing.{Drawing}
use Rattle.engine.specs.Drawing.{called}
use Rattle.engine.specs.Choice.{says, choice}
use Rattle.engine.specs.Shown.{point}
use Rattle.entries.specs.declared.Entry.{Entry}

-- The operations from d on: choosing names each of them and its call is not refused, until drawing stops at q = 2^F, F being d's finest level.
abbrev pub Goes : ℕ → ℕ → Drawing → List Operation → Type 0
Goes upper lower d [] = d.q ≡ 2 ^ d.finest
Goes upper lower d (op ∷ ops) =
    (choice upper lower d ≡ says op) × ((called op d).refusal ≡ 0) × Goes upper lower (called op d).drawing ops

-- the drawing after each step among them, in order
abbrev pub after_steps : List Operation → Drawing → List Drawing
after_steps [] d = []
after_steps (halve ∷ ops) d = after_steps ops (called halve d).drawing
after_steps (double ∷ ops) d = after_steps ops (called double d).drawing
after_steps (step ∷ ops) d = (called step d).drawing ∷ after_steps ops (called step d).drawing

-- what is listed of a drawing of segment k: position 2^F·k + q, and the point that the engine shows with its width
abbrev pub shown_at : ℕ → ℕ → Drawing → Entry
shown_at F k d = record { position = pos (2 ^ F * k + d.q); x = (point d).x; y = (point d).y; width = (point d).width }

-- the lists of m segments, one after another, from the first on
abbrev pub in_order : ℕ → (ℕ → List Entry) → List Entry
in_order zero part = []
in_order (suc m) part = in_order m part ++ part m
