-- A drawing: finest level F, level n, position q in 2^F-ths of the parameter, and the registers of each coordinate. Its own F decides.
use Rattle.std.specs.Prelude.{ℕ}
use Rattle.rules.specs.Refusals.{first_of, refusal_or}
use Rattle.coordinate.specs.declared.Registers.{Registers}
use Rattle.coordinate.specs.Registers.{Operation, turn}
use Rattle.operations.specs.Coordinates.{Coordinate, in_x, in_y, in_width}
use Rattle.operations.specs.Position.{new_level, new_position}
use Rattle.operations.specs.Refusals.{call_refusal, registers_refusal}
use Rattle.engine.specs.declared.Drawing.{Drawing}
use Rattle.engine.specs.Moved.{Moved}

-- the registers of a coordinate
abbrev pub of : Coordinate → Drawing → Registers
of in_x d = d.x
of in_y d = d.y
of in_width d = d.width

-- the drawing after an operation, with registers of any size
unfoldable pub turned : Operation → Drawing → Drawing
turned op d =
    record {
      finest = d.finest;
      level = new_level op d.level;
      q = new_position d.finest op d.level d.q;
      x = turn op d.level d.x;
      y = turn op d.level d.y;
      width = turn op d.level d.width;
    }

-- a refusal gives back the drawing that was given
abbrev pub refused : Drawing → ℕ → Moved
refused old k = record { refusal = k; drawing = old }

-- by the number of a refusal, 0 for none
abbrev pub moved : ℕ → Drawing → Drawing → Moved
moved k old new = refusal_or k (refused old) (record { refusal = 0; drawing = new })

unfoldable pub landed : Drawing → Drawing → Moved
landed old new = moved (registers_refusal (λ c. of c new)) old new

-- what halve, double and step answer: 10 by registers comes last
unfoldable pub called : Operation → Drawing → Moved
called op d =
    moved (first_of (call_refusal d.finest op d.level d.q) (registers_refusal (λ c. of c (turned op d)))) d (turned op d)
