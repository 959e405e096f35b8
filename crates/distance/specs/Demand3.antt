-- What demand 3 says of a drawing that was reached, at finest level F: p is the course of each coordinate, `along` is the sum of the steps
-- taken.
use Rattle.std.specs.Prelude.{◌≡◌, true, ℕ, ◌^◌, ◌≤◌, ◌<◌}
use Rattle.rules.specs.declared.Degree.{Degree}
use Rattle.rules.specs.Rules.{are_limits}
use Rattle.coordinate.specs.Control.{Control}
use Rattle.coordinate.specs.Course.{Course}
use Rattle.coordinate.specs.Registers.{Operation, halve, double, are_registers}
use Rattle.coordinate.specs.Stands.{Stands, InNumbers}
use Rattle.operations.specs.Coordinates.{Coordinate}
use Rattle.operations.specs.Position.{is_drawing}
use Rattle.engine.specs.declared.Drawing.{Drawing}
use Rattle.engine.specs.Drawing.{of, turned, moved, called}
use Rattle.engine.specs.Choice.{says, choice}
use Rattle.distance.specs.Calls.{ruled}

-- choosing names an operation, and that operation is accepted
pub record Goes (d : Drawing) (upper lower : ℕ) : Type 0 where
  pub operation : Operation
  pub named : choice upper lower d ≡ says operation
  pub accepted : (called operation d).refusal ≡ 0

pub record Demand3 (F : ℕ) (p : Coordinate → Course) (d : Drawing) (along : ℕ) : Type 0 where
  -- no call changes the finest level
  pub finest : d.finest ≡ F
  pub parameter : d.q ≡ along
  pub inside : is_drawing F d.level d.q ≡ true
  -- x, y and the width alike
  pub stands : (c : Coordinate) → Stands F (p c) d.q (of c d)
  -- any further call is refused as level and q say, and never 10, so that the new registers fit 32 bits
  pub call : (op : Operation) → called op d ≡ moved (ruled F op d.level d.q) d (turned op d)
  pub new : (op : Operation) → ruled F op d.level d.q ≡ 0 → (c : Coordinate) → are_registers (of c (turned op d)) ≡ true
  -- halve and double undo one another
  pub back : (called halve d).refusal ≡ 0 → called double (called halve d).drawing ≡ record { refusal = 0; drawing = d }
  pub forth : (called double d).refusal ≡ 0 → called halve (called double d).drawing ≡ record { refusal = 0; drawing = d }
  -- the operation that choosing names is never refused
  pub goes : (upper lower : ℕ) → are_limits upper lower ≡ true → d.q < 2 ^ F → Goes d upper lower

-- ---- at F = 11, in the demand's own numbers; p are the control points, and less than 6,144/65,536 is in `InNumbers`

pub record Eleven (D : Degree) (p : Coordinate → Control D) (d : Drawing) (along : ℕ) : Type 0 where
  pub finest : d.finest ≡ 11
  pub parameter : d.q ≡ along
  pub level : d.level ≤ 11
  pub position : d.q ≤ 2048
  pub stands : (c : Coordinate) → InNumbers D (p c) d.q (of c d)
