-- The numbers that the entries answer are those of the tables, whose order is in operations/proofs/Order: of an operation the refusal by F, level and q
-- first, and 10 by a new register last.
use mathlib.Core.Path.{◌≡◌, ◌∙◌}
use Prim.Native.Nat.{ℕ}
use Rattle.rules.specs.declared.Degree.{Degree}
use Rattle.rules.specs.Refusals.{first_of}
use Rattle.rules.proofs.Refusals.{first_on, first_stop, answers}
use Rattle.coordinate.specs.Control.{Control}
use Rattle.coordinate.specs.Curve.{curve}
use Rattle.coordinate.specs.Registers.{Operation}
use Rattle.coordinate.proofs.Bits.{AllWithin}
use Rattle.operations.specs.Coordinates.{Coordinate}
use Rattle.operations.specs.Refusals.{start_refusal, call_refusal, registers_refusal}
use Rattle.operations.proofs.Order.{registers_refuse_10, registers_accepted}
use Rattle.engine.specs.declared.Drawing.{Drawing}
use Rattle.engine.specs.Drawing.{of, turned, refused, called}
use Rattle.engine.specs.Start.{nothing_drawn, first_drawing, started}
use Rattle.engine.proofs.Demand1.{moved_refusal}

pub start_number : (D : Degree) (F : ℕ) (p : Coordinate → Control D) (n : ℕ) → (started D F p n).refusal ≡ start_refusal D F p n
unfolding started
start_number D F p n = moved_refusal (start_refusal D F p n) nothing_drawn (first_drawing F (λ c. curve D (p c)) n)

module _ (op : Operation) (d : Drawing) where
  call_number : (called op d).refusal ≡ first_of (call_refusal d.finest op d.level d.q) (registers_refusal (λ c. of c (turned op d)))
  unfolding called
  call_number = moved_refusal (first_of (call_refusal d.finest op d.level d.q) (registers_refusal (λ c. of c (turned op d)))) d (turned op d)

  -- whatever its registers are
  pub level_and_q_first : (call_refusal d.finest op d.level d.q ≡ 0 → ⊥) → (called op d).refusal ≡ call_refusal d.finest op d.level d.q
  level_and_q_first h = call_number ∙ first_stop (call_refusal d.finest op d.level d.q) (registers_refusal (λ c. of c (turned op d))) h

  module _ (let_through : call_refusal d.finest op d.level d.q ≡ 0) where
    by_registers : first_of (call_refusal d.finest op d.level d.q) (registers_refusal (λ c. of c (turned op d))) ≡ registers_refusal (λ c. of c (turned op d))
    by_registers = first_on (call_refusal d.finest op d.level d.q) (registers_refusal (λ c. of c (turned op d))) let_through

    pub registers_last : (((c : Coordinate) → AllWithin (of c (turned op d))) → ⊥) → (called op d).refusal ≡ 10
    registers_last h = call_number ∙ by_registers ∙ registers_refuse_10 (λ c. of c (turned op d)) h

    pub turns : ((c : Coordinate) → AllWithin (of c (turned op d))) → called op d ≡ record { refusal = 0; drawing = turned op d }
    unfolding called
    turns h = answers (refused d) _ (by_registers ∙ registers_accepted (λ c. of c (turned op d)) h)
