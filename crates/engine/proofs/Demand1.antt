-- Demand 1 for the engine: every entry answers, or refuses by a number of its table, and a refusal changes nothing.
use mathlib.Core.Path.{◌≡◌, refl, ap}
use mathlib.Core.Option.{none}
use Prim.Native.Nat.{ℕ}
use lib.IntN.{pos}
use Rattle.rules.specs.declared.Degree.{Degree}
use Rattle.rules.specs.Refusals.{Among, first_of}
use Rattle.rules.specs.Rules.{standard_upper, standard_lower}
use Rattle.rules.proofs.Refusals.{number_answered, refused_answers}
use Rattle.coordinate.specs.Control.{Control}
use Rattle.coordinate.specs.Curve.{curve}
use Rattle.coordinate.specs.Registers.{Operation}
use Rattle.operations.specs.Coordinates.{Coordinate}
use Rattle.operations.specs.Refusals.{call_refusal, registers_refusal, call_table, start_refusal, start_table, choice_refusal, choice_table, standard_table}
use Rattle.operations.proofs.Tabled.{call_among, start_among, choice_among, standard_among}
use Rattle.engine.specs.declared.Drawing.{Drawing}
use Rattle.engine.specs.Moved.{Moved}
use Rattle.engine.specs.Drawing.{of, turned, refused, moved, called}
use Rattle.engine.specs.Start.{nothing_drawn, first_drawing, started}
use Rattle.engine.specs.Choice.{Said, says, chosen, refused_by, choice}

-- ---- by the number of a refusal

pub moved_refusal : (k : ℕ) (old new : Drawing) → (moved k old new).refusal ≡ k
moved_refusal k old new = number_answered (refused old) (record { refusal = 0; drawing = new }) (λ (m : Moved). m.refusal) (λ k. refl) refl k

moved_refused : (k : ℕ) (old new : Drawing) → ((moved k old new).refusal ≡ 0 → ⊥) → (moved k old new).drawing ≡ old
moved_refused k old new h =
    ap (λ (m : Moved). m.drawing)
    (refused_answers (refused old) (record { refusal = 0; drawing = new }) (λ (m : Moved). m.refusal) (λ k. refl) refl k h)

-- ---- halve, double and step

pub call_refuses_as_tabled : (op : Operation) (d : Drawing) → Among (called op d).refusal (call_table op)
unfolding called
call_refuses_as_tabled op d = rw moved_refusal (call_among d.finest op d.level d.q (λ c. of c (turned op d)))

pub refused_call_changes_nothing : (op : Operation) (d : Drawing) → ((called op d).refusal ≡ 0 → ⊥) → (called op d).drawing ≡ d
unfolding called
refused_call_changes_nothing op d = moved_refused (first_of (call_refusal d.finest op d.level d.q) (registers_refusal (λ c. of c (turned op d)))) d (turned op d)

-- ---- the start

pub start_refuses_as_tabled : (D : Degree) (F : ℕ) (p : Coordinate → Control D) (n : ℕ) → Among (started D F p n).refusal start_table
unfolding started
start_refuses_as_tabled D F p n = rw moved_refusal (start_among D F p n)

pub refused_start_gives_zeros : (D : Degree) (F : ℕ) (p : Coordinate → Control D) (n : ℕ) → ((started D F p n).refusal ≡ 0 → ⊥)
    → (started D F p n).drawing
    ≡ record {
      finest = 0;
      level = 0;
      q = 0;
      x = record { a = pos 0; b = pos 0; c = pos 0; d = pos 0 };
      y = record { a = pos 0; b = pos 0; c = pos 0; d = pos 0 };
      width = record { a = pos 0; b = pos 0; c = pos 0; d = pos 0 };
    }
unfolding started
refused_start_gives_zeros D F p n = moved_refused (start_refusal D F p n) nothing_drawn (first_drawing F (λ c. curve D (p c)) n)

-- ---- choosing

pub said_refusal : (upper lower : ℕ) (d : Drawing) → (choice upper lower d).refusal ≡ choice_refusal d.finest upper lower d.level d.q
unfolding choice
said_refusal upper lower d = number_answered refused_by (says (chosen upper lower d)) (λ (s : Said). s.refusal) (λ k. refl) refl _

pub choice_refuses_as_tabled : (upper lower : ℕ) (d : Drawing) → Among (choice upper lower d).refusal choice_table
choice_refuses_as_tabled upper lower d = rw said_refusal (choice_among d.finest d.level d.q upper lower)

-- under the standard limits without 4
pub standard_refuses_as_tabled : (d : Drawing) → Among (choice standard_upper standard_lower d).refusal standard_table
standard_refuses_as_tabled d = rw said_refusal (standard_among d.finest d.level d.q)

pub refused_choice_names_nothing : (upper lower : ℕ) (d : Drawing) → ((choice upper lower d).refusal ≡ 0 → ⊥) → (choice upper lower d).operation ≡ none
unfolding choice
refused_choice_names_nothing upper lower d h =
    ap (λ (s : Said). s.operation)
    (refused_answers refused_by (says (chosen upper lower d)) (λ (s : Said). s.refusal) (λ k. refl) refl (choice_refusal d.finest upper lower d.level d.q) h)
