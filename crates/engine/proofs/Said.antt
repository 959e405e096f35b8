-- What `said` gives of an answer: 0, 1 and 2 are halve, double and step, and it determines the answer. And what choosing answers of a drawing: the
-- operation that the three rules say.
use mathlib.Core.Path.{◌≡◌, refl, sym, ap, ◌∙◌}
use mathlib.Core.Option.{Option, none, some}
use Prim.Native.Nat.{ℕ, zero, suc}
use Rattle.std.specs.Prelude.{Result, Ok, Err}
use Rattle.rules.specs.declared.refused.Refusal.{Refusal}
use Rattle.rules.proofs.Refusals.{answers}
use Rattle.rules.proofs.Numbered.{number_positive, number_determines}
use Rattle.coordinate.specs.Registers.{Operation, halve, double, step}
use Rattle.operations.specs.Refusals.{choice_refusal}
use Rattle.operations.specs.ThreeRules.{Ruled}
use Rattle.operations.proofs.Choice.{rules_choose}
use Rattle.engine.specs.declared.Drawing.{Drawing}
use Rattle.engine.specs.declared.Operation.{Operation as Answer}
use Rattle.engine.specs.declared.Operation.TheVariants.{Halve, Double, Step}
use Rattle.engine.specs.Drawing.{of}
use Rattle.engine.specs.Choice.{chosen, Said, says, refused_by, said, choice}

abbrev coded : ℕ → Said
coded n = record { refusal = 0; operation = some n }

-- the operation that the rules name, and the one that is answered
pub rules_name : (says halve ≡ coded 0) × (says double ≡ coded 1) × (says step ≡ coded 2)
rules_name = (refl, refl, refl)

pub answers_name : (said (Ok Halve) ≡ coded 0) × (said (Ok Double) ≡ coded 1) × (said (Ok Step) ≡ coded 2)
answers_name = (refl, refl, refl)

-- where nothing refuses, by the drawing's own finest level, level, position and registers
pub choice_is_ruled : (upper lower : ℕ) (d : Drawing) (op : Operation) → choice_refusal d.finest upper lower d.level d.q ≡ 0
    → Ruled d.finest upper lower d.level d.q (λ c. of c d) op → choice upper lower d ≡ says op
unfolding choice
choice_is_ruled upper lower d op e w =
    answers refused_by (says (chosen upper lower d)) e ∙ ap says (rules_choose d.finest upper lower d.level d.q (λ c. of c d) op w)

-- ---- the answer is determined

operation_said : Option ℕ → Answer
operation_said none = Step
operation_said (some zero) = Halve
operation_said (some (suc zero)) = Double
operation_said (some (suc (suc m))) = Step

said_back : (a : Answer) → operation_said (said (Ok a)).operation ≡ a
unfolding operation_said
said_back Halve = refl
said_back Double = refl
said_back Step = refl

never_refused : (a : Answer) → (said (Ok a)).refusal ≡ 0
never_refused Halve = refl
never_refused Double = refl
never_refused Step = refl

pub said_determines : (r r' : Result Answer Refusal) → said r ≡ said r' → r ≡ r'
said_determines (Ok a) (Ok b) e = ap Ok (sym (said_back a) ∙ ap (λ (s : Said). operation_said s.operation) e ∙ said_back b)
said_determines (Ok a) (Err s) e = absurd (number_positive s (sym (ap (λ (s : Said). s.refusal) e) ∙ never_refused a))
said_determines (Err r) (Ok b) e = absurd (number_positive r (ap (λ (s : Said). s.refusal) e ∙ never_refused b))
said_determines (Err r) (Err s) e = ap Err (number_determines r s (ap (λ (s : Said). s.refusal) e))
