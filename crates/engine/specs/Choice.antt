-- Choosing the next operation of a drawing, and what is answered.
use Rattle.std.specs.Prelude.{cond, Result, Ok, Err, ℕ, ◌+◌, ◌-◌, ◌*◌, ◌^◌}
use Rattle.std.proofs.Math.Option.{Option, none, some}
use Rattle.rules.specs.declared.refused.Refusal.{Refusal}
use Rattle.rules.specs.Refusals.{refusal_or}
use Rattle.rules.specs.Numbered.{number as refused_number}
use Rattle.coordinate.specs.Registers.{Operation, halve, double, step}
use Rattle.operations.specs.Refusals.{choice_refusal}
use Rattle.operations.specs.Choice.{wants_halve, choose}
use Rattle.engine.specs.declared.Drawing.{Drawing}
use Rattle.engine.specs.declared.Operation.{Operation as Answer}
use Rattle.engine.specs.declared.Operation.TheVariants.{Halve, Double, Step}
use Rattle.engine.specs.Drawing.{of}

abbrev pub chosen : ℕ → ℕ → Drawing → Operation
chosen upper lower d = choose d.finest upper lower d.level d.q (λ c. of c d)

-- A number that falls with every chosen operation (`chosen_falls` in proofs/Ends), so that no more operations than this are left: 2F + 2
-- for each unit of q, and for the level how far it may still be halved, or doubled.
abbrev pub left : ℕ → Drawing → ℕ
left upper d =
    let F = d.finest in
    (2 ^ F - d.q) * (2 * F + 2) + cond (wants_halve F upper d.level (λ c. of c d)) (2 * F + 1 - d.level) d.level

-- ---- the answer, as numbers: the refusal, and the operation where there is none

abbrev pub number : Operation → ℕ
number halve = 0
number double = 1
number step = 2

pub record Said : Type 0 where
  pub refusal : ℕ
  pub operation : Option ℕ

abbrev pub says : Operation → Said
says op = record { refusal = 0; operation = some (number op) }

abbrev pub refused_by : ℕ → Said
refused_by k = record { refusal = k; operation = none }

abbrev pub said : Result Answer Refusal → Said
said (Ok Halve) = says halve
said (Ok Double) = says double
said (Ok Step) = says step
said (Err r) = refused_by (refused_number r)

unfoldable pub choice : ℕ → ℕ → Drawing → Said
choice upper lower d = refusal_or (choice_refusal d.finest upper lower d.level d.q) refused_by (says (chosen upper lower d))
