-- The operations that go from a drawing are determined: choosing names one before the end and none at it. So `steps` of `Listed` gives the whole list.
use mathlib.Core.Path.{◌≡◌, refl, sym, ap, ap₂, ◌∙◌, subst}
use mathlib.Core.List.{List, [], ◌∷◌}
use mathlib.Core.Option.{Option, none, some}
use Prim.Native.Nat.{ℕ, zero, suc, ◌^◌}
use native.Mathlib.Omega.{arith}
use lib.Dec.{ltb}
use borrow.Author.Tests.{ltb-true}
use Rattle.rules.specs.Rules.{are_limits}
use Rattle.rules.proofs.Refusals.{rule_kept, number_answered}
use Rattle.coordinate.specs.Registers.{Operation, halve, double, step}
use Rattle.operations.specs.Position.{is_drawing}
use Rattle.operations.specs.Refusals.{gate, choice_refusal}
use Rattle.engine.specs.declared.Drawing.{Drawing}
use Rattle.engine.specs.Drawing.{called}
use Rattle.engine.specs.Choice.{chosen, Said, says, refused_by, choice}
use Rattle.path.specs.Steps.{Goes}

-- an operation by its number
says_one : (op op' : Operation) → says op ≡ says op' → op ≡ op'
says_one op op' e = sym (meant_says op) ∙ ap (λ (s : Said). meant s.operation) e ∙ meant_says op'
  where
    meant : Option ℕ → Operation
    meant (some zero) = halve
    meant (some (suc zero)) = double
    meant (some (suc (suc n))) = step
    meant none = step

    meant_says : (op : Operation) → meant (says op).operation ≡ op
    meant_says halve = refl
    meant_says double = refl
    meant_says step = refl

-- at the end choosing names none
ended : (upper lower : ℕ) (d : Drawing) (op : Operation) → d.q ≡ 2 ^ d.finest → choice upper lower d ≡ says op → ⊥
unfolding choice choice_refusal gate
ended upper lower d op end named =
    let refusal = number_answered refused_by (says (chosen upper lower d)) (λ (s : Said). s.refusal) (λ k. refl) refl _ in
    let none = sym refusal ∙ ap (λ (s : Said). s.refusal) named in
    let limits = rule_kept (are_limits upper lower) 3 _ none in
    let drawing = rule_kept (is_drawing d.finest d.level d.q) 9 _ limits.1 in
    let before = ltb-true d.q (2 ^ d.finest) (rule_kept (ltb d.q (2 ^ d.finest)) 4 0 drawing.1).0 in
    omega arith

pub goes_only : (upper lower : ℕ) (d : Drawing) (ops ops' : List Operation) → Goes upper lower d ops → Goes upper lower d ops' → ops ≡ ops'
goes_only upper lower d [] [] g g' = refl
goes_only upper lower d [] (op ∷ ops') g g' = absurd (ended upper lower d op g g'.0)
goes_only upper lower d (op ∷ ops) [] g g' = absurd (ended upper lower d op g' g.0)
goes_only upper lower d (op ∷ ops) (op' ∷ ops') g g' =
    let same : op' ≡ op = says_one op' op (sym g'.0 ∙ g.0) in
    let rest = subst (λ (o : Operation). Goes upper lower (called o d).drawing ops') same g'.2 in
    ap₂ ◌∷◌ (sym same) (goes_only upper lower (called op d).drawing ops ops' g.2 rest)
