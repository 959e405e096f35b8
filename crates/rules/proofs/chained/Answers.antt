-- What is left of the numbers passes the test exactly where all of them do.
use mathlib.Core.Path.{◌≡◌, refl, sym, ap, ap₂, ◌∙◌}
use Prim.Native.Nat.{ℕ, ◌+◌, ◌-◌, ◌≤◌, ◌<◌}
use native.Mathlib.Omega.{arith}
use lib.IntN.{ℤ, pos}
use lib.ListN.{length, get_or}
use mir.Syntax.{w32}
use mir.Facts.{to_z-of_z}
use Rattle.rules.specs.Rules.{coordinates, are_neighbours, are_chained}
use Rattle.rules.proofs.Every.{beside_stop, beside_on, beside_end}
use Rattle.rules.proofs.chained.Goals as goal
use Rattle.rules.proofs.chained.Goals.{After-neighbours, In-loop-j}

abbrev number : After-neighbours → ℕ → ℤ
number c i = get_or c.args.numbers.now i (pos 0)

-- the places that were read
abbrev before : After-neighbours → ℕ
before c = c.loop-j.j - coordinates

abbrev here : After-neighbours → ℕ
here c = c.loop-j.j

-- what was asked are the numbers there
asked : (c : After-neighbours) (i j : ℕ) → before c ≡ i → here c ≡ j → c.neighbours.result ≡ are_neighbours c.args.reach (number c i) (number c j)
asked c i j d e =
    c.neighbours.ensures
    ∙ ap₂ (are_neighbours c.args.reach)
    (to_z-of_z {w = w32} {z = number c (before c)} (record { sfits = omega arith }) ∙ ap (number c) d)
    (to_z-of_z {w = w32} {z = number c (here c)} (record { sfits = omega arith }) ∙ ap (number c) e)

-- both are inside
inside : (c : In-loop-j) → c.loop-j.j - coordinates < length c.args.numbers.now
inside c = omega arith

pub loop-j-init : goal.loop-j-init
unfolding are_chained
loop-j-init c = (omega arith, refl)

pub returns-then-not-neighbours : goal.returns-then-not-neighbours
returns-then-not-neighbours c =
    let told = asked (goal.at.returns-then-not-neighbours c).After-neighbours (c.loop-j.j - coordinates) c.loop-j.j (omega arith) (omega arith) in
    let stop = beside_stop _ _ _ _ _ (inside (goal.at.returns-then-not-neighbours c).In-loop-j) c.loop-j-test.true (sym told ∙ c.if-not-neighbours.true) in
    sym (sym c.loop-j.invariant.1 ∙ stop)

pub loop-j-preserved : goal.loop-j-preserved
loop-j-preserved c =
    let told = asked (goal.at.loop-j-preserved c).After-neighbours (c.loop-j.j - coordinates) c.loop-j.j (omega arith) (omega arith) in
    let on = beside_on _ _ _ _ _ (inside (goal.at.loop-j-preserved c).In-loop-j) c.loop-j-test.true (sym told ∙ c.if-not-neighbours.false) in
    let next : c.loop-j.j + 1 - coordinates ≡ c.loop-j.j - coordinates + 1 = omega (arith, c.loop-j.invariant.0) in
    (omega (arith, c.loop-j.invariant.0), rw next (on ∙ c.loop-j.invariant.1))

pub returns : goal.returns
returns c =
    let ended : length c.args.numbers.now ≤ c.loop-j.j = omega (arith, c.loop-j-test.false) in
    sym (sym c.loop-j.invariant.1 ∙ beside_end c.args.reach _ c.args.numbers.now c.loop-j.j ended)
