-- What it says of F, level and q that a call or choosing is not refused by them, and that nothing is cut off where specs/ subtract.
use mathlib.Core.Path.{◌≡◌, sym, ap, ◌∙◌}
use mathlib.Core.Bool.{true, ◌&&◌}
use Prim.Native.Nat.{ℕ, ◌+◌, ◌-◌, ◌*◌, ◌%◌, ◌^◌, ◌≤◌}
use native.Mathlib.Nat.{sub-le, le_trans}
use native.Mathlib.Omega.{arith}
use lib.Dec.{leb, ltb, eqb}
use lib.Pow.{pow-add, pow_mono}
use borrow.Author.Tests.{leb-true, ltb-true, eqb-true, le-leb, eq-eqb}
use Rattle.numbers.proofs.Tests.{and_four}
use Rattle.rules.specs.Refusals.{unless}
use Rattle.rules.specs.Rules.{is_finest, are_limits}
use Rattle.rules.proofs.Laws.{finest_holds, holds_finest}
use Rattle.rules.proofs.Refusals.{rule_kept, first_kept}
use Rattle.coordinate.specs.Registers.{Operation, double}
use Rattle.operations.specs.Position.{stride, is_drawing, is_aligned}
use Rattle.operations.specs.Refusals.{gate, own_refusal, call_refusal, choice_refusal}
use Rattle.operations.specs.Lawful.{Inside, Open}

pub inside : (F n q : ℕ) → is_drawing F n q ≡ true → Inside F n q
unfolding is_drawing
inside F n q e =
    let t = and_four (is_finest F) (leb n F) (leb q (2 ^ F)) (eqb (q % stride F n) 0) e in
    let f = finest_holds F t.0 in
    record {
      finest_least = f.least;
      finest_most = f.most;
      level = leb-true n F t.1;
      position = leb-true q (2 ^ F) t.2;
      whole = eqb-true (q % stride F n) 0 t.3;
    }

pub is-drawing : (F n q : ℕ) → Inside F n q → is_drawing F n q ≡ true
unfolding is_drawing
is-drawing F n q i = λ k.
    holds_finest {F = F} (record { least = i.finest_least; most = i.finest_most }) k
    && le-leb n F i.level k
    && le-leb q (2 ^ F) i.position k
    && eq-eqb (q % stride F n) 0 i.whole k

-- ---- a gate that lets through

pub opens : (F n q : ℕ) → gate F n q ≡ 0 → Open F n q
unfolding gate
opens F n q e =
    let f = rule_kept (is_drawing F n q) 9 (unless (ltb q (2 ^ F)) 5 0) e in
    let g = rule_kept (ltb q (2 ^ F)) 4 0 f.1 in
    record { inside = inside F n q f.0; before_end = ltb-true q (2 ^ F) g.0 }

pub call_opens : (F : ℕ) (op : Operation) (n q : ℕ) → call_refusal F op n q ≡ 0 → Open F n q × (own_refusal F op n q ≡ 0)
unfolding call_refusal
call_opens F op n q e = let f = first_kept (gate F n q) (own_refusal F op n q) e in (opens F n q f.0, f.1)

-- so that what is shifted by the level stays small
pub call_low : (F : ℕ) (op : Operation) (n q : ℕ) → call_refusal F op n q ≡ 0 → n ≤ 12
call_low F op n q e = let i = (call_opens F op n q e).0.inside in le_trans i.level i.finest_most

pub choice_opens : (F upper lower n q : ℕ) → choice_refusal F upper lower n q ≡ 0 → (are_limits upper lower ≡ true) × Open F n q
unfolding choice_refusal
choice_opens F upper lower n q e = let f = rule_kept (are_limits upper lower) 3 (gate F n q) e in (f.0, opens F n q f.1)

-- ---- the step s times 2^n is the whole, and a double starts above level 0

pub stride_most : (F n : ℕ) → stride F n ≤ 2 ^ F
stride_most F n = pow_mono (sub-le F n)

pub stride_whole : (F n q : ℕ) → is_drawing F n q ≡ true → stride F n * 2 ^ n ≡ 2 ^ F
stride_whole F n q e =
    let h = (inside F n q e).level in
    let whole : F - n + n ≡ F = omega arith in
    sym (pow-add 2 (F - n) n) ∙ ap (λ (k : ℕ). 2 ^ k) whole

pub double_whole : (F n q : ℕ) → call_refusal F double n q ≡ 0 → n - 1 + 1 ≡ n
unfolding call_refusal
double_whole F n q e =
    let own = (first_kept (gate F n q) (own_refusal F double n q) e).1 in
    let above = ltb-true 0 n (rule_kept (ltb 0 n) 6 (unless (is_aligned F n q) 8 0) own).0 in
    omega arith
