-- An accepted operation leads to a drawing again, at the same F: level from 0 to F, q up to the end and a multiple of the new s. That is what
-- refusals 5, 6, 7 and 8 are for.
use mathlib.Core.Path.{◌≡◌, sym, ap, ◌∙◌}
use mathlib.Core.Bool.{true}
use Prim.Native.Nat.{ℕ, suc, ◌+◌, ◌-◌, ◌*◌, ◌/◌, ◌%◌, ◌^◌, ◌≤◌, ◌<◌}
use native.Mathlib.Nat.{pow-succ', mul_assoc}
use native.Mathlib.Omega.{arith}
use lib.Dec.{ltb}
use lib.Pow.{pow-add}
use borrow.Author.Tests.{ltb-true, eqb-true}
use Rattle.numbers.proofs.Multiples.{multiple, remainder, next_multiple}
use Rattle.rules.specs.Refusals.{unless}
use Rattle.rules.proofs.Refusals.{rule_kept}
use Rattle.coordinate.specs.Registers.{Operation, halve, double, step}
use Rattle.operations.specs.Position.{stride, is_drawing, is_aligned, new_level, new_position}
use Rattle.operations.specs.Refusals.{call_refusal}
use Rattle.operations.specs.Lawful.{Open}
use Rattle.operations.proofs.Gates.{is-drawing, call_opens}

-- ---- strides

-- two finer strides are one
pub two_finer : (F n : ℕ) → n < F → stride F n ≡ 2 * stride F (n + 1)
two_finer F n h =
    let e : F - n ≡ suc (F - (n + 1)) = omega arith in
    ap (λ (k : ℕ). 2 ^ k) e ∙ pow-succ' 2 (F - (n + 1))

pub one_coarser : (F n : ℕ) → 0 < n → n ≤ F → stride F (n - 1) ≡ 2 * stride F n
one_coarser F n h k =
    let e : F - (n - 1) ≡ suc (F - n) = omega arith in
    ap (λ (j : ℕ). 2 ^ j) e ∙ pow-succ' 2 (F - n)

-- a step from before the end stays inside
pub step_within : (F n q : ℕ) → Open F n q → q + stride F n ≤ 2 ^ F
step_within F n q o =
    let s = stride F n in
    let end : 2 ^ F ≡ 2 ^ n * s = ap (λ (k : ℕ). 2 ^ k) (parts F n o.inside.level) ∙ pow-add 2 n (F - n) in
    next_multiple (2 ^ F) (2 ^ n) s q (q / s) end (multiple q s o.inside.whole) o.before_end
  where
    parts : (F n : ℕ) → n ≤ F → F ≡ n + (F - n)
    parts F n h = omega arith

-- ---- the three operations

pub stays : (F : ℕ) (op : Operation) (n q : ℕ) → call_refusal F op n q ≡ 0 → is_drawing F (new_level op n) (new_position F op n q) ≡ true
unfolding is_aligned
stays F halve n q e =
    let c = call_opens F halve n q e in
    let h = ltb-true n F (rule_kept (ltb n F) 5 0 c.1).0 in
    let s = stride F (n + 1) in
    let w : q ≡ q / stride F n * 2 * s =
    multiple q (stride F n) c.0.inside.whole ∙ ap (λ (t : ℕ). q / stride F n * t) (two_finer F n h) ∙ sym (mul_assoc (q / stride F n) 2 s) in
    is-drawing F (n + 1) q
    (record {
      finest_least = c.0.inside.finest_least;
      finest_most = c.0.inside.finest_most;
      level = omega arith;
      position = c.0.inside.position;
      whole = remainder q (q / stride F n * 2) s w;
    })
stays F double n q e =
    let c = call_opens F double n q e in
    let f = rule_kept (ltb 0 n) 6 (unless (is_aligned F n q) 8 0) c.1 in
    let h = ltb-true 0 n f.0 in
    let even = eqb-true (q % (2 * stride F n)) 0 (rule_kept (is_aligned F n q) 7 0 f.1).0 in
    is-drawing F (n - 1) q
    (record {
      finest_least = c.0.inside.finest_least;
      finest_most = c.0.inside.finest_most;
      level = omega (arith, c.0.inside.level);
      position = c.0.inside.position;
      whole = ap (λ (t : ℕ). q % t) (one_coarser F n h c.0.inside.level) ∙ even;
    })
stays F step n q e =
    let o = (call_opens F step n q e).0 in
    let s = stride F n in
    let w : q + s ≡ (q / s + 1) * s = ap (λ (t : ℕ). t + s) (multiple q s o.inside.whole) ∙ one_more (q / s) s in
    is-drawing F n (q + s)
    (record {
      finest_least = o.inside.finest_least;
      finest_most = o.inside.finest_most;
      level = o.inside.level;
      position = step_within F n q o;
      whole = remainder (q + s) (q / s + 1) s w;
    })
  where
    one_more : (m s : ℕ) → m * s + s ≡ (m + 1) * s
    one_more m s = omega arith
