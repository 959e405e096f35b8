-- The tests of choosing say what the three rules say, in both directions: `chosen_by_the_rules` and `rules_choose`.
use mathlib.Core.Path.{◌≡◌, refl, sym, ◌∙◌}
use mathlib.Core.Bool.{Bool, true, false, cond, ◌&&◌, ◌||◌, true≢false, false≢true}
use mathlib.Core.Logic.{◌⊎◌, inl, inr}
use Prim.Native.Nat.{ℕ, ◌*◌, ◌%◌, ◌≤◌, ◌<◌}
use lib.Dec.{leb, ltb}
use borrow.Author.Tests.{leb-true, ltb-true, ltb-false, eqb-true, le-leb, lt-ltb, eq-eqb}
use Rattle.numbers.proofs.Tests.{and_true, and_four}
use Rattle.rules.proofs.Refusals.{broken}
use Rattle.coordinate.specs.declared.Registers.{Registers}
use Rattle.coordinate.specs.Registers.{Operation, halve, double, step}
use Rattle.coordinate.specs.Increment.{increment, doubled_increment}
use Rattle.operations.specs.Coordinates.{Coordinate, in_x, in_y, in_width, OfPixel}
use Rattle.operations.specs.Position.{stride, is_aligned}
use Rattle.operations.specs.Choice.{wants_halve, wants_double, choose}
use Rattle.operations.specs.ThreeRules.{Rule1, Rule2, Ruled}

not_above : {m k : ℕ} → (m < k → ⊥) → k ≤ m
not_above {m} {k} h = ltb-false m k (broken (ltb m k) (λ e. h (ltb-true m k e)))

-- ---- one rule and its test

module _ (F upper n : ℕ) (r : Coordinate → Registers) where
  pub halve_wanted : wants_halve F upper n r ≡ true → Rule1 F upper n r
  unfolding wants_halve
  halve_wanted e =
      let x = increment n (r in_x) in
      let y = increment n (r in_y) in
      let t = and_true (ltb upper x || ltb upper y) (ltb n F) e in
      record { either = one (ltb upper x) (ltb upper y) refl refl t.0; below = ltb-true n F t.1 }
    where
      one : (a b : Bool) → ltb upper (increment n (r in_x)) ≡ a → ltb upper (increment n (r in_y)) ≡ b → (a || b) ≡ true
          → (upper < increment n (r in_x)) ⊎ (upper < increment n (r in_y))
      one true b x y e = inl (ltb-true upper _ x)
      one false true x y e = inr (ltb-true upper _ y)
      one false false x y e = absurd (false≢true e)

  pub wants-halve : Rule1 F upper n r → wants_halve F upper n r ≡ true
  unfolding wants_halve
  wants-halve w = λ i. one w.either i && lt-ltb n F w.below i
    where
      or_true : (a : Bool) → (a || true) ≡ true
      or_true true = refl
      or_true false = refl

      one : (upper < increment n (r in_x)) ⊎ (upper < increment n (r in_y)) → (ltb upper (increment n (r in_x)) || ltb upper (increment n (r in_y))) ≡ true
      one (inl h) = λ i. lt-ltb upper _ h i || ltb upper (increment n (r in_y))
      one (inr h) = (λ i. ltb upper (increment n (r in_x)) || lt-ltb upper _ h i) ∙ or_true (ltb upper (increment n (r in_x)))

  -- where it does not hold, off the finest level, the increments of x and of y are within upper
  pub limited : (Rule1 F upper n r → ⊥) → n < F → (c : Coordinate) → OfPixel c → increment n (r c) ≤ upper
  limited h l in_x p = not_above (λ a. h (record { either = inl a; below = l }))
  limited h l in_y p = not_above (λ a. h (record { either = inr a; below = l }))
  limited h l in_width p = absurd p

module _ (F upper lower n q : ℕ) (r : Coordinate → Registers) where
  pub double_wanted : wants_double F upper lower n q r ≡ true → Rule2 F upper lower n q r
  unfolding wants_double is_aligned
  double_wanted e =
      let x = ltb (increment n (r in_x)) lower in
      let y = ltb (increment n (r in_y)) lower in
      let doubled_x = leb (doubled_increment n (r in_x)) upper in
      let doubled_y = leb (doubled_increment n (r in_y)) upper in
      let t = and_four (ltb 0 n) (x && y) (is_aligned F n q) (doubled_x && doubled_y) e in
      let small = and_true x y t.1 in
      let doubled = and_true doubled_x doubled_y t.3 in
      record {
        x = ltb-true (increment n (r in_x)) lower small.0;
        y = ltb-true (increment n (r in_y)) lower small.1;
        above = ltb-true 0 n t.0;
        even = eqb-true (q % (2 * stride F n)) 0 t.2;
        doubled_x = leb-true (doubled_increment n (r in_x)) upper doubled.0;
        doubled_y = leb-true (doubled_increment n (r in_y)) upper doubled.1;
      }

  pub wants-double : Rule2 F upper lower n q r → wants_double F upper lower n q r ≡ true
  unfolding wants_double is_aligned
  wants-double w = λ i.
      lt-ltb 0 n w.above i
      && (lt-ltb _ lower w.x i && lt-ltb _ lower w.y i)
      && eq-eqb (q % (2 * stride F n)) 0 w.even i
      && (le-leb _ upper w.doubled_x i && le-leb _ upper w.doubled_y i)

  -- ---- all three

  pub chosen_by_the_rules : Ruled F upper lower n q r (choose F upper lower n q r)
  unfolding choose
  chosen_by_the_rules = by_tests (wants_halve F upper n r) (wants_double F upper lower n q r) refl refl
    where
      by_tests : (a b : Bool) → wants_halve F upper n r ≡ a → wants_double F upper lower n q r ≡ b → Ruled F upper lower n q r (cond a halve (cond b double step))
      by_tests true b h d = halve_wanted F upper n r h
      by_tests false true h d = (λ w. true≢false (sym (wants-halve F upper n r w) ∙ h), double_wanted d)
      by_tests false false h d = (λ w. true≢false (sym (wants-halve F upper n r w) ∙ h), λ w. true≢false (sym (wants-double w) ∙ d))

  -- what follows from the rule that chose, whichever it was
  pub by_rules : (P : Operation → Type 0)
      → (Rule1 F upper n r → P halve)
      → ((Rule1 F upper n r → ⊥) → Rule2 F upper lower n q r → P double)
      → ((Rule1 F upper n r → ⊥) → (Rule2 F upper lower n q r → ⊥) → P step)
      → P (choose F upper lower n q r)
  by_rules P h d s = by (choose F upper lower n q r) chosen_by_the_rules
    where
      by : (op : Operation) → Ruled F upper lower n q r op → P op
      by halve w = h w
      by double w = d w.0 w.1
      by step w = s w.0 w.1

  -- no two operations are ruled
  pub rules_choose : (op : Operation) → Ruled F upper lower n q r op → choose F upper lower n q r ≡ op
  rules_choose op w = one (choose F upper lower n q r) op chosen_by_the_rules w
    where
      one : (a b : Operation) → Ruled F upper lower n q r a → Ruled F upper lower n q r b → a ≡ b
      one halve halve v w = refl
      one halve double v w = absurd (w.0 v)
      one halve step v w = absurd (w.0 v)
      one double halve v w = absurd (v.0 w)
      one double double v w = refl
      one double step v w = absurd (w.1 v.1)
      one step halve v w = absurd (v.0 w)
      one step double v w = absurd (v.1 w.1)
      one step step v w = refl

-- ---- the width takes no part: where x and y have the same registers, the same is chosen

pub width_takes_no_part : (F upper lower n q : ℕ) (r r' : Coordinate → Registers) → ((c : Coordinate) → OfPixel c → r c ≡ r' c)
    → choose F upper lower n q r ≡ choose F upper lower n q r'
unfolding choose wants_halve wants_double
width_takes_no_part F upper lower n q r r' same = rw (same in_x tt, same in_y tt)
