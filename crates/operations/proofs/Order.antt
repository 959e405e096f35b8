-- The order of the refusals, each with its number: what is broken, and what is kept before it.
use mathlib.Core.Path.{◌≡◌, refl}
use mathlib.Core.Bool.{true}
use Prim.Native.Nat.{ℕ, ◌^◌, ◌≤◌, ◌<◌}
use native.Mathlib.Omega.{arith}
use lib.Dec.{leb}
use borrow.Author.Tests.{leb-true, eqb-true, le-leb, lt-ltb, le-ltb, eq-eqb}
use Rattle.rules.specs.declared.Degree.{Degree}
use Rattle.rules.specs.declared.Degree.TheVariants.{Quadratic, Cubic}
use Rattle.rules.specs.Rules.{is_finest, reach, is_level, are_limits}
use Rattle.rules.proofs.Laws.{Fine, finest_holds, holds_finest, LawfulLimits, limits_hold, hold_limits}
use Rattle.rules.proofs.Refusals.{broken}
use Rattle.coordinate.specs.declared.Registers.{Registers}
use Rattle.coordinate.specs.Control.{Control}
use Rattle.coordinate.specs.Points.{are_coordinates, are_near}
use Rattle.coordinate.specs.Registers.{Operation, halve, double, step, are_registers}
use Rattle.coordinate.proofs.Points.{Each, Lies, coordinates_lie, lying_coordinates, Reach, reaches, reaching_near}
use Rattle.coordinate.proofs.Bits.{AllWithin, registers_within, within_registers}
use Rattle.operations.specs.Coordinates.{Coordinate, every}
use Rattle.operations.specs.Position.{is_drawing, is_aligned}
use Rattle.operations.specs.Refusals.{begin_refusal, start_refusal, gate, call_refusal, registers_refusal, choice_refusal}
use Rattle.operations.specs.Lawful.{Inside, Even, apart}
use Rattle.operations.proofs.Every.{every_true, true_every}
use Rattle.operations.proofs.Gates.{inside, is-drawing}

-- ---- halve, double and step: 10 by F, level and q, 5, then 6, or 7 then 8

module _ (F n q : ℕ) where
  -- whatever the operation
  pub refuses_10 : (op : Operation) → (Inside F n q → ⊥) → call_refusal F op n q ≡ 10
  unfolding call_refusal gate
  refuses_10 op h = rw (broken (is_drawing F n q) (λ e. h (inside F n q e)))

  module _ (i : Inside F n q) where
    pub refuses_5 : (op : Operation) → q ≡ 2 ^ F → call_refusal F op n q ≡ 5
    unfolding call_refusal gate
    refuses_5 op e = rw (is-drawing F n q i, le-ltb q (2 ^ F) (omega (arith, e)))

    module _ (before : q < 2 ^ F) where
      pub refuses_6 : n ≡ F → call_refusal F halve n q ≡ 6
      unfolding call_refusal gate
      refuses_6 e = rw (is-drawing F n q i, lt-ltb q (2 ^ F) before, le-ltb n F (omega arith))

      pub halve_accepted : n < F → call_refusal F halve n q ≡ 0
      unfolding call_refusal gate
      halve_accepted h = rw (is-drawing F n q i, lt-ltb q (2 ^ F) before, lt-ltb n F h)

      pub refuses_7 : n ≡ 0 → call_refusal F double n q ≡ 7
      unfolding call_refusal gate
      refuses_7 e = rw (is-drawing F n q i, lt-ltb q (2 ^ F) before, le-ltb 0 n (omega arith))

      pub refuses_8 : 0 < n → (Even F n q → ⊥) → call_refusal F double n q ≡ 8
      unfolding call_refusal gate is_aligned
      refuses_8 h e = rw (is-drawing F n q i, lt-ltb q (2 ^ F) before, lt-ltb 0 n h, broken _ (λ t. e (eqb-true _ 0 t)))

      pub double_accepted : 0 < n → Even F n q → call_refusal F double n q ≡ 0
      unfolding call_refusal gate is_aligned
      double_accepted h e = rw (is-drawing F n q i, lt-ltb q (2 ^ F) before, lt-ltb 0 n h, eq-eqb _ 0 e)

      pub step_accepted : call_refusal F step n q ≡ 0
      unfolding call_refusal gate
      step_accepted = rw (is-drawing F n q i, lt-ltb q (2 ^ F) before)

-- ---- then 10 by registers, exactly where a new register is below −2,147,483,648 or above 2,147,483,647

module _ (new : Coordinate → Registers) where
  pub registers_refuse_10 : (((c : Coordinate) → AllWithin (new c)) → ⊥) → registers_refusal new ≡ 10
  unfolding registers_refusal
  registers_refuse_10 h = rw (broken (every (λ c. are_registers (new c))) (λ e. h (λ c. registers_within (new c) (every_true (λ c. are_registers (new c)) e c))))

  pub registers_accepted : ((c : Coordinate) → AllWithin (new c)) → registers_refusal new ≡ 0
  unfolding registers_refusal
  registers_accepted h = rw (true_every (λ c. are_registers (new c)) (λ c. within_registers (new c) (h c)))

-- ---- a start: 24, then 1 over all points of every coordinate, then 2, then 3

-- the reach is what the documents say
pub apart_reach : (D : Degree) (F : ℕ) → apart D F ≡ reach D F
unfolding reach
apart_reach Quadratic F = refl
apart_reach Cubic F = refl

module _ (D : Degree) (F : ℕ) (p : Coordinate → Control D) (n : ℕ) where
  pub start_refuses_24 : (Fine F → ⊥) → start_refusal D F p n ≡ 24
  unfolding start_refusal begin_refusal
  start_refuses_24 h = rw (broken (is_finest F) (λ e. h (finest_holds F e)))

  module _ (fine : Fine F) where
    pub start_refuses_1 : (((c : Coordinate) → Each D Lies (p c)) → ⊥) → start_refusal D F p n ≡ 1
    unfolding start_refusal begin_refusal
    start_refuses_1 h =
        rw (
          holds_finest fine,
          broken (every (λ c. are_coordinates D (p c))) (λ e. h (λ c. coordinates_lie D (p c) (every_true (λ c. are_coordinates D (p c)) e c))),
        )

    module _ (points : (c : Coordinate) → Each D Lies (p c)) where
      all_lie : every (λ c. are_coordinates D (p c)) ≡ true
      all_lie = true_every (λ c. are_coordinates D (p c)) (λ c. lying_coordinates D (p c) (points c))

      abbrev Near : Type 0
      Near = (c : Coordinate) → Reach D (apart D F) (p c)

      pub start_refuses_2 : (Near → ⊥) → start_refusal D F p n ≡ 2
      unfolding start_refusal begin_refusal
      start_refuses_2 h =
          rw (
            holds_finest fine,
            all_lie,
            broken (every (λ c. are_near D (reach D F) (p c))) (λ e. h (λ c. rw (apart_reach D F) (reaches D (reach D F) (p c) (every_true (λ c. are_near D (reach D F) (p c)) e c)))),
          )

      module _ (steps : Near) where
        all_near : every (λ c. are_near D (reach D F) (p c)) ≡ true
        all_near = true_every (λ c. are_near D (reach D F) (p c)) (λ c. reaching_near D (reach D F) (p c) (rw (apart_reach D F) at (steps c)))

        pub start_refuses_3 : F < n → start_refusal D F p n ≡ 3
        unfolding start_refusal begin_refusal is_level
        start_refuses_3 h = rw (holds_finest fine, all_lie, all_near, broken (leb n F) (λ e. omega (arith, leb-true n F e, h)))

        pub start_accepted : n ≤ F → start_refusal D F p n ≡ 0
        unfolding start_refusal begin_refusal is_level
        start_accepted h = rw (holds_finest fine, all_lie, all_near, le-leb n F h)

-- ---- choosing: 4, 10 by F, level and q, 5

module _ (F upper lower n q : ℕ) where
  pub choice_refuses_4 : (LawfulLimits upper lower → ⊥) → choice_refusal F upper lower n q ≡ 4
  unfolding choice_refusal
  choice_refuses_4 h = rw (broken (are_limits upper lower) (λ e. h (limits_hold upper lower e)))

  module _ (l : LawfulLimits upper lower) where
    pub choice_refuses_10 : (Inside F n q → ⊥) → choice_refusal F upper lower n q ≡ 10
    unfolding choice_refusal gate
    choice_refuses_10 h = rw (hold_limits l, broken (is_drawing F n q) (λ e. h (inside F n q e)))

    module _ (i : Inside F n q) where
      pub choice_refuses_5 : q ≡ 2 ^ F → choice_refusal F upper lower n q ≡ 5
      unfolding choice_refusal gate
      choice_refuses_5 e = rw (hold_limits l, is-drawing F n q i, le-ltb q (2 ^ F) (omega (arith, e)))

      pub choice_accepted : q < 2 ^ F → choice_refusal F upper lower n q ≡ 0
      unfolding choice_refusal gate
      choice_accepted h = rw (hold_limits l, is-drawing F n q i, lt-ltb q (2 ^ F) h)
