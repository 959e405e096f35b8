-- Each refusal is one of its table's numbers, and no other.
use mathlib.Core.Path.{◌≡◌}
use mathlib.Core.List.{List, [], ◌∷◌}
use Prim.Native.Nat.{ℕ, ◌^◌}
use lib.Dec.{ltb}
use Rattle.numbers.specs.Tables.{All}
use Rattle.rules.specs.declared.Degree.{Degree}
use Rattle.rules.specs.Refusals.{Among, first_of}
use Rattle.rules.specs.Rules.{is_finest, reach, are_limits, is_level, standard_upper, standard_lower}
use Rattle.rules.proofs.Laws.{standard_lawful}
use Rattle.rules.proofs.Refusals.{line_among, among, first_among, untabled}
use Rattle.coordinate.specs.declared.Registers.{Registers}
use Rattle.coordinate.specs.Control.{Control}
use Rattle.coordinate.specs.Points.{are_coordinates, are_near}
use Rattle.coordinate.specs.Registers.{Operation, halve, double, step, are_registers}
use Rattle.operations.specs.Coordinates.{Coordinate, every}
use Rattle.operations.specs.Position.{is_drawing, is_aligned}
use Rattle.operations.specs.Refusals.{
  gate,
  own_refusal,
  call_refusal,
  registers_refusal,
  call_table,
  begin_refusal,
  start_refusal,
  start_table,
  choice_refusal,
  choice_table,
  standard_table,
}

-- ---- halve, double and step

own_among : (F : ℕ) (op : Operation) (n q : ℕ) → Among (own_refusal F op n q) (call_table op)
own_among F halve n q = line_among (ltb n F) (among tt) (among tt)
own_among F double n q = line_among (ltb 0 n) (among tt) (line_among (is_aligned F n q) (among tt) (among tt))
own_among F step n q = among tt

record Common (op : Operation) : Type 0 where
  none : Among 0 (call_table op)
  end : Among 5 (call_table op)
  outside : Among 10 (call_table op)

common : (op : Operation) → Common op
common halve = record { none = among tt; end = among tt; outside = among tt }
common double = record { none = among tt; end = among tt; outside = among tt }
common step = record { none = among tt; end = among tt; outside = among tt }

pub call_among : (F : ℕ) (op : Operation) (n q : ℕ) (new : Coordinate → Registers) → Among (first_of (call_refusal F op n q) (registers_refusal new)) (call_table op)
unfolding call_refusal gate registers_refusal
call_among F op n q new =
    let c = common op in
    let level = line_among (is_drawing F n q) c.outside (line_among (ltb q (2 ^ F)) c.end c.none) in
    first_among (call_refusal F op n q) (registers_refusal new) (first_among (gate F n q) (own_refusal F op n q) level (own_among F op n q))
    (line_among (every (λ c. are_registers (new c))) c.outside c.none)

-- halve is never refused by double's numbers, nor double by halve's, nor step by either's
abbrev others : Operation → List ℕ
others halve = 1 ∷ 2 ∷ 3 ∷ 4 ∷ 7 ∷ 8 ∷ 9 ∷ 24 ∷ []
others double = 1 ∷ 2 ∷ 3 ∷ 4 ∷ 6 ∷ 9 ∷ 24 ∷ []
others step = 1 ∷ 2 ∷ 3 ∷ 4 ∷ 6 ∷ 7 ∷ 8 ∷ 9 ∷ 24 ∷ []

pub call_nothing_else : (F : ℕ) (op : Operation) (n q : ℕ) (new : Coordinate → Registers)
    → All (λ k. first_of (call_refusal F op n q) (registers_refusal new) ≡ k → ⊥) (others op)
call_nothing_else F halve n q new = untabled (call_table halve) (others halve) (call_among F halve n q new) tt
call_nothing_else F double n q new = untabled (call_table double) (others double) (call_among F double n q new) tt
call_nothing_else F step n q new = untabled (call_table step) (others step) (call_among F step n q new) tt

-- ---- a start

module _ (D : Degree) (F : ℕ) (p : Coordinate → Control D) (n : ℕ) where
  pub start_among : Among (start_refusal D F p n) start_table
  unfolding start_refusal begin_refusal
  start_among =
      line_among (is_finest F) (among tt)
      (line_among (every (λ c. are_coordinates D (p c))) (among tt)
      (line_among (every (λ c. are_near D (reach D F) (p c))) (among tt) (line_among (is_level F n) (among tt) (among tt))))

  pub start_nothing_else : All (λ k. start_refusal D F p n ≡ k → ⊥) (4 ∷ 5 ∷ 6 ∷ 7 ∷ 8 ∷ 9 ∷ 10 ∷ [])
  start_nothing_else = untabled start_table (4 ∷ 5 ∷ 6 ∷ 7 ∷ 8 ∷ 9 ∷ 10 ∷ []) start_among tt

-- ---- choosing

module _ (F n q : ℕ) where
  pub choice_among : (upper lower : ℕ) → Among (choice_refusal F upper lower n q) choice_table
  unfolding choice_refusal gate
  choice_among upper lower =
      line_among (are_limits upper lower) (among tt)
      (line_among (is_drawing F n q) (among tt) (line_among (ltb q (2 ^ F)) (among tt) (among tt)))

  pub choice_nothing_else : (upper lower : ℕ) → All (λ k. choice_refusal F upper lower n q ≡ k → ⊥) (1 ∷ 2 ∷ 3 ∷ 6 ∷ 7 ∷ 8 ∷ 9 ∷ 24 ∷ [])
  choice_nothing_else upper lower = untabled choice_table (1 ∷ 2 ∷ 3 ∷ 6 ∷ 7 ∷ 8 ∷ 9 ∷ 24 ∷ []) (choice_among upper lower) tt

  -- under the standard limits without 4
  pub standard_among : Among (choice_refusal F standard_upper standard_lower n q) standard_table
  unfolding choice_refusal gate
  standard_among = rw standard_lawful (line_among (is_drawing F n q) (among tt) (line_among (ltb q (2 ^ F)) (among tt) (among tt)))

  pub standard_nothing_else : All (λ k. choice_refusal F standard_upper standard_lower n q ≡ k → ⊥) (1 ∷ 2 ∷ 3 ∷ 4 ∷ 6 ∷ 7 ∷ 8 ∷ 9 ∷ 24 ∷ [])
  standard_nothing_else = untabled standard_table (1 ∷ 2 ∷ 3 ∷ 4 ∷ 6 ∷ 7 ∷ 8 ∷ 9 ∷ 24 ∷ []) standard_among tt
