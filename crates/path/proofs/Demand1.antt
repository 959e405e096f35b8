-- Demand 1 for paths: a refusal is one of the tabled numbers, answers 0 for points and length and leaves the lent list as found.
use mathlib.Core.Path.{◌≡◌, refl, sym, ap, ◌∙◌}
use mathlib.Core.Bool.{Bool, true, false}
use mathlib.Core.List.{List, [], ◌∷◌, ◌++◌}
use Prim.Native.Nat.{ℕ, zero, suc, ◌*◌, ◌≤◌}
use native.Mathlib.Omega.{arith}
use lib.Dec.{leb}
use lib.IntN.{ℤ}
use lib.ListN.{length, drop}
use borrow.Author.Tests.{leb-true}
use Rattle.numbers.specs.Tables.{All}
use Rattle.rules.specs.Refusals.{unless, first_of, refusal_or, filled, Among}
use Rattle.rules.specs.Rules.{is_finest, reach, is_level, are_limits, standard_limits, is_size, are_points, are_chained, points_refusal}
use Rattle.rules.proofs.Laws.{standard_lawful}
use Rattle.rules.proofs.Refusals.{rule_kept, line_among, untabled, among, first_kept, first_among, number_answered, refused_answers, filled_refused}
use Rattle.entries.specs.Entries.{entry_size, flat}
use Rattle.entries.specs.Length.{length_of}
use Rattle.path.specs.declared.Shape.{Shape}
use Rattle.path.specs.Path.{Path, path, path_refusal}
use Rattle.path.specs.Entries.{entries}
use Rattle.path.specs.Answer.{Drawn, draw_refusal, measure_table, draw_table, standard_measure_table, standard_draw_table, refused_by, answer, measured, drawn, written}

-- ---- the numbers that are answered

pub measured_refusal : (p : Path) → (measured p).refusal ≡ path_refusal p
unfolding measured
measured_refusal p = number_answered refused_by (answer (entries p)) (λ (d : Drawn). d.refusal) (λ k. refl) refl (path_refusal p)

pub drawn_refusal : (p : Path) (room : ℕ) → (drawn p room).refusal ≡ draw_refusal p room
unfolding drawn
drawn_refusal p room = number_answered refused_by (answer (entries p)) (λ (d : Drawn). d.refusal) (λ k. refl) refl (draw_refusal p room)

-- ---- the tables

-- 14, 24, 1, 2 and 3 are in each of them
path_among : (p : Path) {table : List ℕ} → Among 14 table → Among 24 table → Among 1 table → Among 2 table → Among 3 table → Among 0 table
    → Among (unless (are_limits p.upper p.lower) 4 0) table → Among (path_refusal p) table
unfolding path_refusal points_refusal
path_among p size finest points chained level none limits =
    line_among (is_size p.degree p.segments (length p.points)) size
    (line_among (is_finest p.finest) finest
    (first_among (points_refusal (reach p.degree p.finest) p.points) _
    (line_among (are_points p.points) points (line_among (are_chained (reach p.degree p.finest) p.points) chained none))
    (line_among (is_level p.finest p.level) level limits)))

-- and then 9
room_among : (p : Path) (room : ℕ) {table : List ℕ} → Among (path_refusal p) table → Among 9 table → Among 0 table → Among (draw_refusal p room) table
unfolding draw_refusal
room_among p room h nine none =
    first_among (path_refusal p) _ h (line_among (leb (entry_size * length (entries p)) room) nine none)

pub measure_refuses_as_tabled : (p : Path) → Among (measured p).refusal measure_table
measure_refuses_as_tabled p =
    rw measured_refusal
    (path_among p (among tt) (among tt) (among tt) (among tt) (among tt) (among tt) (line_among (are_limits p.upper p.lower) (among tt) (among tt)))

pub draw_refuses_as_tabled : (p : Path) (room : ℕ) → Among (drawn p room).refusal draw_table
draw_refuses_as_tabled p room =
    rw drawn_refusal
    (room_among p room
    (path_among p (among tt) (among tt) (among tt) (among tt) (among tt) (among tt) (line_among (are_limits p.upper p.lower) (among tt) (among tt)))
    (among tt) (among tt))

-- and by no other number
pub measure_refuses_nothing_else : (p : Path) → All (λ k. (measured p).refusal ≡ k → ⊥) (5 ∷ 6 ∷ 7 ∷ 8 ∷ 9 ∷ 10 ∷ [])
measure_refuses_nothing_else p = untabled measure_table (5 ∷ 6 ∷ 7 ∷ 8 ∷ 9 ∷ 10 ∷ []) (measure_refuses_as_tabled p) tt

pub draw_refuses_nothing_else : (p : Path) (room : ℕ) → All (λ k. (drawn p room).refusal ≡ k → ⊥) (5 ∷ 6 ∷ 7 ∷ 8 ∷ 10 ∷ [])
draw_refuses_nothing_else p room = untabled draw_table (5 ∷ 6 ∷ 7 ∷ 8 ∷ 10 ∷ []) (draw_refuses_as_tabled p room) tt

-- under the standard limits without 4
module _ (points : List ℤ) (shape : Shape) where
  pub standard_measure_refuses_as_tabled : Among (measured (path points shape standard_limits)).refusal standard_measure_table
  standard_measure_refuses_as_tabled =
      rw measured_refusal (path_among _ (among tt) (among tt) (among tt) (among tt) (among tt) (among tt) (rw standard_lawful (among tt)))

  pub standard_draw_refuses_as_tabled : (room : ℕ) → Among (drawn (path points shape standard_limits) room).refusal standard_draw_table
  standard_draw_refuses_as_tabled room =
      rw drawn_refusal
      (room_among _ room
      (path_among _ (among tt) (among tt) (among tt) (among tt) (among tt) (among tt) (rw standard_lawful (among tt)))
      (among tt) (among tt))

  pub standard_measure_never_4 : All (λ k. (measured (path points shape standard_limits)).refusal ≡ k → ⊥) (4 ∷ 9 ∷ [])
  standard_measure_never_4 = untabled standard_measure_table (4 ∷ 9 ∷ []) standard_measure_refuses_as_tabled tt

  pub standard_draw_never_4 : (room : ℕ) → All (λ k. (drawn (path points shape standard_limits) room).refusal ≡ k → ⊥) (4 ∷ [])
  standard_draw_never_4 room = untabled standard_draw_table (4 ∷ []) (standard_draw_refuses_as_tabled room) tt

-- ---- a refusal

answers_zeros : (k : ℕ) (a : Drawn) → a.refusal ≡ 0 → ((refusal_or k refused_by a).refusal ≡ 0 → ⊥)
    → refusal_or k refused_by a ≡ record { refusal = (refusal_or k refused_by a).refusal; points = 0; length = 0 }
answers_zeros k a e h =
    refused_answers refused_by a (λ (d : Drawn). d.refusal) (λ k. refl) e k h
    ∙ ap refused_by (sym (number_answered refused_by a (λ (d : Drawn). d.refusal) (λ k. refl) e k))

pub refused_measure_answers_zeros : (p : Path) → ((measured p).refusal ≡ 0 → ⊥) → measured p ≡ record { refusal = (measured p).refusal; points = 0; length = 0 }
unfolding measured
refused_measure_answers_zeros p = answers_zeros (path_refusal p) (answer (entries p)) refl

pub refused_draw_answers_zeros : (p : Path) (room : ℕ) → ((drawn p room).refusal ≡ 0 → ⊥)
    → drawn p room ≡ record { refusal = (drawn p room).refusal; points = 0; length = 0 }
unfolding drawn
refused_draw_answers_zeros p room = answers_zeros (draw_refusal p room) (answer (entries p)) refl

pub refused_draw_changes_nothing : (p : Path) (list : List ℤ) → ((drawn p (length list)).refusal ≡ 0 → ⊥) → written p list ≡ list
unfolding written
refused_draw_changes_nothing p list h =
    filled_refused (flat (entries p)) list (draw_refusal p (length list)) (λ e. h (drawn_refusal p (length list) ∙ e))

-- ---- the list

module _ (p : Path) (room : ℕ) where
  pub drawn_fits : (drawn p room).refusal ≡ 0 → entry_size * length (entries p) ≤ room
  unfolding draw_refusal
  drawn_fits e =
      let size = entry_size * length (entries p) in
      leb-true size room (rule_kept (leb size room) 8 0 (first_kept (path_refusal p) _ (sym (drawn_refusal p room) ∙ e)).1).0

  pub drawn_answer : (drawn p room).refusal ≡ 0
      → drawn p room ≡ record { refusal = 0; points = length (entries p); length = length_of (entries p) }
  unfolding drawn
  drawn_answer e = ap (λ (k : ℕ). refusal_or k refused_by (answer (entries p))) (sym (drawn_refusal p room) ∙ e)

  -- measuring refuses as drawing does but for 9, and answers the same two numbers
  pub measure_as_draw_but_for_room : ((drawn p room).refusal ≡ 9 → ⊥) → measured p ≡ drawn p room
  unfolding measured drawn draw_refusal
  measure_as_draw_but_for_room h =
      ap (λ (k : ℕ). refusal_or k refused_by (answer (entries p)))
      (by_room (path_refusal p) (leb (entry_size * length (entries p)) room) (λ e. h (drawn_refusal p room ∙ e)))
    where
      by_room : (k : ℕ) (fits : Bool) → (first_of k (unless fits 9 0) ≡ 9 → ⊥) → k ≡ first_of k (unless fits 9 0)
      by_room zero true h = refl
      by_room zero false h = absurd (h refl)
      by_room (suc k) fits h = refl

  pub measure_as_draw : (drawn p room).refusal ≡ 0 → measured p ≡ drawn p room
  measure_as_draw e = measure_as_draw_but_for_room (λ n. omega arith)

pub drawn_list : (p : Path) (list : List ℤ) → (drawn p (length list)).refusal ≡ 0
    → written p list ≡ flat (entries p) ++ drop (length (flat (entries p))) list
unfolding written
drawn_list p list e = ap (λ (k : ℕ). filled k (flat (entries p)) list) (sym (drawn_refusal p (length list)) ∙ e)
