-- The order of a path's refusals: 14 comes first, then 24, then 1 for any coordinate of the whole path, then 2 for any two neighbours, then 3, 4, 9.
use mathlib.Core.Path.{◌≡◌, sym, ap, ◌∙◌}
use mathlib.Core.Bool.{Bool, true, false, true≢false}
use Prim.Native.Nat.{ℕ, ◌+◌, ◌*◌, ◌≤◌, ◌<◌}
use lib.IntN.{pos}
use lib.ListN.{length, get_or}
use borrow.Author.Tests.{le-leb, lt-leb}
use Rattle.rules.specs.Refusals.{unless}
use Rattle.rules.specs.Rules.{is_finest, reach, is_coordinate, are_neighbours, is_level, are_limits, coordinates, is_size, are_points, are_chained, points_refusal}
use Rattle.rules.proofs.Refusals.{broken, first_on, first_stop}
use Rattle.rules.proofs.Every.{points_hold, chained_hold}
use Rattle.entries.specs.Entries.{entry_size}
use Rattle.path.specs.Path.{Path, path_refusal}
use Rattle.path.specs.Entries.{entries}
use Rattle.path.specs.Answer.{draw_refusal}

module _ (p : Path) where
  pub refuses_14 : is_size p.degree p.segments (length p.points) ≡ false → path_refusal p ≡ 14
  unfolding path_refusal
  refuses_14 e = rw e

  module _ (size : is_size p.degree p.segments (length p.points) ≡ true) where
    -- whatever its points are
    pub refuses_24 : is_finest p.finest ≡ false → path_refusal p ≡ 24
    unfolding path_refusal
    refuses_24 e = rw (size, e)

    module _ (finest : is_finest p.finest ≡ true) where
      -- number i is no coordinate, whatever its neighbours are
      pub refuses_1 : (i : ℕ) → i < length p.points → is_coordinate (get_or p.points i (pos 0)) ≡ false → path_refusal p ≡ 1
      unfolding path_refusal points_refusal
      refuses_1 i h e =
          let points = broken (are_points p.points) (λ t. true≢false (sym (points_hold p.points t i h) ∙ e)) in
          rw (size, finest, points)

      module _ (points : are_points p.points ≡ true) where
        -- number i and the same coordinate of the next point are no neighbours
        pub refuses_2 : (i : ℕ) → coordinates + i < length p.points
            → are_neighbours (reach p.degree p.finest) (get_or p.points i (pos 0)) (get_or p.points (coordinates + i) (pos 0)) ≡ false → path_refusal p ≡ 2
        unfolding path_refusal points_refusal
        refuses_2 i h e =
            let chained = broken (are_chained (reach p.degree p.finest) p.points) (λ t. true≢false (sym (chained_hold (reach p.degree p.finest) p.points t i h) ∙ e)) in
            rw (size, finest, points, chained)

        module _ (chained : are_chained (reach p.degree p.finest) p.points ≡ true) where
          pub refuses_3 : is_level p.finest p.level ≡ false → path_refusal p ≡ 3
          unfolding path_refusal points_refusal
          refuses_3 e = rw (size, finest, points, chained, e)

          pub refuses_4 : is_level p.finest p.level ≡ true → are_limits p.upper p.lower ≡ false → path_refusal p ≡ 4
          unfolding path_refusal points_refusal
          refuses_4 l e = rw (size, finest, points, chained, l, e)

-- 9 comes last: where the path itself is refused, that number is answered, however short the list is
pub refuses_before_9 : (p : Path) (room : ℕ) → (path_refusal p ≡ 0 → ⊥) → draw_refusal p room ≡ path_refusal p
unfolding draw_refusal
refuses_before_9 p room = first_stop (path_refusal p) _

pub refuses_9 : (p : Path) (room : ℕ) → path_refusal p ≡ 0 → room < entry_size * length (entries p) → draw_refusal p room ≡ 9
unfolding draw_refusal
refuses_9 p room e h = first_on _ _ e ∙ ap (λ (b : Bool). unless b 9 0) (lt-leb (entry_size * length (entries p)) room h)

-- and where there is room it is drawn
pub room_drawn : (p : Path) (room : ℕ) → path_refusal p ≡ 0 → entry_size * length (entries p) ≤ room → draw_refusal p room ≡ 0
unfolding draw_refusal
room_drawn p room e h = first_on _ _ e ∙ ap (λ (b : Bool). unless b 9 0) (le-leb (entry_size * length (entries p)) room h)
