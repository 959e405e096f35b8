-- A path's list is its segments' lists, shifted and joined, and each segment of an accepted path is accepted by itself.
use mathlib.Core.Path.{◌≡◌, refl, sym, ap, ap₂, ◌∙◌}
use mathlib.Core.Bool.{true}
use mathlib.Core.List.{List, [], ◌∷◌, ◌++◌, map, tail, append-nil}
use Prim.Native.Nat.{ℕ, zero, suc, ◌+◌, ◌*◌, ◌^◌, ◌≤◌, ◌<◌}
use native.Mathlib.Nat.{add-zero, mul-le-mul_left}
use native.Mathlib.Omega.{arith}
use lib.IntN.{ℤ, pos}
use lib.ListN.{length, get_or, drop, length-drop}
use lib.Seq.{length-take-le, get_or-take, get_or-drop}
use Rattle.rules.specs.declared.Degree.{Degree}
use Rattle.rules.specs.declared.Degree.TheVariants.{Quadratic, Cubic}
use Rattle.rules.specs.Rules.{reach, is_coordinate, are_neighbours, degree, coordinates, are_points, are_chained}
use Rattle.rules.proofs.Laws.{holds_size}
use Rattle.rules.proofs.Every.{points_hold, hold_points, chained_hold, hold_chained}
use Rattle.engine.specs.declared.Drawing.{Drawing}
use Rattle.coordinate.specs.Registers.{Operation, halve, double, step}
use Rattle.path.specs.Path.{Path, path_refusal, point_at, control, first}
use Rattle.path.specs.Segment.{Turn, turns}
use Rattle.path.specs.Entries.{entry, shown, shown_by, rest, following, entries}
use Rattle.path.specs.Joined.{alone, shifted, placed, joins}
use Rattle.path.proofs.Accepted.{passed, all_passed, sized}

-- ---- the numbers of a segment

number_alone : (p : Path) (k i : ℕ) → i < coordinates * (degree p.degree + 1)
    → get_or (alone p k).points i (pos 0) ≡ get_or p.points (coordinates * (degree p.degree * k) + i) (pos 0)
unfolding alone
number_alone p k i h = rw (get_or-take, get_or-drop)

point_alone : (p : Path) (k c : ℕ) → c < coordinates → (i : ℕ) → i ≤ degree p.degree
    → point_at (alone p k).points c i ≡ point_at p.points c (degree p.degree * k + i)
unfolding point_at
point_alone p k c h i l =
    let D = degree p.degree in
    let there : coordinates * (D * k) + (coordinates * i + c) ≡ coordinates * (D * k + i) + c = omega arith in
    number_alone p k (coordinates * i + c) (omega arith) ∙ ap (λ (n : ℕ). get_or p.points n (pos 0)) there

-- the control points of the first segment over l are those of segment k over l', where the numbers are the same
controls_same : (D : Degree) (l l' : List ℤ) (k c : ℕ) → ((i : ℕ) → i ≤ degree D → point_at l c i ≡ point_at l' c (degree D * k + i))
    → control D l c 0 ≡ control D l' c k
unfolding control
controls_same Quadratic l l' k c same = rw (rw (add-zero (2 * k)) at (same 0 (omega arith)), same 1 (omega arith), same 2 (omega arith))
controls_same Cubic l l' k c same =
    rw (rw (add-zero (3 * k)) at (same 0 (omega arith)), same 1 (omega arith), same 2 (omega arith), same 3 (omega arith))

pub control_alone : (p : Path) (k c : ℕ) → c < coordinates → control p.degree (alone p k).points c 0 ≡ control p.degree p.points c k
control_alone p k c h = controls_same p.degree (alone p k).points p.points k c (point_alone p k c h)

-- ---- the lists of the segments

entry_shifted : (F k : ℕ) (d : Drawing) → entry F k d ≡ shifted (2 ^ F * k) (entry F 0 d)
unfolding entry shifted
entry_shifted F k d =
    let further : 2 ^ F * k + d.q ≡ 2 ^ F * 0 + d.q + 2 ^ F * k = omega arith in
    rw further

shown_shifted : (F k : ℕ) (ts : List Turn) → shown_by F k ts ≡ map (shifted (2 ^ F * k)) (shown_by F 0 ts)
unfolding shown_by
shown_shifted F k [] = refl
shown_shifted F k (t ∷ ts) = by_operation t.operation (shown_shifted F k ts)
  where
    by_operation : (op : Operation) → shown_by F k ts ≡ map (shifted (2 ^ F * k)) (shown_by F 0 ts)
        → shown F k op t.drawing ++ shown_by F k ts ≡ map (shifted (2 ^ F * k)) (shown F 0 op t.drawing ++ shown_by F 0 ts)
    by_operation halve e = e
    by_operation double e = e
    by_operation step e = ap₂ ◌∷◌ (entry_shifted F k _) e

pub rest_shifted : (p : Path) (k : ℕ) (d : Drawing) → rest p k d ≡ map (shifted (2 ^ p.finest * k)) (rest p 0 d)
unfolding rest
rest_shifted p k d = shown_shifted p.finest k (turns p.upper p.lower d)

first_alone : (p : Path) (k : ℕ) → first p.degree p.finest (alone p k).points p.level 0 ≡ first p.degree p.finest p.points p.level k
unfolding first
first_alone p k = rw (control_alone p k 0 (omega arith), control_alone p k 1 (omega arith), control_alone p k 2 (omega arith))

-- at its place, a segment's list is its start and what is left from there on
placed_whole : (p : Path) (k : ℕ)
    → placed p k ≡ entry p.finest k (first p.degree p.finest p.points p.level k) ∷ rest p k (first p.degree p.finest p.points p.level k)
unfolding alone placed entries following rest
placed_whole p k =
    let d = first p.degree p.finest p.points p.level k in
    ap (map (shifted (2 ^ p.finest * k))) (ap₂ ◌∷◌ (ap (entry p.finest 0) (first_alone p k)) (append-nil _ ∙ ap (rest p 0) (first_alone p k)))
    ∙ sym (ap₂ ◌∷◌ (entry_shifted p.finest k d) (rest_shifted p k d))

joins_following : (p : Path) (k m : ℕ) → joins p k m ≡ following p k m
unfolding joins following
joins_following p k zero = refl
joins_following p k (suc m) = ap₂ ◌++◌ (ap tail (placed_whole p k)) (joins_following p (k + 1) m)

pub joined : (p : Path) (m : ℕ) → p.segments ≡ suc m → entries p ≡ placed p 0 ++ joins p 1 m
unfolding entries following
joined p m e = rw (placed_whole p 0, joins_following p 1 m, e)

-- ---- a segment of an accepted path

module _ (p : Path) (k : ℕ) (l : coordinates * (degree p.degree * k) + coordinates * (degree p.degree + 1) ≤ length p.points) where
  abbrev D : ℕ
  D = degree p.degree

  length_alone : length (alone p k).points ≡ coordinates * (D + 1)
  unfolding alone
  length_alone =
      length-take-le (coordinates * (D + 1)) (drop (coordinates * (D * k)) p.points) (rw length-drop (omega arith))

  points_alone : are_points p.points ≡ true → are_points (alone p k).points ≡ true
  points_alone e = hold_points (alone p k).points each
    where
      each : (i : ℕ) → i < length (alone p k).points → is_coordinate (get_or (alone p k).points i (pos 0)) ≡ true
      each i h =
          let short : i < coordinates * (D + 1) = rw length_alone at h in
          rw (number_alone p k i short) (points_hold p.points e _ (omega arith))

  chained_alone : (W : ℕ) → are_chained W p.points ≡ true → are_chained W (alone p k).points ≡ true
  chained_alone W e = hold_chained W (alone p k).points each
    where
      each : (i : ℕ) → coordinates + i < length (alone p k).points
          → are_neighbours W (get_or (alone p k).points i (pos 0)) (get_or (alone p k).points (coordinates + i) (pos 0)) ≡ true
      each i h =
          let n : ℕ = coordinates * (D * k) in
          let short : coordinates + i < coordinates * (D + 1) = rw length_alone at h in
          let further : n + (coordinates + i) ≡ coordinates + (n + i) = omega arith in
          rw (number_alone p k i (omega arith), number_alone p k (coordinates + i) short, further) (chained_hold W p.points e (n + i) (omega arith))

pub alone_accepted : (p : Path) (k : ℕ) → path_refusal p ≡ 0 → k < p.segments → path_refusal (alone p k) ≡ 0
unfolding alone
alone_accepted p k e h =
    let t = passed p e in
    let D = degree p.degree in
    let l : coordinates * (D * k) + coordinates * (D + 1) ≤ length p.points = omega (arith, (sized p t).size, mul-le-mul_left D h) in
    let one : coordinates * (D + 1) ≡ 3 * (D * 1 + 1) = omega arith in
    all_passed (alone p k) (record {
      size = holds_size (record { some = omega arith; most = omega arith; size = length_alone p k l ∙ one });
      finest = t.finest;
      points = points_alone p k l t.points;
      chained = chained_alone p k l (reach p.degree p.finest) t.chained;
      level = t.level;
      limits = t.limits;
    })
