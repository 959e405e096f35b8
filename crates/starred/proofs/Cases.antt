-- The starred cases A to K of document 01, as one statement over one table. A row is a row of the engine's table, cited, or a path of one
-- segment with its list. In the document's rows one coordinate moves, the others are 0 throughout, and the finest level is 11. Two rows of order 8, in
-- which the width moves, are reckoned by hand; those of order 9, at the finest levels 6 and 12, and those of order 10, of quadratics, are not the
-- document's: their numbers are the model's.
use mathlib.Core.Path.{◌≡◌}
use mathlib.Core.Bool.{Bool, ◌&&◌}
use mathlib.Core.List.{List, [], ◌∷◌, ◌++◌, map}
use mathlib.Core.Option.{Option, none, some}
use Prim.Native.Nat.{ℕ, suc, ◌+◌, ◌*◌}
use lib.Dec.{T, eqb, eqb→eq}
use lib.IntN.{ℤ, pos, negsuc}
use lib.ListN.{length, get_or, replicate}
use mir.Facts.{and_yes}
use Rattle.numbers.specs.Tests.{eqbℤs}
use Rattle.numbers.proofs.Tests.{eqbℤs→eq}
use Rattle.numbers.specs.Tables.{All, every}
use Rattle.numbers.proofs.Tables.{tested, all_append, all_map}
use Rattle.rules.specs.declared.Degree.{Degree}
use Rattle.rules.specs.declared.Degree.TheVariants.{Quadratic, Cubic}
use Rattle.rules.specs.Rules.{is_finest, reach, is_coordinate, are_neighbours, is_level, are_limits, is_segments, is_size, are_points, are_beside, are_chained, points_refusal}
use Rattle.coordinate.specs.Control.{Control}
use Rattle.coordinate.specs.Curve.{curve}
use Rattle.coordinate.specs.Registers.{start_registers, turn}
use Rattle.coordinate.specs.Increment.{increment, doubled_increment}
use Rattle.coordinate.specs.Shown.{pixel}
use Rattle.operations.specs.Coordinates.{Coordinate, in_x, in_y, in_width, pick, every as every_coordinate}
use Rattle.operations.specs.Position.{is_aligned}
use Rattle.operations.specs.Choice.{wants_halve, wants_double, choose}
use Rattle.engine.specs.Drawing.{turned}
use Rattle.engine.proofs.Cases as engine
use Rattle.entries.specs.Entries.{entry_size, flat}
use Rattle.entries.specs.Length.{move_length, length_from, length_of}
use Rattle.path.specs.Path.{Path, path, path_refusal, point_at, control, first}
use Rattle.path.specs.Segment.{turns_in, turns}
use Rattle.path.specs.Entries.{entry, shown_by, rest, following, entries}
use Rattle.path.specs.Answer.{Drawn, draw_refusal, measured, drawn, written}

-- the control points of each coordinate, and the list: its positions, and what it shows of each coordinate; its length, where it is given
pub record Row : Type 0 where
  pub degree : Degree
  pub points : Coordinate → Control degree
  pub finest : ℕ
  pub level : ℕ
  pub upper : ℕ
  pub lower : ℕ
  pub positions : List ℕ
  pub shown : Coordinate → List ℤ
  pub total : Option ℕ

-- the numbers of a point, x, y and width
abbrev point : {A : Type 0} → (Coordinate → A) → (A → ℤ) → List ℤ
point p number = number (p in_x) ∷ number (p in_y) ∷ number (p in_width) ∷ []

abbrev points_of : (D : Degree) → (Coordinate → Control D) → List ℤ
points_of Quadratic p = point p (λ q. q.p0) ++ (point p (λ q. q.p1) ++ point p (λ q. q.p2))
points_of Cubic p = point p (λ q. q.p0) ++ (point p (λ q. q.p1) ++ (point p (λ q. q.p2) ++ point p (λ q. q.p3)))

abbrev pub path_of : Row → Path
path_of w =
    path (points_of w.degree w.points) (record { degree = w.degree; segments = 1; finest = w.finest; level = w.level })
    (record { upper = w.upper; lower = w.lower })

-- the list as numbers: position, x, y and width of entry i and of those after it
abbrev numbers_from : ℕ → List ℕ → (Coordinate → List ℤ) → List ℤ
numbers_from i [] shown = []
numbers_from i (q ∷ qs) shown =
    let at : Coordinate → ℤ = λ c. get_or (shown c) i (pos 0) in
    pos q ∷ at in_x ∷ at in_y ∷ at in_width ∷ numbers_from (suc i) qs shown

abbrev pub numbers_of : Row → List ℤ
numbers_of w = numbers_from 0 w.positions w.shown

-- n numbers −7, as they stand in the lent list before it is drawn into
abbrev pub unwritten : ℕ → List ℤ
unwritten n = replicate n (negsuc 6)

-- room for two numbers more than the document's list has
abbrev pub lent : Row → List ℤ
lent w = unwritten (entry_size * length w.positions + 2)

abbrev pub answer : Row → Drawn
answer w = drawn (path_of w) (length (lent w))

-- drawing answers and writes the list and leaves the two numbers after it; measuring answers the same
pub record Listed (w : Row) : Type 0 where
  pub paired : (c : Coordinate) → length (w.shown c) ≡ length w.positions
  pub refusal : (answer w).refusal ≡ 0
  pub points : (answer w).points ≡ length w.positions
  pub total : engine.Agrees w.total (answer w).length
  pub list : written (path_of w) (lent w) ≡ numbers_of w ++ unwritten 2
  pub alike : measured (path_of w) ≡ answer w

pub data Case : Type 0 where
  calls : engine.Row → Case
  draws : Row → Case

abbrev pub Holds : Case → Type 0
Holds (calls w) = engine.Holds w
Holds (draws w) = Listed w

-- ---- the table

-- limits 65,536 and 32,768
abbrev row : (D : Degree) → ℕ → (Coordinate → Control D) → ℕ → List ℕ → (Coordinate → List ℤ) → Option ℕ → Row
row D F p n qs shown total =
    record { degree = D; points = p; finest = F; level = n; upper = 65536; lower = 32768; positions = qs; shown = shown; total = total }

-- x moves
abbrev of_degree : (D : Degree) → ℕ → Control D → ℕ → List ℕ → List ℤ → Option ℕ → Row
of_degree D F p n qs xs total =
    let none : List ℤ = replicate (length qs) (pos 0) in
    row D F (pick p (engine.flat D (pos 0)) (engine.flat D (pos 0))) n qs (pick xs none none) total

abbrev at_finest : ℕ → Control Cubic → ℕ → List ℕ → List ℤ → Option ℕ → Row
at_finest = of_degree Cubic

-- the document's rows
abbrev in_x_alone : Control Cubic → ℕ → List ℕ → List ℤ → Option ℕ → Row
in_x_alone = at_finest 11

unfoldable pub moving : List Row
moving =
    -- A: 0,1,2,3, level 0, limits 65,536 and 32,768: positions 0, 512, 1024, 1536, 2048; x 0, 1, 2, 2, 3; in the listing: length 3000
    in_x_alone (engine.line (pos 0) (pos 1) (pos 2) (pos 3)) 0
    (0 ∷ 512 ∷ 1024 ∷ 1536 ∷ 2048 ∷ [])
    (pos 0 ∷ pos 1 ∷ pos 2 ∷ pos 2 ∷ pos 3 ∷ [])
    (some 3000)
    -- B: 3,2,1,0, same: x 3, 2, 2, 1, 0
    ∷ in_x_alone (engine.line (pos 3) (pos 2) (pos 1) (pos 0)) 0
    (0 ∷ 512 ∷ 1024 ∷ 1536 ∷ 2048 ∷ [])
    (pos 3 ∷ pos 2 ∷ pos 2 ∷ pos 1 ∷ pos 0 ∷ [])
    none
    ∷ []

unfoldable pub still : List Row
still =
    -- K: all points equal, level 5, limits as in A: two entries, positions 0 and 2048; here at 0 and at both ends of the coordinates
    in_x_alone (engine.flat Cubic (pos 0)) 5 (0 ∷ 2048 ∷ []) (pos 0 ∷ pos 0 ∷ []) none
    ∷ in_x_alone (engine.flat Cubic (pos 16383)) 5 (0 ∷ 2048 ∷ []) (pos 16383 ∷ pos 16383 ∷ []) none
    ∷ in_x_alone (engine.flat Cubic (negsuc 16383)) 5 (0 ∷ 2048 ∷ []) (negsuc 16383 ∷ negsuc 16383 ∷ []) none
    ∷ []

unfoldable pub widening : List Row
widening =
    -- the width alone moves, widths 0, 682, 1364, 2046, level 0: it takes no part in choosing, so that there are two entries
    row Cubic 11 (pick (engine.flat Cubic (pos 0)) (engine.flat Cubic (pos 0)) (engine.line (pos 0) (pos 682) (pos 1364) (pos 2046))) 0
    (0 ∷ 2048 ∷ [])
    (pick (pos 0 ∷ pos 0 ∷ []) (pos 0 ∷ pos 0 ∷ []) (pos 0 ∷ pos 2046 ∷ []))
    (some 0)
    -- x as in A, y as in B, and a lane that narrows from 24 to 9
    ∷ row Cubic 11 (pick (engine.line (pos 0) (pos 1) (pos 2) (pos 3)) (engine.line (pos 3) (pos 2) (pos 1) (pos 0)) (engine.line (pos 24) (pos 19) (pos 14) (pos 9))) 0
    (0 ∷ 512 ∷ 1024 ∷ 1536 ∷ 2048 ∷ [])
    (pick (pos 0 ∷ pos 1 ∷ pos 2 ∷ pos 2 ∷ pos 3 ∷ []) (pos 3 ∷ pos 2 ∷ pos 2 ∷ pos 1 ∷ pos 0 ∷ []) (pos 24 ∷ pos 20 ∷ pos 17 ∷ pos 13 ∷ pos 9 ∷ []))
    (some 4828)
    ∷ []

-- A's points and L's, as many positions and points as at 11
unfoldable pub finer : List Row
finer =
    at_finest 6 (engine.line (pos 0) (pos 1) (pos 2) (pos 3)) 6
    (0 ∷ 16 ∷ 32 ∷ 48 ∷ 64 ∷ [])
    (pos 0 ∷ pos 1 ∷ pos 2 ∷ pos 2 ∷ pos 3 ∷ [])
    (some 3000)
    ∷ at_finest 6 (engine.line (pos 0) (pos 0) (pos 0) (pos 8)) 0
    (0 ∷ 32 ∷ 40 ∷ 44 ∷ 48 ∷ 52 ∷ 54 ∷ 56 ∷ 58 ∷ 60 ∷ 62 ∷ 64 ∷ [])
    (pos 0 ∷ pos 1 ∷ pos 2 ∷ pos 3 ∷ pos 3 ∷ pos 4 ∷ pos 5 ∷ pos 5 ∷ pos 6 ∷ pos 7 ∷ pos 7 ∷ pos 8 ∷ [])
    (some 8000)
    ∷ at_finest 12 (engine.line (pos 0) (pos 1) (pos 2) (pos 3)) 12
    (0 ∷ 1024 ∷ 2048 ∷ 3072 ∷ 4096 ∷ [])
    (pos 0 ∷ pos 1 ∷ pos 2 ∷ pos 2 ∷ pos 3 ∷ [])
    (some 3000)
    ∷ at_finest 12 (engine.line (pos 0) (pos 0) (pos 0) (pos 8)) 0
    (0 ∷ 2048 ∷ 2560 ∷ 2816 ∷ 3072 ∷ 3328 ∷ 3456 ∷ 3584 ∷ 3712 ∷ 3840 ∷ 3968 ∷ 4096 ∷ [])
    (pos 0 ∷ pos 1 ∷ pos 2 ∷ pos 3 ∷ pos 3 ∷ pos 4 ∷ pos 5 ∷ pos 5 ∷ pos 6 ∷ pos 7 ∷ pos 7 ∷ pos 8 ∷ [])
    (some 8000)
    ∷ []

-- quadratics: 0,1,2, which is even; 2,1,0 from the other end; 0,0,4, which sets out slowly, at 11, at 6 and at 12; all points equal
unfoldable pub bending : List Row
bending =
    of_degree Quadratic 11 (engine.bend (pos 0) (pos 1) (pos 2)) 0 (0 ∷ 1024 ∷ 2048 ∷ []) (pos 0 ∷ pos 1 ∷ pos 2 ∷ []) (some 2000)
    ∷ of_degree Quadratic 11 (engine.bend (pos 2) (pos 1) (pos 0)) 0 (0 ∷ 1024 ∷ 2048 ∷ []) (pos 2 ∷ pos 1 ∷ pos 0 ∷ []) (some 2000)
    ∷ of_degree Quadratic 11 (engine.bend (pos 0) (pos 0) (pos 4)) 0
    (0 ∷ 1024 ∷ 1280 ∷ 1536 ∷ 1792 ∷ 2048 ∷ [])
    (pos 0 ∷ pos 1 ∷ pos 2 ∷ pos 2 ∷ pos 3 ∷ pos 4 ∷ [])
    (some 4000)
    ∷ of_degree Quadratic 6 (engine.bend (pos 0) (pos 0) (pos 4)) 6
    (0 ∷ 32 ∷ 40 ∷ 48 ∷ 56 ∷ 64 ∷ [])
    (pos 0 ∷ pos 1 ∷ pos 2 ∷ pos 2 ∷ pos 3 ∷ pos 4 ∷ [])
    (some 4000)
    ∷ of_degree Quadratic 12 (engine.bend (pos 0) (pos 0) (pos 4)) 0
    (0 ∷ 2048 ∷ 2560 ∷ 3072 ∷ 3584 ∷ 4096 ∷ [])
    (pos 0 ∷ pos 1 ∷ pos 2 ∷ pos 2 ∷ pos 3 ∷ pos 4 ∷ [])
    (some 4000)
    ∷ of_degree Quadratic 11 (engine.flat Quadratic (negsuc 16383)) 5 (0 ∷ 2048 ∷ []) (negsuc 16383 ∷ negsuc 16383 ∷ []) (some 0)
    ∷ []

-- A and B, the engine's C to J and its rows at other finest levels and of quadratics, K, the width's, those at other finest levels, and quadratics
unfoldable pub table : List Case
table = map draws moving ++ (map calls engine.table ++ (map draws still ++ (map draws widening ++ (map draws finer ++ map draws bending))))

-- ---- one test for all

abbrev tests : Row → List Bool
tests w =
    let a : Drawn = answer w in
    let m : Drawn = measured (path_of w) in
    every_coordinate (λ c. eqb (length (w.shown c)) (length w.positions))
    ∷ eqb a.refusal 0
    ∷ eqb a.points (length w.positions)
    ∷ engine.agrees eqb w.total a.length
    ∷ eqbℤs (written (path_of w) (lent w)) (numbers_of w ++ unwritten 2)
    ∷ eqb m.refusal a.refusal
    ∷ eqb m.points a.points
    ∷ eqb m.length a.length
    ∷ []

abbrev right : Row → Bool
right w = engine.all (tests w)

each_coordinate : (holds : Coordinate → Bool) → T (every_coordinate holds) → (c : Coordinate) → T (holds c)
unfolding every_coordinate
each_coordinate holds t in_x = (and_yes (holds in_x) (holds in_y) (and_yes (holds in_x && holds in_y) (holds in_width) t).0).0
each_coordinate holds t in_y = (and_yes (holds in_x) (holds in_y) (and_yes (holds in_x && holds in_y) (holds in_width) t).0).1
each_coordinate holds t in_width = (and_yes (holds in_x && holds in_y) (holds in_width) t).1

right_listed : (w : Row) → T (right w) → Listed w
right_listed w t =
    let a = answer w in
    let m = measured (path_of w) in
    let ts = engine.each (tests w) t in
    let us = ts.1.1.1.1.1 in
    record {
      paired = λ c. eqb→eq _ _ (each_coordinate (λ c. eqb (length (w.shown c)) (length w.positions)) ts.0 c);
      refusal = eqb→eq a.refusal 0 ts.1.0;
      points = eqb→eq a.points (length w.positions) ts.1.1.0;
      total = engine.agreed eqb eqb→eq w.total a.length ts.1.1.1.0;
      list = eqbℤs→eq (written (path_of w) (lent w)) (numbers_of w ++ unwritten 2) ts.1.1.1.1.0;
      alike =
          λ i. record {
            refusal = eqb→eq m.refusal a.refusal us.0 i;
            points = eqb→eq m.points a.points us.1.0 i;
            length = eqb→eq m.length a.length us.1.1.0 i;
          };
    }

all_listed : (ws : List Row) → T (every right ws) → All Holds (map draws ws)
all_listed ws t = all_map Holds draws ws (tested Listed right right_listed ws t)

pub starred : All Holds table
unfolding table moving still widening finer bending every_coordinate drawn written measured draw_refusal path_refusal points_refusal is_finest reach is_segments is_size are_points are_chained are_beside is_coordinate
    are_neighbours is_level are_limits entries following rest first control point_at curve start_registers turns turns_in choose wants_halve
    wants_double increment doubled_increment is_aligned turned turn shown_by entry pixel flat length_of length_from move_length
starred =
    let lanes = map draws widening ++ (map draws finer ++ map draws bending) in
    all_append Holds (map draws moving) (map calls engine.table ++ (map draws still ++ lanes)) (all_listed moving tt)
    (all_append Holds (map calls engine.table) (map draws still ++ lanes) (all_map Holds calls engine.table engine.starred)
    (all_append Holds (map draws still) lanes (all_listed still tt)
    (all_append Holds (map draws widening) (map draws finer ++ map draws bending) (all_listed widening tt)
    (all_append Holds (map draws finer) (map draws bending) (all_listed finer tt) (all_listed bending tt)))))
