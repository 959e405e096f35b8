-- What document 01 says of the list of an accepted path, beside its numbers, at the path's finest level F.
use Rattle.std.specs.Prelude.{◌≡◌, List, ◌∷◌, map, ℕ, ◌+◌, ◌*◌, ◌^◌, ◌≤◌, ◌<◌, ℤ, pos, nat_abs, ◌-ℤ◌, ◌*ℤ◌, length, ◌≤ℤ◌, ◌<ℤ◌}
use Rattle.numbers.specs.Tables.{All}
use Rattle.rules.specs.declared.Degree.{Degree}
use Rattle.rules.specs.declared.Degree.TheVariants.{Quadratic, Cubic}
use Rattle.rules.specs.Rules.{degree}
use Rattle.coordinate.specs.Control.{Control}
use Rattle.coordinate.specs.Curve.{curve, exact, off}
use Rattle.coordinate.specs.Registers.{Operation}
use Rattle.operations.specs.Coordinates.{Coordinate, in_x, in_y, in_width, pick}
use Rattle.engine.specs.declared.Drawing.{Drawing}
use Rattle.engine.specs.Start.{started}
use Rattle.distance.specs.Calls.{after, travelled}
use Rattle.distance.specs.Demand3.{Demand3}
use Rattle.distance.specs.Sixteenth.{Sixteenth}
use Rattle.entries.specs.declared.Entry.{Entry}
use Rattle.entries.specs.Entries.{flat, Among, Linked, last_of}
use Rattle.entries.specs.Length.{length_of}
use Rattle.path.specs.Path.{Path, point_at, place, controls, courses}
use Rattle.path.specs.Entries.{entry, entries}
use Rattle.path.specs.Steps.{Goes, after_steps, shown_at, in_order}

-- where segment k starts: what the engine's start answers, at the path's start level
abbrev pub begins : Path → ℕ → Drawing
begins p k = (started p.degree p.finest (controls p.degree p.points k) p.level).drawing

-- control point Dk with its width, at its position on the path
unfoldable pub corner : Degree → ℕ → List ℤ → ℕ → Entry
corner D F points k =
    record {
      position = pos (2 ^ F * k);
      x = point_at points (place in_x) (degree D * k);
      y = point_at points (place in_y) (degree D * k);
      width = point_at points (place in_width) (degree D * k);
    }

-- neighbouring entries: the position rises, and x and y differ by at most 1; the width may differ by more
pub record Follows (e f : Entry) : Type 0 where
  pub rises : e.position <ℤ f.position
  pub x : nat_abs (f.x -ℤ e.x) ≤ 1
  pub y : nat_abs (f.y -ℤ e.y) ≤ 1

-- an entry stands at its parameter: it is the point shown of a drawing that calls lead to from the start of segment k, and of that drawing
-- demand 3 holds, and on a cubic path at F = 11 order 13
pub record Placed (p : Path) (e : Entry) : Type 0 where
  pub k : ℕ
  pub segment : k < p.segments
  pub calls : List Operation
  pub shown : e ≡ entry p.finest k (after calls (begins p k))
  pub demand : Demand3 p.finest (courses p.degree p.points k) (after calls (begins p k)) (travelled calls (begins p k))
  pub sixteenth : p.finest ≡ 11 → p.degree ≡ Cubic
      → Sixteenth (λ c. (courses p.degree p.points k c).curve) (after calls (begins p k)) (travelled calls (begins p k))

-- An entry stands where its position says: wherever that is 2^F·k + q, at a join for both segments, x, y and the width are less than half a unit and
-- one and a half 2^F 65,536ths from the exact curve of segment k at t = q / 2^F.
pub record Near (p : Path) (e : Entry) : Type 0 where
  pub at : ℕ
  pub position : e.position ≡ pos at
  pub inside : at ≤ 2 ^ p.finest * p.segments
  pub near : (k q : ℕ) → k < p.segments → q ≤ 2 ^ p.finest → at ≡ 2 ^ p.finest * k + q → (c : Coordinate)
      → 2 * off p.finest (courses p.degree p.points k c).curve q (pos 65536 *ℤ pick e.x e.y e.width c)
      < (65536 + 3 * 2 ^ p.finest) * 2 ^ (3 * p.finest)

pub record Listed (p : Path) : Type 0 where
  -- the list starts at the path's first control point, ends at its last, and has control point Dk at each 2^F·k
  pub after : List Entry
  pub starts : entries p ≡ corner p.degree p.finest p.points 0 ∷ after
  pub ends : last_of (corner p.degree p.finest p.points 0) after ≡ corner p.degree p.finest p.points p.segments
  pub corners : (k : ℕ) → k ≤ p.segments → Among (corner p.degree p.finest p.points k) (entries p)
  -- neighbours touch, over joins too, and positions rise strictly
  pub linked : Linked Follows (corner p.degree p.finest p.points 0) after
  -- each entry stands where the exact curve stands
  pub placed : All (Placed p) (entries p)
  pub near : All (Near p) (entries p)
  -- in each segment every chosen operation is accepted; after the start the list has the point shown after each step, in order, and nothing else
  pub calls : ℕ → List Operation
  pub goes : (k : ℕ) → k < p.segments → Goes p.upper p.lower (begins p k) (calls k)
  pub steps : after ≡ in_order p.segments (λ k. map (shown_at p.finest k) (after_steps (calls k) (begins p k)))
  -- at most 2^F points a segment after the start, each at most 1,414 away
  pub count : length (entries p) ≤ 2 ^ p.finest * p.segments + 1
  pub total : length_of (entries p) ≤ 1414 * (2 ^ p.finest * p.segments)

-- ---- whatever the finest level: at most 64 segments of 4,096 positions, so that the list's numbers and its length fit 32 bits

pub record Most (p : Path) : Type 0 where
  pub positions : All (λ e. e.position ≤ℤ pos 262144) (entries p)
  pub points : length (entries p) ≤ 262145
  pub numbers : length (flat (entries p)) ≤ 1048580
  pub total : length_of (entries p) ≤ 370671616

-- ---- at F = 11, in the document's own numbers

-- segment k uses points 2k to 2k + 2 of a quadratic path, 3k to 3k + 3 of a cubic one: coordinate c of them
abbrev pub segment_points : (D : Degree) → List ℤ → ℕ → ℕ → Control D
segment_points Quadratic points c k =
    record { p0 = point_at points c (2 * k); p1 = point_at points c (2 * k + 1); p2 = point_at points c (2 * k + 2) }
segment_points Cubic points c k =
    record { p0 = point_at points c (3 * k); p1 = point_at points c (3 * k + 1); p2 = point_at points c (3 * k + 2); p3 = point_at points c (3 * k + 3) }

-- and starts from the first of them
abbrev pub corner_of : Degree → ℕ → ℕ
corner_of Quadratic k = 2 * k
corner_of Cubic k = 3 * k

-- Position is 2,048·k + q; half a unit and 3,072 are 35,840. `exact 11 f q` is A·q³ + B·q²·2^11 + C·q·2^22 + D·2^33.
pub record NearInNumbers (p : Path) (e : Entry) : Type 0 where
  pub at : ℕ
  pub position : e.position ≡ pos at
  pub inside : at ≤ 2048 * p.segments
  pub near : (k q : ℕ) → k < p.segments → q ≤ 2048 → at ≡ 2048 * k + q → (c : Coordinate)
      → nat_abs (pos 65536 *ℤ pick e.x e.y e.width c *ℤ pos (2 ^ 33) -ℤ pos 65536 *ℤ exact 11 (curve p.degree (segment_points p.degree p.points (pick 0 1 2 c) k)) q)
      < 35840 * 2 ^ 33

-- the corners stand at 2,048·k, every entry is near the exact curve, and the most points and length
pub record InNumbers (p : Path) : Type 0 where
  pub corners : (k : ℕ) → k ≤ p.segments
      → Among
      (record {
        position = pos (2048 * k);
        x = point_at p.points 0 (corner_of p.degree k);
        y = point_at p.points 1 (corner_of p.degree k);
        width = point_at p.points 2 (corner_of p.degree k);
      })
      (entries p)
  pub near : All (NearInNumbers p) (entries p)
  pub count : length (entries p) ≤ 2048 * p.segments + 1
  pub total : length_of (entries p) ≤ 1414 * (2048 * p.segments)
