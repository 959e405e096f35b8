-- The entries of one segment: they go from its first control point to its last, touch one another, rise, and stand where the exact curve
-- stands; and there are at most 2^F of them.
use mathlib.Core.Path.{◌≡◌, sym, ap, ◌∙◌, subst}
use Prim.Native.Nat.{ℕ, suc, ◌+◌, ◌*◌, ◌-◌, ◌^◌, ◌≤◌, ◌<◌}
use native.Mathlib.Omega.{arith}
use lib.Dec.{lt→ltb}
use lib.IntN.{pos}
use lib.ListN.{length}
use lib.Pow.{pow_pos, pow_mono}
use Rattle.numbers.specs.Tables.{All}
use Rattle.rules.specs.Rules.{degree}
use Rattle.rules.proofs.Laws.{limits_hold}
use Rattle.coordinate.specs.Registers.{step}
use Rattle.coordinate.specs.Shown.{pixel}
use Rattle.coordinate.specs.Stands.{Stands}
use Rattle.coordinate.proofs.Stands.{stands}
use Rattle.operations.specs.Coordinates.{Coordinate, in_x, in_y, in_width}
use Rattle.operations.specs.ThreeRules.{Rule1}
use Rattle.engine.specs.declared.Drawing.{Drawing}
use Rattle.engine.specs.Moved.{Moved}
use Rattle.engine.specs.Drawing.{of, turned}
use Rattle.distance.specs.Calls.{after, travelled}
use Rattle.distance.specs.Demand3.{Demand3}
use Rattle.distance.proofs.Touching.{touches}
use Rattle.distance.proofs.Demand3.{demand_3}
use Rattle.distance.proofs.Sixteenth.{sixteenth_of}
use Rattle.entries.specs.declared.Entry.{Entry}
use Rattle.entries.specs.Entries.{Linked, last_of}
use Rattle.path.specs.Path.{Path, path_refusal, point_at, place, controls, courses}
use Rattle.path.specs.Entries.{entry, rest}
use Rattle.path.specs.Listed.{begins, corner, Follows, Placed}
use Rattle.path.proofs.Accepted.{segment_accepted}
use Rattle.path.proofs.Points.{first_point, last_point}
use Rattle.path.proofs.Segments.{Of, Sound, begun_first, Held}
use Rattle.path.proofs.Walk.{walk}

-- ---- its ends

module _ (p : Path) (k : ℕ) (s : Sound p k) where
  abbrev F : ℕ
  F = p.finest

  -- each coordinate stands where its course stands
  of_stands : (d : Drawing) → Of p k d → (c : Coordinate) → Stands F (courses p.degree p.points k c) d.q (of c d)
  of_stands d on c = stands F (courses p.degree p.points k c) d.level on.below d.q (of c d) s.fine.most (s.tame c) (on.on c)

  shown_first : (d : Drawing) → Of p k d → d.q ≡ 0 → (c : Coordinate) → pixel (of c d) ≡ point_at p.points (place c) (degree p.degree * k)
  shown_first d on e c = (of_stands d on c).first_shown e ∙ first_point p.degree p.points (place c) k

  shown_last : (d : Drawing) → Of p k d → d.q ≡ 2 ^ F → (c : Coordinate) → pixel (of c d) ≡ point_at p.points (place c) (degree p.degree * (k + 1))
  shown_last d on e c = (of_stands d on c).last_shown e ∙ last_point p.degree p.points (place c) k

  pub entry_first : (d : Drawing) → Of p k d → d.q ≡ 0 → entry F k d ≡ corner p.degree F p.points k
  unfolding entry corner
  entry_first d on e =
      let n : 2 ^ F * k + d.q ≡ 2 ^ F * k = omega arith in
      let shown = shown_first d on e in
      λ i. record { position = pos (n i); x = shown in_x i; y = shown in_y i; width = shown in_width i }

  entry_last : (d : Drawing) → Of p k d → d.q ≡ 2 ^ F → entry F k d ≡ corner p.degree F p.points (k + 1)
  unfolding entry corner
  entry_last d on e =
      let n : 2 ^ F * k + d.q ≡ 2 ^ F * (k + 1) = omega arith in
      let shown = shown_last d on e in
      λ i. record { position = pos (n i); x = shown in_x i; y = shown in_y i; width = shown in_width i }

  pub span_last : (d : Drawing) → Held p k d → last_of (entry F k d) (rest p k d) ≡ corner p.degree F p.points (k + 1)
  span_last =
      walk p k s (λ d es. last_of (entry F k d) es ≡ corner p.degree F p.points (k + 1))
      (λ d held. entry_last d held.on)
      (λ d d' e f es l. ap (λ (x : Entry). last_of x es) (sym f) ∙ l)
      (λ d held held' b w es l. l)

  -- ---- its entries touch and rise

  step_follows : (d : Drawing) → Of p k d → d.q < 2 ^ F → (Rule1 p.finest p.upper d.level (λ c. of c d) → ⊥) → Follows (entry F k d) (entry F k (turned step d))
  unfolding entry turned
  step_follows d on b e =
      let upper = (limits_hold p.upper p.lower s.limits).most in
      let t = touches F p.upper (courses p.degree p.points k) d (omega (arith, s.fine.most)) (pow_mono {i = 1} (omega (arith, s.fine.least))) s.tame on upper e b in
      let l : 2 ^ F * k + d.q < 2 ^ F * k + (d.q + 2 ^ (d.finest - d.level)) = omega (arith, pow_pos (d.finest - d.level)) in
      record { rises = record { lt = lt→ltb (2 ^ F * k + d.q) (2 ^ F * k + (d.q + 2 ^ (d.finest - d.level))) l }; x = t in_x tt; y = t in_y tt }

  pub span_linked : (d : Drawing) → Held p k d → Linked Follows (entry F k d) (rest p k d)
  span_linked =
      walk p k s (λ d es. Linked Follows (entry F k d) es)
      (λ d held e. tt)
      (λ d d' e f es l. subst (λ (x : Entry). Linked Follows x es) f l)
      (λ d held held' b e es l. (step_follows d held.on b e, l))

  -- ---- how many they are

  one_more : (d : Drawing) (n : ℕ) → n + (turned step d).q ≤ 2 ^ F → suc n + d.q ≤ 2 ^ F
  unfolding turned
  one_more d n l = omega (arith, pow_pos (d.finest - d.level))

  pub span_count : (d : Drawing) → Held p k d → length (rest p k d) + d.q ≤ 2 ^ F
  span_count =
      walk p k s (λ d es. length es + d.q ≤ 2 ^ F)
      (λ d held e. omega arith)
      (λ d d' e f es l. omega arith)
      (λ d held held' b e es l. one_more d (length es) l)

  -- ---- they stand where the exact curve stands

  module _ (e : path_refusal p ≡ 0) (l : k < p.segments) where
    pub placed_at : (d : Drawing) → Held p k d → Placed p (entry F k d)
    placed_at d held =
        let start = ap (λ (m : Moved). m.drawing) (begun_first p e k l) in
        let demand = demand_3 p.degree F (controls p.degree p.points k) p.level (segment_accepted p e k l) held.calls in
        record {
          k = k;
          segment = l;
          calls = held.calls;
          shown = sym (ap (λ (s : Drawing). entry F k (after held.calls s)) start ∙ ap (entry F k) held.reached);
          demand = demand;
          sixteenth = λ f _.
              sixteenth_of (courses p.degree p.points k) _ _
              (subst (λ (G : ℕ). Demand3 G (courses p.degree p.points k) (after held.calls (begins p k)) (travelled held.calls (begins p k))) f demand);
        }

    pub span_placed : (d : Drawing) → Held p k d → All (Placed p) (rest p k d)
    span_placed =
        walk p k s (λ d es. All (Placed p) es)
        (λ d held end. tt)
        (λ d d' q f es all. all)
        (λ d held held' b w es all. (placed_at (turned step d) held', all))
