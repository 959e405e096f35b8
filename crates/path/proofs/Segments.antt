-- What is known of each segment of an accepted path.
use mathlib.Core.Path.{◌≡◌, refl, sym, ap, ◌∙◌, subst}
use mathlib.Core.Bool.{true}
use mathlib.Core.List.{List, [], ◌∷◌, ◌++◌}
use Prim.Native.Nat.{ℕ, ◌^◌, ◌<◌}
use Rattle.rules.specs.Rules.{are_limits}
use Rattle.rules.proofs.Laws.{Fine}
use Rattle.coordinate.specs.Registers.{Operation}
use Rattle.coordinate.proofs.Sizes.{Tame}
use Rattle.coordinate.proofs.Stands.{Bounded, bounded}
use Rattle.operations.specs.Coordinates.{Coordinate}
use Rattle.operations.specs.Position.{is_drawing}
use Rattle.engine.specs.declared.Drawing.{Drawing}
use Rattle.engine.specs.Moved.{Moved}
use Rattle.engine.specs.Drawing.{called}
use Rattle.engine.specs.Start.{started}
use Rattle.engine.specs.Choice.{chosen}
use Rattle.engine.proofs.Accepted.{accepted, start_begins}
use Rattle.distance.specs.Calls.{after}
use Rattle.distance.proofs.Kept.{Kept, kept_inside, kept_turned}
use Rattle.distance.proofs.Calls.{first_kept, after_one}
use Rattle.distance.proofs.Choice.{kept_chosen, chosen_accepted}
use Rattle.distance.proofs.Demand3.{start_tame}
use Rattle.path.specs.Path.{Path, path_refusal, controls, courses, first}
use Rattle.path.specs.Segment.{next}
use Rattle.path.proofs.Accepted.{passed, segment_accepted}

-- d is a drawing of segment k
abbrev pub Of : Path → ℕ → Drawing → Type 0
Of p k d = Kept p.finest (λ c. (courses p.degree p.points k c).curve) d

-- its courses are tame, so that its registers fit; choosing answers; and it starts as a drawing of it
pub record Sound (p : Path) (k : ℕ) : Type 0 where
  pub fine : Fine p.finest
  pub tame : (c : Coordinate) → Tame p.finest (courses p.degree p.points k c)
  pub limits : are_limits p.upper p.lower ≡ true
  pub first : Of p k (first p.degree p.finest p.points p.level k)

pub sound : (p : Path) → path_refusal p ≡ 0 → (k : ℕ) → k < p.segments → Sound p k
unfolding first
sound p e k l =
    let a = accepted p.degree p.finest (controls p.degree p.points k) p.level (segment_accepted p e k l) in
    record {
      fine = a.fine;
      tame = start_tame p.degree p.finest (controls p.degree p.points k) p.level a;
      limits = (passed p e).limits;
      first = first_kept p.finest (λ c. (courses p.degree p.points k c).curve) p.level a.fine a.level;
    }

-- the first drawing of segment k is what the engine's start answers
pub begun_first : (p : Path) → path_refusal p ≡ 0 → (k : ℕ) → k < p.segments
    → started p.degree p.finest (controls p.degree p.points k) p.level ≡ record { refusal = 0; drawing = first p.degree p.finest p.points p.level k }
unfolding first
begun_first p e k l = start_begins p.degree p.finest (controls p.degree p.points k) p.level (segment_accepted p e k l)

-- ---- the drawings of a segment

module _ (p : Path) (k : ℕ) where
  pub fits : Sound p k → (c : Coordinate) → Bounded p.finest (courses p.degree p.points k c).curve
  fits s c = bounded p.finest (courses p.degree p.points k c) s.fine.most (s.tame c)

  pub of_inside : (d : Drawing) → Of p k d → is_drawing p.finest d.level d.q ≡ true
  of_inside d = kept_inside p.finest _ d

  -- by its own finest level
  pub of_lies : (d : Drawing) → Of p k d → is_drawing d.finest d.level d.q ≡ true
  of_lies d on = subst (λ (G : ℕ). is_drawing G d.level d.q ≡ true) (sym on.finest) (of_inside d on)

  pub of_next : (d : Drawing) → Of p k d → d.q < 2 ^ p.finest → Of p k (next p.upper p.lower d)
  of_next d on h = kept_turned p.finest _ d (chosen p.upper p.lower d) on (kept_chosen p.finest _ d on p.upper p.lower h)

  -- reached from the start by calls
  pub record Held (d : Drawing) : Type 0 where
    pub on : Of p k d
    pub calls : List Operation
    pub reached : after calls (first p.degree p.finest p.points p.level k) ≡ d

  pub held_first : Sound p k → Held (first p.degree p.finest p.points p.level k)
  held_first s = record { on = s.first; calls = []; reached = refl }

  pub held_next : Sound p k → (d : Drawing) → Held d → d.q < 2 ^ p.finest → Held (next p.upper p.lower d)
  held_next s d t h =
      let op = chosen p.upper p.lower d in
      record {
        on = of_next d t.on h;
        calls = t.calls ++ op ∷ [];
        reached =
            after_one t.calls op (first p.degree p.finest p.points p.level k)
            ∙ ap (λ (e : Drawing). (called op e).drawing) t.reached
            ∙ ap (λ (m : Moved). m.drawing) (chosen_accepted p.finest _ d t.on p.upper p.lower (fits s) h);
      }
