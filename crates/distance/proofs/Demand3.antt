-- Demand 3, as one theorem over both degrees, every finest level, every curve and start level that are accepted and every list of calls, refused ones
-- included.
use mathlib.Core.Path.{◌≡◌, refl, sym, ap, ◌∙◌}
use mathlib.Core.Bool.{true}
use mathlib.Core.List.{List}
use Prim.Native.Nat.{ℕ, zero, suc, ◌^◌, ◌≤◌, ◌<◌}
use native.Mathlib.Nat.{zero-add}
use native.Mathlib.Omega.{arith}
use Rattle.rules.specs.declared.Degree.{Degree}
use Rattle.rules.specs.Rules.{reach, are_limits}
use Rattle.rules.proofs.Laws.{Fine}
use Rattle.rules.proofs.Reaches.{reach_most, reach_room}
use Rattle.coordinate.specs.Control.{Control}
use Rattle.coordinate.specs.Course.{Course, course}
use Rattle.coordinate.specs.Registers.{Operation, halve, double, are_registers}
use Rattle.coordinate.proofs.Points.{extent, reaches}
use Rattle.coordinate.proofs.Sizes.{Tame}
use Rattle.coordinate.proofs.Tame.{tame}
use Rattle.coordinate.proofs.Stands.{Bounded, bounded, stands}
use Rattle.coordinate.proofs.Stands as coordinate
use Rattle.operations.specs.Coordinates.{Coordinate}
use Rattle.operations.specs.Refusals.{start_refusal}
use Rattle.operations.proofs.Gates.{inside}
use Rattle.engine.specs.declared.Drawing.{Drawing}
use Rattle.engine.specs.Moved.{Moved}
use Rattle.engine.specs.Drawing.{of, turned, moved, called}
use Rattle.engine.specs.Start.{first_drawing, started}
use Rattle.engine.specs.Choice.{chosen}
use Rattle.engine.proofs.Accepted.{Accepted, accepted, start_begins}
use Rattle.distance.specs.Calls.{after, travelled, ruled}
use Rattle.distance.specs.Demand3.{Goes, Demand3, Eleven}
use Rattle.distance.proofs.Kept.{Kept, kept_inside, kept_fits, kept_turned, call_settled}
use Rattle.distance.proofs.Calls.{first_kept, after_kept, after_travelled}
use Rattle.distance.proofs.Back.{double_undoes_halve, halve_undoes_double}
use Rattle.distance.proofs.Choice.{choice_answers, chosen_accepted}

-- ---- a drawing that was reached

pub record Reached (F : ℕ) (p : Coordinate → Course) (d : Drawing) (along : ℕ) : Type 0 where
  pub tame : (c : Coordinate) → Tame F (p c)
  pub kept : Kept F (λ c. (p c).curve) d
  pub parameter : d.q ≡ along

pub reached : (F : ℕ) (p : Coordinate → Course) (n : ℕ) → Fine F → n ≤ F → ((c : Coordinate) → Tame F (p c)) → (ops : List Operation)
    → let d = first_drawing F (λ c. (p c).curve) n in Reached F p (after ops d) (travelled ops d)
reached F p n f l tame ops =
    let fits : (c : Coordinate) → Bounded F (p c).curve = λ c. bounded F (p c) f.most (tame c) in
    let d = first_drawing F (λ c. (p c).curve) n in
    let k = first_kept F (λ c. (p c).curve) n f l in
    record {
      tame = tame;
      kept = after_kept F (λ c. (p c).curve) fits ops d k;
      parameter = after_travelled F (λ c. (p c).curve) fits ops d k ∙ zero-add (travelled ops d);
    }

-- ---- demand 3 holds of it

moved_zero : (k : ℕ) (old new : Drawing) → (moved k old new).refusal ≡ 0 → k ≡ 0
moved_zero zero old new e = refl
moved_zero (suc k) old new e = e

module _ (F : ℕ) (p : Coordinate → Course) (d : Drawing) (along : ℕ) (r : Reached F p d along) where
  fits : (c : Coordinate) → Bounded F (p c).curve
  fits c = bounded F (p c) r.kept.fine.most (r.tame c)

  settles : (op : Operation) → called op d ≡ moved (ruled F op d.level d.q) d (turned op d)
  settles op = call_settled F (λ c. (p c).curve) fits d op r.kept

  by_rule : (op : Operation) → (called op d).refusal ≡ 0 → ruled F op d.level d.q ≡ 0
  by_rule op e =
      moved_zero (ruled F op d.level d.q) d (turned op d) (ap (λ (m : Moved). m.refusal) (sym (settles op)) ∙ e)

  fit : (op : Operation) → ruled F op d.level d.q ≡ 0 → (c : Coordinate) → are_registers (of c (turned op d)) ≡ true
  fit op e = kept_fits F (λ c. (p c).curve) fits (turned op d) (kept_turned F (λ c. (p c).curve) d op r.kept e)

  next_goes : (upper lower : ℕ) → are_limits upper lower ≡ true → d.q < 2 ^ F → Goes d upper lower
  next_goes upper lower l h =
      record {
        operation = chosen upper lower d;
        named = choice_answers F (λ c. (p c).curve) d r.kept upper lower l h;
        accepted = ap (λ (m : Moved). m.refusal) (chosen_accepted F (λ c. (p c).curve) d r.kept upper lower fits h);
      }

  pub meets : Demand3 F p d along
  meets =
      let k = r.kept in
      record {
        finest = k.finest;
        parameter = r.parameter;
        inside = kept_inside F (λ c. (p c).curve) d k;
        stands = λ c. stands F (p c) d.level k.below d.q (of c d) k.fine.most (r.tame c) (k.on c);
        call = settles;
        new = fit;
        back = λ e. double_undoes_halve F (λ c. (p c).curve) fits d k (by_rule halve e);
        forth = λ e. halve_undoes_double F (λ c. (p c).curve) fits d k (by_rule double e);
        goes = next_goes;
      }

-- ---- from an accepted start, of either degree

pub start_tame : (D : Degree) (F : ℕ) (p : Coordinate → Control D) (n : ℕ) → Accepted D F p n → (c : Coordinate) → Tame F (course D (p c))
start_tame D F p n a c =
    tame D F (reach D F) (p c) (omega (arith, a.fine.most)) (reach_most D F) (reach_room D F a.fine) (extent D (p c) (a.coordinates c))
    (reaches D (reach D F) (p c) (a.near c))

pub demand_3 : (D : Degree) (F : ℕ) (p : Coordinate → Control D) (n : ℕ) → start_refusal D F p n ≡ 0 → (ops : List Operation)
    → Demand3 F (λ c. course D (p c)) (after ops (started D F p n).drawing) (travelled ops (started D F p n).drawing)
demand_3 D F p n e ops =
    let a = accepted D F p n e in
    rw (start_begins D F p n e) (meets F (λ c. course D (p c)) _ _ (reached F (λ c. course D (p c)) n a.fine a.level (start_tame D F p n a) ops))

-- ---- in the demand's own numbers

pub in_numbers : (D : Degree) (p : Coordinate → Control D) (n : ℕ) → start_refusal D 11 p n ≡ 0 → (ops : List Operation)
    → Eleven D p (after ops (started D 11 p n).drawing) (travelled ops (started D 11 p n).drawing)
in_numbers D p n e ops =
    let t = demand_3 D 11 p n e ops in
    let i = inside 11 _ _ t.inside in
    record {
      finest = t.finest;
      parameter = t.parameter;
      level = i.level;
      position = i.position;
      stands = λ c. coordinate.in_numbers D (p c) _ _ (t.stands c);
    }
